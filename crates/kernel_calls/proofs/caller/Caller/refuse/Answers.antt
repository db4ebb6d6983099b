use Rattle.std.proofs.Common.{ap}
use Rattle.process_record.specs.declared.process.Process.{Process}
use Rattle.process_seat.specs.Seats.{own_in}
use Rattle.kernel_model.specs.Record.{Record}
use Rattle.kernel_model.specs.Calls.{refused_with}
use Rattle.kernel_calls.specs.Called.{Called, record_of}
use Rattle.kernel_calls.proofs.Starts.{made_so}
use Rattle.kernel_calls.proofs.caller.Caller.refuse.Goals as goal

pub returns-clause-serves : goal.returns-clause-serves
returns-clause-serves c = λ beside.
    let k = c.self.inside in
    made_so (λ (r : Record). refused_with r c.args.rule c.args.failure) c.args.self.now k.memory.now.flash k.process.now
    c.refuse.new.process (own_in k.memory.now.ram k.seat.now) beside c.refuse.result
    (ap (λ (o : Called). record_of o beside) c.self.view_is) (ap (λ (p : Process). p.object) c.refuse.ensures.stays)
    c.refuse.ensures.refuses
