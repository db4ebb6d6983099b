use Rattle.std.proofs.Common.{ap, sym, ◌∙◌, rules}
use Rattle.process_record.specs.declared.outcome.Outcome.TheVariants.{Delivered}
use Rattle.upcall_queue.specs.declared.inbox.Inbox.{Inbox}
use Rattle.kernel_model.specs.Record.{Record}
use Rattle.kernel_model.specs.Calls.{comes_to}
use Rattle.kernel_calls.specs.Called.{Called, record_of}
use Rattle.kernel_calls.proofs.AtOnce.{now_some}
use Rattle.kernel_calls.proofs.caller.Caller.yield_at_once.Goals as goal

pub returns-clause-serves : goal.returns-clause-serves
returns-clause-serves c = λ beside.
    now_some (record_of c.args.self.now beside) (record_of c.flag-2.new.self beside) c.args.at
    c.args.self.now.own.inbox.pending c.flag-2.new.self.own.inbox.pending (search rules)
    (ap (λ (o : Called). record_of o beside) c.flag-2.ensures.written)
    (ap (λ (i : Inbox). i.pending) c.flag-2.ensures.inbox)
    ∙ ap (λ (x : Record). comes_to x Delivered) (sym (c.deliver_first.ensures.delivers beside))
