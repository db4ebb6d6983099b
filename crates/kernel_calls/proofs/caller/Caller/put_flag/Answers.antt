use Rattle.process_model.specs.Flag.{with_flag}
use Rattle.kernel_calls.proofs.Lending.{shows}
use Rattle.kernel_calls.proofs.caller.Caller.put_flag.Goals as goal

pub returns : goal.returns
returns c =
    shows c.self.inside c.args.self.now c.put_flag_at.new.memory c.self.inside.seat.now
    (with_flag c.args.at c.args.flag)
    c.self.view_is c.put_flag_at.ensures.reseats c.put_flag_at.ensures.own
