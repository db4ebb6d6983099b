use Rattle.process_model.specs.Handed.{handing}
use Rattle.process_model.specs.Own.{Own}
use Rattle.kernel_calls.proofs.Lending.{on_err, on_ok, shows}
use Rattle.kernel_calls.proofs.caller.Caller.hand.Goals as goal

pub returns-clause-handed : goal.returns-clause-handed
returns-clause-handed c =
    let h = c.args.handover in
    on_ok c.hand_at.result (shows c.self.inside c.args.self.now c.hand_at.new.memory c.hand_at.new.seat
    (handing h.kind h.driver h.number h.pair) c.self.view_is c.hand_at.ensures.reseats) c.hand_at.ensures.handed

pub returns-clause-refused : goal.returns-clause-refused
returns-clause-refused c =
    on_err c.hand_at.result (shows c.self.inside c.args.self.now c.hand_at.new.memory c.hand_at.new.seat
    (λ (own : Own). own) c.self.view_is c.hand_at.ensures.reseats) c.hand_at.ensures.refused
