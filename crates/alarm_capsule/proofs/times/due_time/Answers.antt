use Rattle.std.proofs.Common.{◌+◌, ℕ, Some, Option, ap, option_map, subst, sym, ◌∙◌}
use Rattle.std.specs.Prelude.{slice_get}
use Rattle.alarm_capsule.specs.Times.{BecomesDue, TellsAlarm}
use Rattle.alarm_capsule.proofs.Living.{due_at}
use Rattle.alarm_capsule.proofs.times.due_time.Goals as goal

pub returns-in_err-left-clause-is : goal.returns-in_err-left-clause-is
returns-in_err-left-clause-is c =
    c.from_residual.ensures
    ∙ ap (option_map (λ (left : ℕ). c.args.time + left)) (sym c.in_err-left.was ∙ c.ticks_left_in.ensures.is)

pub returns-in_err-left-clause-tells : goal.returns-in_err-left-clause-tells
returns-in_err-left-clause-tells c =
    subst (λ (due : Option ℕ). TellsAlarm c.args.now c.args.time due (slice_get c.args.home.now.owns c.args.slot))
    (sym c.from_residual.ensures) (sym (sym c.in_err-left.was ∙ c.ticks_left_in.ensures.is))

pub returns-clause-is : goal.returns-clause-is
returns-clause-is c =
    ap (λ (left : ℕ). Some (c.args.time + left)) c.from.ensures
    ∙ ap (option_map (λ (left : ℕ). c.args.time + left)) (sym c.in_ok-left.was ∙ c.ticks_left_in.ensures.is)

pub returns-clause-tells : goal.returns-clause-tells
returns-clause-tells c = λ ahead.
    subst (λ (left : ℕ). BecomesDue c.args.now c.args.time (c.args.time + left)
    (slice_get c.args.home.now.owns c.args.slot)) (sym c.from.ensures)
    (due_at c.args.now c.args.time c.in_ok-left.left _ c.in_ok-left.ensures.due)
