use Rattle.std.proofs.Common.{ℕ, List, Option, None, Some, ap, ap₂, slice_get, slice_index_or, subst, sym, ◌∙◌}
use Rattle.std.specs.Prelude.{is_some}
use Rattle.alarm_capsule.specs.Times.{TellsAlarm}
use Rattle.alarm_capsule.proofs.Nearest.{not_due_yet}
use Rattle.alarm_capsule.proofs.times.AlarmTimes.due_in.Goals as goal

pub returns-in_err-at-clause-is : goal.returns-in_err-at-clause-is
returns-in_err-at-clause-is c =
    let owns = c.args.home.now.owns in
    let kept = ap₂ (λ (times : List (Option ℕ)) (n : ℕ). slice_index_or times n None) (sym c.self.view_is)
    (sym c.index.ensures.value) ∙ c.in_err-at.was in
    ap is_some c.from_residual.ensures
    ∙ not_due_yet c.an_alarm_is_due_where_no_ticks_are_left.ensures c.args.now c.args.time c.args.slot None owns
    (subst (λ (k : Option ℕ). TellsAlarm c.args.now c.args.time k (slice_get owns c.args.slot)) kept
    (c.requires c.args.slot)) tt

pub returns-then-time-at-clause-is : goal.returns-then-time-at-clause-is
returns-then-time-at-clause-is c =
    let owns = c.args.home.now.owns in
    let kept = ap₂ (λ (times : List (Option ℕ)) (n : ℕ). slice_index_or times n None) (sym c.self.view_is)
    (sym c.index.ensures.value) ∙ c.in_ok-at.was in
    not_due_yet c.an_alarm_is_due_where_no_ticks_are_left.ensures c.args.now c.args.time c.args.slot
    (Some c.in_ok-at.at) owns
    (subst (λ (k : Option ℕ). TellsAlarm c.args.now c.args.time k (slice_get owns c.args.slot)) kept
    (c.requires c.args.slot)) c.if-time-at.true
