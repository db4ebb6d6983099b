use Rattle.std.proofs.Common.{◌≡◌, ◌<◌, ℕ, length, slice_index_or, slice_set, Option, None, ap, rules, subst, sym, ◌∙◌}
use Rattle.tk_base.specs.declared.limits.TheConstants.{SLOT_COUNT}
use Rattle.driver_model.specs.Alarm.{nearer}
use Rattle.alarm_capsule.specs.Times.{AllBehind}
use Rattle.alarm_capsule.proofs.First.{none_below, still_behind, unlike}
use Rattle.alarm_capsule.proofs.Nearest.{nearest_with}
use Rattle.alarm_capsule.proofs.times.AlarmTimes.change.Goals as goal

-- the time that is kept is the nearest then
pub invariant_of-self-then-eq : goal.invariant_of-self-then-eq
invariant_of-self-then-eq c =
    let times = c.self.inside.times in
    let slot : ℕ = c.index-2.result in
    let due = c.args.due in
    let within : slot < length times = search rules in
    let there : slot < SLOT_COUNT = search rules in
    let none : slice_index_or times slot None ≡ None = search rules in (
      c.nearer_time-self-inside.ensures ∙ ap (λ (o : Option ℕ). nearer o due) c.self.invariant.0
          ∙ nearest_with times slot due within none there,
      none_below c.nearer_time-self-inside.result (slice_set times slot due),
    )

-- or it is not
pub invariant_of-self-else-eq : goal.invariant_of-self-else-eq
invariant_of-self-else-eq c =
    let times = c.self.inside.times in
    let slot : ℕ = c.index-2.result in
    let due = c.args.due in
    let next = c.nearer_time-self-inside in
    let within : slot < length times = search rules in
    let there : slot < SLOT_COUNT = search rules in
    let none : slice_index_or times slot None ≡ None = search rules in (
      next.ensures ∙ ap (λ (o : Option ℕ). nearer o due) c.self.invariant.0
          ∙ nearest_with times slot due within none there,
      subst (λ (o : Option ℕ). AllBehind o c.self.inside.first (slice_set times slot due)) (sym next.ensures)
          (still_behind times slot c.self.inside.first c.self.inside.nearest due within
          (λ same. unlike due next.result (sym c.eq.ensures ∙ c.if-eq.false) (same ∙ sym next.ensures))
          c.self.invariant.1),
    )
