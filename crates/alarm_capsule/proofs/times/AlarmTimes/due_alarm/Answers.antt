use Rattle.std.proofs.Common.{◌≡◌, ℕ, List, Option, None, Some, option_map, rules, ap, sym, subst, ◌∙◌}
use Rattle.alarm_capsule.specs.declared.answers.Due.{Due}
use Rattle.driver_model.specs.Alarm.{due_for}
use Rattle.alarm_capsule.specs.Times.{AllTell}
use Rattle.alarm_capsule.proofs.Nearest.{none_is_due}
use Rattle.alarm_capsule.proofs.times.AlarmTimes.due_alarm.Goals as goal

pub returns-in_err-at-clause-slot : goal.returns-in_err-at-clause-slot
returns-in_err-at-clause-slot c =
    let owns = c.args.home.now.owns in
    let tell = subst (λ (times : List (Option ℕ)). AllTell c.args.now c.args.time times owns) (sym c.self.view_is)
    c.requires in
    let none : c.self.inside.nearest ≡ None = search rules in
    let is : c.from_residual.result ≡ None = search rules in
    let all : c.args.only ≡ None = search rules in
    ap (λ (o : Option Due). option_map (λ (d : Due). d.id.slot) o) is
    ∙ none_is_due c.args.now c.args.time c.self.inside.times owns tell
    c.an_alarm_is_due_where_no_ticks_are_left.ensures None (sym c.self.invariant.0 ∙ none) tt
    ∙ ap (λ (o : Option ℕ). due_for o c.args.now owns) (sym all)

pub returns-then-time-at-clause-slot : goal.returns-then-time-at-clause-slot
returns-then-time-at-clause-slot c =
    let owns = c.args.home.now.owns in
    let tell = subst (λ (times : List (Option ℕ)). AllTell c.args.now c.args.time times owns) (sym c.self.view_is)
    c.requires in
    let some : c.self.inside.nearest ≡ Some c.in_ok-at.at = search rules in
    let all : c.args.only ≡ None = search rules in
    none_is_due c.args.now c.args.time c.self.inside.times owns tell
    c.an_alarm_is_due_where_no_ticks_are_left.ensures (Some c.in_ok-at.at) (sym c.self.invariant.0 ∙ some)
    c.if-time-at.true
    ∙ ap (λ (o : Option ℕ). due_for o c.args.now owns) (sym all)
