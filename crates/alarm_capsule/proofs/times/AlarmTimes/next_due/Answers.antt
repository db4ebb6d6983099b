use Rattle.std.proofs.Common.{◌≡◌, ℕ, List, Option, None, Some, rules, ap, sym, subst, arith, ◌∙◌}
use Rattle.driver_model.specs.Alarm.{left_for}
use Rattle.alarm_capsule.specs.Times.{AllTell}
use Rattle.alarm_capsule.proofs.Nearest.{nearest_is_near, nearest_is_next, none_is_next}
use Rattle.alarm_capsule.proofs.times.AlarmTimes.next_due.Goals as goal

pub returns-in_err-at : goal.returns-in_err-at
returns-in_err-at c =
    let owns = c.args.home.now.owns in
    let tell = subst (λ (times : List (Option ℕ)). AllTell c.args.now c.args.time times owns) (sym c.self.view_is)
    c.requires in
    let none : c.self.inside.nearest ≡ None = search rules in
    let is : c.from_residual.result ≡ None = search rules in
    let all : c.args.only ≡ None = search rules in
    is ∙ none_is_next c.args.now c.args.time c.self.inside.times owns tell (sym c.self.invariant.0 ∙ none)
    ∙ ap (λ (o : Option ℕ). left_for o c.args.now owns) (sym all)

pub overflow_cast-result : goal.overflow_cast-result
overflow_cast-result c =
    let owns = c.args.home.now.owns in
    let tell = subst (λ (times : List (Option ℕ)). AllTell c.args.now c.args.time times owns) (sym c.self.view_is)
    c.requires in
    let some : c.self.inside.nearest ≡ Some c.in_ok-at.at = search rules in
    let near = nearest_is_near c.args.now c.args.time c.self.inside.times owns tell c.in_ok-at.at
    (sym c.self.invariant.0 ∙ some) (omega (arith, c.if-at-time.false)) in
    omega (arith, near)

pub returns : goal.returns
returns c =
    let owns = c.args.home.now.owns in
    let tell = subst (λ (times : List (Option ℕ)). AllTell c.args.now c.args.time times owns) (sym c.self.view_is)
    c.requires in
    let some : c.self.inside.nearest ≡ Some c.in_ok-at.at = search rules in
    let all : c.args.only ≡ None = search rules in
    nearest_is_next c.args.now c.args.time c.self.inside.times owns tell c.in_ok-at.at (sym c.self.invariant.0 ∙ some)
    (omega (arith, c.if-at-time.false))
    ∙ ap (λ (o : Option ℕ). left_for o c.args.now owns) (sym all)
