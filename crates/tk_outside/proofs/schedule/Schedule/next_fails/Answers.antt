use Rattle.std.proofs.Common.{arith, ap, sym, subst, nat_eq, ◌∙◌, ◌+◌}
use Rattle.std.specs.List.{list_any}
use Rattle.tk_outside.specs.Schedule.{FailsNoMore}
use Rattle.tk_outside.proofs.ScheduleLemmas.{none_above, none_next}
use Rattle.tk_outside.proofs.schedule.Schedule.next_fails.Goals as goal

pub returns-clause-done : goal.returns-clause-done
returns-clause-done c = λ done.
    let s = c.self.inside in
    let before = subst FailsNoMore (sym c.self.view_is) done in
    let next = none_next s.calls s.failing.items before in (
      none_above s.calls (s.calls + 1) s.failing.items (omega arith) before,
      c.contains.ensures.value ∙ ap (list_any (λ f. nat_eq f (s.calls + 1))) c.deref.ensures.value ∙ next,
    )
