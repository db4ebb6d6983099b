-- The choice that a status tells is the next one of the world, by lanes too.
use Rattle.std.proofs.Common.{◌≡◌, ◌≤◌, ◌<◌, ℕ, zero, suc, ◌-◌, ◌*◌, ◌^◌, Option, IfSome, refl, sym, subst}
use Rattle.std.proofs.Common.{arith}
use Rattle.tk_base.specs.declared.limits.TheConstants.{STEP_LIMIT}
use Rattle.turn_scheduler.specs.RoundRobin.{LiesAhead}
use Rattle.turn_scheduler.specs.Status.{IsChoiceAhead, choice_by}
use Rattle.kernel_model.specs.Laws.{NextLiesAhead}
use Rattle.kernel_model.specs.Run.{next, next_time, situation_of}
use Rattle.kernel_model.specs.World.{World}
use Rattle.kernel_laws.specs.Windows.{LanesAreAhead, NextIsOfTheWindow}
use Rattle.board_core.specs.LanesOf.{lanes_with}
use Rattle.board_core.proofs.Boards.{next_ahead}

pub choice_same : NextIsOfTheWindow → (w : World) (n : ℕ) → w.pace.window ≡ n
    → choice_by (situation_of w) (lanes_with w n) ≡ next w
unfolding next
choice_same law w zero e = refl
choice_same law w (suc n) e = sym (law w (omega (arith, e)))

-- and what is not ready becomes so later
pub choice_ahead : LanesAreAhead → NextLiesAhead → (w : World) (n : ℕ) → w.pace.window ≡ n
    → w.clock.time ≤ STEP_LIMIT * 2 ^ 32 → IfSome (next_time w) (λ at. at - w.clock.time < 2 ^ 32)
    → IsChoiceAhead (situation_of w) (lanes_with w n)
choice_ahead law ahead w zero e reached near = λ none at is.
    subst (λ (o : Option ℕ). IfSome o (LiesAhead w.clock.time)) is (next_ahead w (next_time w) refl near ahead none)
choice_ahead law ahead w (suc n) e reached near = record {
  some = omega (arith, e);
  reached = reached;
  ahead = law w (omega (arith, e));
}
