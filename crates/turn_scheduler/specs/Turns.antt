-- Turns of processes, one after another, as round robin gives them.
use Rattle.std.specs.Prelude.{◌≡◌, ◌≤◌, ℕ, ◌*◌, true, List, [], ◌∷◌, Some, All, Any, length}
use Rattle.tk_base.specs.declared.limits.TheConstants.{SLOT_COUNT}
use Rattle.tk_base.specs.declared.process.Choice.TheVariants.{Run}
use Rattle.turn_scheduler.specs.Situation.{Situation}
use Rattle.turn_scheduler.specs.RoundRobin.{choice, used_after}
use Rattle.turn_scheduler.specs.Parts.{place_is_ready}

-- round robin gives the slot the turn
abbrev pub GivesTurn : Situation → ℕ → Type 0
GivesTurn s slot = choice s ≡ Some (Run slot)

-- Round robin gives a turn in the one situation, and the other is that of the next turn: the slot that had the turn is
-- the present one. What is ready may be anything.
abbrev pub IsNextTurn : Situation → Situation → Type 0
IsNextTurn s t =
    (slot : ℕ) × GivesTurn s slot × (t.present ≡ Some slot)
    × (t.used ≡ used_after s.present s.used s.slice slot) × (t.slice ≡ s.slice)

-- each situation is that of the turn after the one before it
abbrev pub AreTurns : List Situation → Type 0
AreTurns [] = Unit {0}
AreTurns (s ∷ []) = (slot : ℕ) × GivesTurn s slot
AreTurns (s ∷ t ∷ rest) = IsNextTurn s t × AreTurns (t ∷ rest)

-- turns in which a slot is ready throughout, as many as all slots have in a slice each
pub record IsWindow (turns : List Situation) (slot each : ℕ) : Type 0 where
  pub in_turn : AreTurns turns
  pub ready : All (λ s. place_is_ready s.ready slot ≡ true) turns
  pub slots : All (λ s. length s.ready ≤ SLOT_COUNT) turns
  pub slice : All (λ s. s.slice ≡ each) turns
  pub one : 1 ≤ each
  pub long : SLOT_COUNT * each ≤ length turns

-- In every window of as many turns as all slots have in a slice each, in which a slot is ready throughout, that slot
-- has
-- a turn.
abbrev pub ReadyHasTurn : Type 0
ReadyHasTurn =
    (turns : List Situation) (slot each : ℕ) → IsWindow turns slot each → Any (λ s. GivesTurn s slot) turns
