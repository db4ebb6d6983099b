-- What is kept of which processes can have a turn. Only proofs use this.
use Rattle.std.specs.Prelude.{◌≡◌, ◌≢◌, ◌<◌, ◌≤◌, ℕ, Bool, false, List, filter, length, slice_get, slice_index_or}
use Rattle.kernel_calls.specs.Residents.{Resident, can_turn_in}

-- it tells of each slot whether its process can have a turn
abbrev pub TurnsTell : List Bool → List Resident → Type 0
TurnsTell ready residents =
    (slot : ℕ) → slice_index_or ready slot false ≡ can_turn_in (slice_get residents slot)

-- it does of all slots but one
abbrev pub OtherTurnsTell : ℕ → List Bool → List Resident → Type 0
OtherTurnsTell slot ready residents =
    (other : ℕ) → other ≢ slot → slice_index_or ready other false ≡ can_turn_in (slice_get residents other)

-- none is ready from a slot on
abbrev pub NoneBeyond : ℕ → List Bool → Type 0
NoneBeyond count ready = (slot : ℕ) → count ≤ slot → slice_index_or ready slot false ≡ false

-- it tells of the slots below one, and none is ready past the last process
pub record TellsUpTo (slot count : ℕ) (ready : List Bool) (residents : List Resident) : Type 0 where
  pub told : (other : ℕ) → other < slot
      → slice_index_or ready other false ≡ can_turn_in (slice_get residents other)
  pub beyond : NoneBeyond count ready

-- how many flags of a table are set
abbrev pub how_many : List Bool → ℕ
how_many flags = length (filter (λ flag. flag) flags)
