-- Only proofs use this, and contracts of functions that do a part: names of parts of the choice.
use Rattle.std.specs.Prelude.{ℕ, Bool, false, ◌&&◌, nat_lt, if◌then◌else◌, List, slice_index_or}
use Rattle.std.specs.Prelude.{Option, None, option_map, unwrap_or}
use Rattle.turn_scheduler.specs.Situation.{Situation}
use Rattle.turn_scheduler.specs.RoundRobin.{next_slot}

-- what a table says of a place; what it lacks is not ready
abbrev pub place_is_ready : List Bool → ℕ → Bool
place_is_ready table place = slice_index_or table place false

-- the present slot is ready, and its slice lasts
abbrev pub goes_on : List Bool → Option ℕ → ℕ → ℕ → Bool
goes_on ready present used slice =
    unwrap_or (option_map (λ slot. place_is_ready ready slot && nat_lt used slice) present) false

-- the present slot of a situation, where it goes on
abbrev pub goes_on_in : Situation → Option ℕ
goes_on_in s = if goes_on s.ready s.present s.used s.slice then s.present else None

-- the slot that has the next turn in a situation
abbrev pub slot_in : Situation → Option ℕ
slot_in s = next_slot s.ready s.present s.used s.slice
