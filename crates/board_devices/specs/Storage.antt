-- The storage of the slots, each of which reads and writes its own bytes alone. How many bytes it has, and when it
-- fails, is this board's own rule.
use Rattle.std.specs.Prelude.{◌≡◌, ℕ, ◌+◌, ◌%◌, ◌^◌, ◌==◌, ◌<◌, Bool, List, [], ◌++◌, All, drop, length, replicate}
use Rattle.std.specs.Prelude.{slice_index_or, slice_range, slice_set, take}
use Rattle.std.specs.List.{list_any}
use Rattle.tk_base.specs.declared.limits.TheConstants.{SLOT_COUNT}
use Rattle.tk_outside.specs.Count.{counted}

-- the bytes of each slot, slot 0 first; how many each has; how many requests were served in each lane; and the numbers
-- of those that fail, counted from 1 in each lane
pub record StoredSlots : Type 0 where
  pub slots : List (List ℕ)
  pub size : ℕ
  pub served : List ℕ
  pub faults : List ℕ

-- each slot has so many bytes
pub record AreSized (size : ℕ) (slots : List (List ℕ)) : Type 0 where
  pub fits : size < 2 ^ 32
  pub each : length slots ≡ SLOT_COUNT
  pub sizes : All (λ bytes. length bytes ≡ size) slots

-- bytes that were never written
abbrev pub fresh_slots : ℕ → List (List ℕ)
fresh_slots size = replicate SLOT_COUNT (replicate size 0xFF)

-- storage with so many lanes before the first request
abbrev pub fresh_storage : ℕ → ℕ → List ℕ → StoredSlots
fresh_storage lanes size faults = record {
  slots = fresh_slots size;
  size = size;
  served = replicate lanes 0;
  faults = faults;
}

-- the lane of a slot: the one that there is, or its own
abbrev pub storage_lane : ℕ → StoredSlots → ℕ
storage_lane slot s = slot % length s.served

-- how many requests were served in the lane of a slot
abbrev pub served_at : ℕ → StoredSlots → ℕ
served_at slot s = slice_index_or s.served (storage_lane slot s) 0

-- one more is
abbrev pub with_served : ℕ → StoredSlots → StoredSlots
with_served slot s = record s { served = slice_set s.served (storage_lane slot s) (counted (served_at slot s)) }

abbrev pub slot_bytes : StoredSlots → ℕ → List ℕ
slot_bytes s slot = slice_index_or s.slots slot []

-- so many bytes of a slot, from an offset on
abbrev pub bytes_from : StoredSlots → ℕ → ℕ → ℕ → List ℕ
bytes_from s slot offset count = slice_range (slot_bytes s slot) offset (offset + count)

-- bytes with others put over them from an offset on
abbrev pub overwritten : List ℕ → ℕ → List ℕ → List ℕ
overwritten bytes offset written = take offset bytes ++ written ++ drop (offset + length written) bytes

-- the storage with bytes put over those of a slot, from an offset on
abbrev pub with_slot_bytes : StoredSlots → ℕ → ℕ → List ℕ → StoredSlots
with_slot_bytes s slot offset written = record s {
  slots = slice_set s.slots slot (overwritten (slot_bytes s slot) offset written);
}

-- whether the request of a number fails
abbrev pub is_fault : List ℕ → ℕ → Bool
is_fault faults number = list_any (λ fault. fault == number) faults
