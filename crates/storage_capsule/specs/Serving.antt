-- What serving a request to the storage leaves.
use Rattle.std.specs.Prelude.{ℕ, Bool, List, Option, None, Some}
use Rattle.tk_outside.specs.Count.{counted}
use Rattle.grant_values.specs.declared.storage.StorageRequest.{StorageRequest}
use Rattle.board_devices.specs.Storage.{StoredSlots, is_fault, served_at, slot_bytes, with_served, with_slot_bytes}
use Rattle.process_model.specs.Own.{Own}
use Rattle.process_model.specs.Flash.{flash_byte}
use Rattle.driver_model.specs.Storage.{StorageServed, storage_served}

-- the storage with bytes written over those of a slot, from an offset on, if any are
abbrev pub storage_after : ℕ → Option (ℕ × List ℕ) → StoredSlots → StoredSlots
storage_after slot None s = s
storage_after slot (Some written) s = with_slot_bytes s slot written.0 written.1

-- whether the next request that is served in the lane of a slot fails
abbrev pub store_fails_next : ℕ → StoredSlots → Bool
store_fails_next slot s = is_fault s.faults (counted (served_at slot s))

-- what serving a request comes to, which the storage counts
abbrev pub storage_serving : ℕ → List ℕ → StoredSlots → StorageRequest → Own → StorageServed
storage_serving slot flash s request own =
    storage_served (store_fails_next slot s) (flash_byte flash) (slot_bytes s slot) request own

-- the storage after it counted a request that was served
abbrev pub storage_stored : ℕ → Option (ℕ × List ℕ) → StoredSlots → StoredSlots
storage_stored slot written s = storage_after slot written (with_served slot s)
