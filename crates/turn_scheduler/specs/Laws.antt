-- Laws of the next choice.
use Rattle.std.specs.Prelude.{◌≡◌, ◌<◌, ◌^◌, ℕ, ◌+◌, true, false, Some, None}
use Rattle.tk_base.specs.declared.limits.TheConstants.{SLOT_COUNT}
use Rattle.tk_base.specs.declared.process.Choice.{Choice}
use Rattle.tk_base.specs.declared.process.Choice.TheVariants.{Run, Device, Pass}
use Rattle.turn_scheduler.specs.Situation.{Situation}
use Rattle.turn_scheduler.specs.RoundRobin.{device_place, ready_device, choice, IsNextAhead}
use Rattle.turn_scheduler.specs.Parts.{place_is_ready}

-- A choice can be made: the device step is ready; or no device step is, and the slot is ready; or nothing is ready, and
-- the ticks, of which there are some, lead to the next time.
abbrev pub CanBeMade : Situation → Choice → Type 0
CanBeMade s (Device device) = place_is_ready s.devices (device_place device) ≡ true
CanBeMade s (Run slot) = (ready_device s.devices ≡ None) × (place_is_ready s.ready slot ≡ true)
CanBeMade s (Pass ticks) =
    (ready_device s.devices ≡ None) × ((slot : ℕ) → slot < SLOT_COUNT → place_is_ready s.ready slot ≡ false)
    × (s.next ≡ Some (s.time + ticks)) × (0 < ticks) × (ticks < 2 ^ 32)

-- the next choice can be made
abbrev pub ChoiceIsReady : Type 0
ChoiceIsReady = (s : Situation) (c : Choice) → IsNextAhead s → choice s ≡ Some c → CanBeMade s c

-- where no device step is ready, the present slot goes on as long as it is ready and its slice lasts
abbrev pub PresentGoesOn : Type 0
PresentGoesOn =
    (s : Situation) (slot : ℕ) → ready_device s.devices ≡ None → s.present ≡ Some slot
    → place_is_ready s.ready slot ≡ true
    → s.used < s.slice → choice s ≡ Some (Run slot)
