-- The round robin where the process in one slot alone can have a turn: its slices follow one another.
use Rattle.std.specs.Prelude.{◌≡◌, ◌≢◌, ◌≤◌, ◌<◌, ℕ, ◌+◌, ◌-◌, ◌%◌, true, false, Some, slice_get}
use Rattle.tk_base.specs.declared.limits.TheConstants.{SLOT_COUNT, STEP_LIMIT}
use Rattle.tk_base.specs.declared.process.Choice.TheVariants.{Run}
use Rattle.process_record.specs.declared.process.State.TheVariants.{Running}
use Rattle.turn_scheduler.specs.RoundRobin.{next_slot}
use Rattle.kernel_model.specs.Named.{can_run}
use Rattle.kernel_model.specs.Record.{Record}
use Rattle.kernel_model.specs.Run.{next, ready_slots}
use Rattle.kernel_model.specs.Stretch.{AllGo, IsLetOnTheWay, IsStretch, NoneActs, after_instructions, after_stretch}
use Rattle.kernel_model.specs.Stretch.{at_turn}
use Rattle.kernel_model.specs.World.{World, is_let, only_in}

-- no process can have a turn but that in a slot
abbrev pub IsAlone : World → ℕ → Type 0
IsAlone w slot = (other : ℕ) → other ≢ slot → can_run (slice_get w.records other) ≡ false

-- how many turns of its slice a slot has used that had used some, after so many more: each slice is followed by another
abbrev pub used_through : ℕ → ℕ → ℕ → ℕ
used_through slice before k = (before + k - 1) % slice + 1

-- the world after so many quiet turns of a slot, slice after slice, which left this record
abbrev pub after_slices : ℕ → World → ℕ → Record → World
after_slices k w slot later = record (after_stretch k (at_turn w slot) slot later) {
  present = record { slot = Some slot; used = used_through w.pace.slice (at_turn w slot).present.used k };
}

-- one that runs, and is alone, has the next turn of a process, whoever is present, and however much of the slice is
-- used
abbrev pub OneAloneIsNext : Type 0
OneAloneIsNext =
    (w : World) (slot : ℕ) (r : Record)
    → slot < SLOT_COUNT
    → slice_get w.records slot ≡ Some r
    → r.process.state ≡ Running
    → r.process.held ≡ false
    → IsAlone w slot
    → is_let (only_in w) slot ≡ true
    → next_slot (ready_slots w) w.present.slot w.present.used w.pace.slice ≡ Some slot

-- so, as long as no device step is ready, a run makes the instructions of its process, those that go, slice after
-- slice, up to the end of its window and to the limit of steps
abbrev pub OneAloneGoesOn : Type 0
OneAloneGoesOn =
    (k slot : ℕ) (w : World) (r : Record)
    → 0 < k
    → w.clock.steps + k ≤ STEP_LIMIT
    → 1 ≤ w.pace.slice
    → slot < SLOT_COUNT
    → next w ≡ Some (Run slot)
    → slice_get w.records slot ≡ Some r
    → r.process.state ≡ Running
    → IsAlone w slot
    → AllGo k r
    → IsLetOnTheWay k w slot
    → NoneActs k w slot r
    → IsStretch k w (after_slices k w slot (after_instructions k r))
