-- Quiet stretches: turns of processes, one after another, that only execute an instruction.
use Rattle.std.specs.Prelude.{◌≡◌, ◌≤◌, ◌<◌, ℕ, zero, suc, ◌+◌, ◌-◌, true, false, [], length, slice_get, slice_set}
use Rattle.std.specs.Prelude.{Some, None}
use Rattle.std.specs.Prelude.{All}
use Rattle.tk_base.specs.declared.limits.TheConstants.{STEP_LIMIT}
use Rattle.tk_base.specs.declared.process.Choice.TheVariants.{Run}
use Rattle.rv32_model.specs.declared.turn_end.TurnEnd.TheVariants.{Went}
use Rattle.process_record.specs.declared.process.State.TheVariants.{Running}
use Rattle.turn_scheduler.specs.RoundRobin.{next_slot, ready_device, used_after}
use Rattle.kernel_model.specs.Record.{Record, instruction, with_effect}
use Rattle.kernel_model.specs.Turn.{is_turn, turn_counted}
use Rattle.kernel_model.specs.World.{World, Label, is_let, only_at, only_in}
use Rattle.kernel_model.specs.Run.{next, printed, ready_devices, ready_slots, round}
use Rattle.kernel_model.specs.Parts.{told_first}

-- a turn that made no call, wrote no flag and was not denied
abbrev pub IsQuietTurn : Label → Type 0
IsQuietTurn label =
    (is_turn label.event ≡ true) × (label.printed ≡ [])
    × (label.trace.call ≡ None) × (label.trace.flag ≡ None) × (label.trace.denial ≡ None)

-- the round robin's next so many steps are quiet turns, and lead to a world
pub record IsStretch (k : ℕ) (w after : World) : Type 0 where
  pub reached : after ≡ (round k w).world
  pub turns : length (round k w).labels ≡ k
  pub quiet : All IsQuietTurn (round k w).labels
  pub prints : printed (round k w).labels ≡ []
  pub time : after.clock.time ≡ w.clock.time + k
  pub steps : after.clock.steps ≡ w.clock.steps + k

-- a stretch goes on: the round robin's next choice is a turn of a process that runs, and its instruction goes; and the
-- limit of steps is not reached
pub record GoesOn (w : World) : Type 0 where
  pub slot : ℕ
  pub before : Record
  pub chosen : next w ≡ Some (Run slot)
  pub is_there : slice_get w.records slot ≡ Some before
  pub runs : before.process.state ≡ Running
  pub goes : (instruction before).end ≡ Went
  pub limit : w.clock.steps < STEP_LIMIT

-- the record after one more instruction, which counts; and after so many
abbrev pub instruction_made : Record → Record
instruction_made r = with_effect (turn_counted r) (instruction r)

unfoldable pub after_instructions : ℕ → Record → Record
after_instructions zero r = r
after_instructions (suc k) r = after_instructions k (instruction_made r)

-- so many instructions go, one after another
abbrev pub AllGo : ℕ → Record → Type 0
AllGo k r = (j : ℕ) → j < k → (instruction (after_instructions j r)).end ≡ Went

-- the same world, but a slot that is to have the next turn is the present one already: with its slice, while that
-- lasts, or at the beginning of one
abbrev pub at_turn : World → ℕ → World
at_turn w slot = record w {
  present = record { slot = Some slot; used = used_after w.present.slot w.present.used w.pace.slice slot - 1 };
}

-- the world after so many quiet turns of the present slot, which left this record
abbrev pub after_stretch : ℕ → World → ℕ → Record → World
after_stretch k w slot later = record w {
  records = slice_set w.records slot later;
  clock = record { time = w.clock.time + k; steps = w.clock.steps + k };
  present = record { slot = Some slot; used = w.present.used + k };
}

-- on the way no device step is ready
abbrev pub NoneActs : ℕ → World → ℕ → Record → Type 0
NoneActs k w slot r =
    (j : ℕ) → j < k → ready_device (ready_devices (after_stretch j w slot (after_instructions j r))) ≡ None

-- each world on the way has this slot as its next choice, whoever chose it
abbrev pub IsNextOnTheWay : ℕ → World → ℕ → Record → Type 0
IsNextOnTheWay k w slot r =
    (j : ℕ) → j < k → next (after_stretch j w slot (after_instructions j r)) ≡ Some (Run slot)

-- with time partitions the slot's window lasts on the way
abbrev pub IsLetOnTheWay : ℕ → World → ℕ → Type 0
IsLetOnTheWay k w slot = (j : ℕ) → j < k → is_let (only_at (w.clock.time + j) w.pace.window) slot ≡ true

-- the round robin chooses the present slot on the way as long as no device step is ready, up to the end of its slice,
-- and of its window
abbrev pub PresentIsNextOnTheWay : Type 0
PresentIsNextOnTheWay =
    (k slot : ℕ) (w : World) (r : Record)
    → w.present.slot ≡ Some slot
    → slice_get w.records slot ≡ Some r
    → r.process.state ≡ Running
    → r.process.held ≡ false
    → w.present.used + k ≤ w.pace.slice
    → IsLetOnTheWay k w slot
    → NoneActs k w slot r
    → IsNextOnTheWay k w slot r

-- as long as a slot is the next choice, a run makes the instructions of its process, those that go, up to the end of
-- its slice, where its used turns begin anew, and to the limit of steps
abbrev pub RoundIsStretch : Type 0
RoundIsStretch =
    (k slot : ℕ) (w : World) (r : Record)
    → 0 < k
    → w.clock.steps + k ≤ STEP_LIMIT
    → next w ≡ Some (Run slot)
    → slice_get w.records slot ≡ Some r
    → r.process.state ≡ Running
    → (at_turn w slot).present.used + k ≤ w.pace.slice
    → AllGo k r
    → IsNextOnTheWay k (at_turn w slot) slot r
    → IsStretch k w (after_stretch k (at_turn w slot) slot (after_instructions k r))

-- the present slot has the next turn of a process, where its process runs, and its slice and its window last
abbrev pub PresentStaysOn : Type 0
PresentStaysOn =
    (w : World) (slot : ℕ) (r : Record)
    → w.present.slot ≡ Some slot
    → slice_get w.records slot ≡ Some r
    → r.process.state ≡ Running
    → r.process.held ≡ false
    → w.present.used < w.pace.slice
    → is_let (only_in w) slot ≡ true
    → next_slot (ready_slots w) w.present.slot w.present.used w.pace.slice ≡ Some slot

-- a run is one of its first steps, and then one of the others
abbrev pub RoundsJoin : Type 0
RoundsJoin =
    (k m n : ℕ) (w : World)
    → n ≡ k + m
    → round n w ≡ told_first (round k w).labels (round m (round k w).world)

-- no step is a stretch, and a stretch may be followed by another
abbrev pub NoneIsStretch : Type 0
NoneIsStretch = (w v : World) → v ≡ w → IsStretch 0 w v

abbrev pub StretchesJoin : Type 0
StretchesJoin = (k m n : ℕ) (w v u : World) → n ≡ k + m → IsStretch k w v → IsStretch m v u → IsStretch n w u
