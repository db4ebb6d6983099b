-- What a slot has of its window, in a run with time partitions. It is this board's own rule.
use Rattle.std.specs.Prelude.{◌≡◌, ◌≤◌, ◌<◌, ℕ, ◌+◌, ◌%◌, true, List, filter, length, slice_get}
use Rattle.tk_base.specs.declared.limits.TheConstants.{STEP_LIMIT}
use Rattle.partition_turns.specs.Turns.{FillWindow, TakeEachTick}
use Rattle.partition_turns.specs.Windows.{window_end, window_slot}
use Rattle.kernel_model.specs.Turn.{is_turn}
use Rattle.kernel_model.specs.World.{World}
use Rattle.kernel_model.specs.Named.{can_run}
use Rattle.kernel_model.specs.Run.{round}
use Rattle.kernel_model.specs.Replay.{chosen}
use Rattle.kernel_partitions.specs.Moments.{Moment, before, timed_history}
use Rattle.kernel_partitions.specs.Partitions.{time_after}

-- the slot whose window it is in a world
abbrev pub slot_in_window : World → ℕ
slot_in_window w = window_slot w.clock.time w.pace.window

-- the first time after that window
abbrev pub window_end_of : World → ℕ
window_end_of w = window_end w.clock.time w.pace.window

-- how many turns are among what was told
abbrev pub turns_told : List Moment → ℕ
turns_told moments = length (filter (λ m. is_turn m.label.event) moments)

-- A run of n steps, below the limit of steps, reaches the end of the window in which it begins, and the slot of that
-- window is ready in each world before that end.
pub record IsReadyThroughout (n : ℕ) (w : World) : Type 0 where
  pub windows : 1 ≤ w.pace.window
  pub below_limit : w.clock.steps + n ≤ STEP_LIMIT
  pub ready : (i : ℕ) → i < n → time_after i w < window_end_of w →
      can_run (slice_get (round i w).world.records (slot_in_window w)) ≡ true
  pub reached : window_end_of w ≤ time_after n w

-- how many turns that slot has in the run before that end
abbrev pub turns_in_window : ℕ → World → ℕ
turns_in_window n w = turns_told (before (window_end_of w) (timed_history (slot_in_window w) w (chosen n w)))

-- Then each tick up to the end is a turn of it.
abbrev pub EachTickIsItsTurn : Type 0
EachTickIsItsTurn = (w : World) (n : ℕ) → IsReadyThroughout n w →
    TakeEachTick w.clock.time (window_end_of w) (turns_in_window n w)

-- So where the run begins with the window, the slot has as many turns as the window has ticks.
abbrev pub WholeWindowIsItsTurns : Type 0
WholeWindowIsItsTurns = (w : World) (n : ℕ) → IsReadyThroughout n w → w.clock.time % w.pace.window ≡ 0 →
    FillWindow w.pace.window (turns_in_window n w)
