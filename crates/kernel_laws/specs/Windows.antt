-- With time partitions the next choice of a world is that of its window. It is this board's own rule.
use Rattle.std.specs.Prelude.{◌≡◌, ◌≤◌, ℕ, ◌+◌, List, [], ◌∷◌, map, Option, Some}
use Rattle.std.specs.List.{range_with_len}
use Rattle.std.specs.Option.{option_map}
use Rattle.tk_base.specs.declared.limits.TheConstants.{SLOT_COUNT}
use Rattle.tk_base.specs.declared.process.Choice.{Choice}
use Rattle.tk_base.specs.declared.process.Dev.{Dev}
use Rattle.tk_base.specs.declared.process.Dev.TheVariants.{Alarm, Uart, Receive, Random, Store}
use Rattle.partition_turns.specs.LanesView.{LanesView}
use Rattle.partition_turns.specs.Windows.{AreAhead, window_choice}
use Rattle.board_devices.specs.Arriving.{first_arrival_time, is_time}
use Rattle.driver_model.specs.Alarm.{left_for}
use Rattle.kernel_model.specs.Turn.{may_turn}
use Rattle.kernel_model.specs.World.{World, now_in, owns_in, sending_time}
use Rattle.kernel_model.specs.Run.{next}
use Rattle.kernel_model.specs.Parts.{work_for}

-- the device steps that serve one slot, in their order
abbrev pub lane_order : List Dev
lane_order = Alarm ∷ Uart ∷ Receive ∷ Random ∷ Store ∷ []

-- the time at which the alarm of the process in a slot becomes due, where it is armed
abbrev pub due_time : World → ℕ → Option ℕ
due_time w slot = option_map (λ left. w.clock.time + left) (left_for (Some slot) (now_in w) (owns_in w))

-- what the choice in a window rests on, of a world
abbrev pub lanes_in : World → LanesView
lanes_in w = record {
  time = w.clock.time;
  n = w.pace.window;
  slots = map may_turn w.records;
  event_ready = is_time w.clock.time w.devices.arrivals;
  event_at = first_arrival_time w.devices.arrivals;
  devices = map (λ slot. map (work_for w slot).ready lane_order) (range_with_len 0 SLOT_COUNT);
  alarm_at = map (due_time w) (range_with_len 0 SLOT_COUNT);
  uart_at = map (λ slot. sending_time (Some slot) w.devices) (range_with_len 0 SLOT_COUNT);
}

-- a choice, or that there is none, is that of the window in a world
abbrev pub IsOfTheWindow : World → Option Choice → Type 0
IsOfTheWindow w choice = choice ≡ window_choice (lanes_in w)

-- so is the next one of each world with windows
abbrev pub NextIsOfTheWindow : Type 0
NextIsOfTheWindow = (w : World) → 1 ≤ w.pace.window → IsOfTheWindow w (next w)

-- and what is not ready there for the slot whose window it is becomes so later
abbrev pub LanesAreAhead : Type 0
LanesAreAhead = (w : World) → 1 ≤ w.pace.window → AreAhead (lanes_in w)
