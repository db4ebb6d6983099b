-- Time partitions: the slots have windows of so many ticks in turn, and in a window no other slot is served. It is this
-- board's own rule.
use Rattle.std.specs.Prelude.{◌≡◌, ◌<◌, ℕ, ◌+◌, ◌-◌, ◌*◌, ◌/◌, ◌%◌, min, Bool, false, ◌||◌, if◌then◌else◌, List}
use Rattle.std.specs.Prelude.{[], ◌∷◌, find, slice_index_or, Option, None, Some, is_some}
use Rattle.std.specs.List.{range_with_len}
use Rattle.std.specs.Option.{option_map, option_or, ForSome}
use Rattle.tk_base.specs.declared.limits.TheConstants.{SLOT_COUNT}
use Rattle.tk_base.specs.declared.process.Choice.{Choice}
use Rattle.tk_base.specs.declared.process.Choice.TheVariants.{Run, Device, Pass}
use Rattle.tk_base.specs.declared.process.Dev.{Dev}
use Rattle.tk_base.specs.declared.process.Dev.TheVariants.{Event, Alarm, Uart, Receive, Random, Store}
use Rattle.partition_turns.specs.LanesView.{LanesView, alarm_time, lane_of, slot_is_ready, uart_time}

-- the slot whose window it is at a time, where a window has n ticks
abbrev pub window_slot : ℕ → ℕ → ℕ
window_slot time n = time / n % SLOT_COUNT

-- the first time after that window
abbrev pub window_end : ℕ → ℕ → ℕ
window_end time n = (time / n + 1) * n

-- the device steps in the order in which they are asked
abbrev pub device_order : List Dev
device_order = Event ∷ Alarm ∷ Uart ∷ Receive ∷ Random ∷ Store ∷ []

-- the place of a device in that order
abbrev pub device_place : Dev → ℕ
device_place Event = 0
device_place Alarm = 1
device_place Uart = 2
device_place Receive = 3
device_place Random = 4
device_place Store = 5

-- whether a device step is ready in the window of a slot: an Event, or one that has work for that slot, whose lane has
-- the devices behind the Event
abbrev pub device_is_ready : LanesView → ℕ → Dev → Bool
device_is_ready l slot Event = l.event_ready
device_is_ready l slot device = slice_index_or (lane_of l slot) (device_place device - 1) false

-- the first that is
unfoldable pub device_in_window : LanesView → ℕ → Option Dev
device_in_window l slot = find (device_is_ready l slot) device_order

-- the time at which a device step becomes ready by itself, where there is one
abbrev pub ready_time : LanesView → ℕ → Dev → Option ℕ
ready_time l slot Event = l.event_at
ready_time l slot Alarm = alarm_time l slot
ready_time l slot Uart = uart_time l slot
ready_time l slot device = None

-- whether something is left to do for a slot: it is ready, or a device step is, or its alarm or its UART becomes so
abbrev pub is_left_in : LanesView → ℕ → Bool
is_left_in l slot =
    slot_is_ready l slot || (is_some (device_in_window l slot)
    || (is_some (alarm_time l slot) || is_some (uart_time l slot)))

-- whether something is left to do: an event is to come, or there is something for a slot
unfoldable pub is_left : LanesView → Bool
is_left l = is_some l.event_at || is_some (find (is_left_in l) (range_with_len 0 SLOT_COUNT))

-- the earlier of a time, where there is one, and another
abbrev pub earlier : Option ℕ → ℕ → ℕ
earlier None time = time
earlier (Some at) time = min at time

-- up to when time passes in the window of a slot that has nothing to do: to the first of the window's end, the next
-- event, and the next times of its alarm and of its UART
unfoldable pub passes_to : LanesView → ℕ → ℕ
passes_to l slot =
    earlier l.event_at (earlier (alarm_time l slot) (earlier (uart_time l slot) (window_end l.time l.n)))

-- the choice in the window of a slot, or none: the first device step that is ready; else the slot's turn; else time
-- passes, where anything is left to do
unfoldable pub slot_choice : LanesView → ℕ → Option Choice
slot_choice l slot =
    option_or (option_map Device (device_in_window l slot))
    (if slot_is_ready l slot then Some (Run slot)
    else (if is_left l then Some (Pass (passes_to l slot - l.time)) else None))

-- the next choice: that in the window of the slot whose window it is
abbrev pub window_choice : LanesView → Option Choice
window_choice l = slot_choice l (window_slot l.time l.n)

-- A device step that is not ready in the window of the slot whose window it is becomes so later, where it does by
-- itself.
abbrev pub AreAhead : LanesView → Type 0
AreAhead l =
    (device : Dev) → device_is_ready l (window_slot l.time l.n) device ≡ false
    → ForSome (ready_time l (window_slot l.time l.n) device) (λ at. l.time < at)
