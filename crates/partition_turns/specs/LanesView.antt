-- What the choice in a window rests on. It is this board's own.
use Rattle.std.specs.Prelude.{ℕ, Bool, false, List, [], Option, None, slice_index_or}

-- the time, and how many ticks a window has; which slots can have a turn; whether an Event is ready, and the time of
-- the next event; of each slot whether Alarm, Uart, Receive, Random and Store have work for it that is ready, and the
-- times at which Alarm and Uart have, where there is such work
pub record LanesView : Type 0 where
  pub time : ℕ
  pub n : ℕ
  pub slots : List Bool
  pub event_ready : Bool
  pub event_at : Option ℕ
  pub devices : List (List Bool)
  pub alarm_at : List (Option ℕ)
  pub uart_at : List (Option ℕ)

-- whether the process in a slot can have a turn; a slot that the lists lack has nothing
abbrev pub slot_is_ready : LanesView → ℕ → Bool
slot_is_ready l slot = slice_index_or l.slots slot false

-- the flags of the devices for a slot
abbrev pub lane_of : LanesView → ℕ → List Bool
lane_of l slot = slice_index_or l.devices slot []

-- the time at which the slot's alarm becomes due
abbrev pub alarm_time : LanesView → ℕ → Option ℕ
alarm_time l slot = slice_index_or l.alarm_at slot None

-- the time at which the UART becomes free for a write of the slot
abbrev pub uart_time : LanesView → ℕ → Option ℕ
uart_time l slot = slice_index_or l.uart_at slot None
