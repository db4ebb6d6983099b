-- Laws of the windows, and of the choice in them. Windows are this board's own.
use Rattle.std.specs.Prelude.{◌≡◌, ◌↔◌, ◌<◌, ◌≤◌, ℕ, ◌+◌, ◌%◌, true, false, None, Some}
use Rattle.std.specs.Option.{ForSome}
use Rattle.tk_base.specs.declared.limits.TheConstants.{SLOT_COUNT}
use Rattle.tk_base.specs.declared.process.Choice.{Choice}
use Rattle.tk_base.specs.declared.process.Choice.TheVariants.{Run, Device, Pass}
use Rattle.tk_base.specs.declared.process.Dev.{Dev}
use Rattle.partition_turns.specs.LanesView.{LanesView, alarm_time, lane_of, slot_is_ready, uart_time}
use Rattle.partition_turns.specs.Windows.{AreAhead, device_in_window, device_is_ready, ready_time, window_choice}
use Rattle.partition_turns.specs.Windows.{window_end, window_slot}

-- A time lies before the end of its window, by n ticks at most; up to there the window is the same; and there that of
-- the next slot begins, which has n ticks.
pub record IsInTurn (time n : ℕ) : Type 0 where
  pub ahead : time < window_end time n
  pub near : window_end time n ≤ time + n
  pub slot_lasts : (t : ℕ) → time ≤ t → t < window_end time n → window_slot t n ≡ window_slot time n
  pub end_lasts : (t : ℕ) → time ≤ t → t < window_end time n → window_end t n ≡ window_end time n
  pub slot_after : window_slot (window_end time n) n ≡ (window_slot time n + 1) % SLOT_COUNT
  pub end_after : window_end (window_end time n) n ≡ window_end time n + n

-- so do all times
abbrev pub WindowsAreInTurn : Type 0
WindowsAreInTurn = (time n : ℕ) → 1 ≤ n → IsInTurn time n

-- A choice can be made in the window of a slot, and serves no other one: a device step is ready there; or none is, and
-- it is that slot's turn, which is ready; or the slot is not ready either, and time passes.
abbrev pub CanBeMadeIn : LanesView → ℕ → Choice → Type 0
CanBeMadeIn l slot (Device device) = device_is_ready l slot device ≡ true
CanBeMadeIn l slot (Run other) = (other ≡ slot) × (device_in_window l slot ≡ None) × (slot_is_ready l slot ≡ true)
CanBeMadeIn l slot (Pass ticks) = (device_in_window l slot ≡ None) × (slot_is_ready l slot ≡ false)

-- so can the next choice, in the window of the slot whose window it is
abbrev pub ChoiceIsOfTheWindow : Type 0
ChoiceIsOfTheWindow = (l : LanesView) (c : Choice) → window_choice l ≡ Some c → CanBeMadeIn l (window_slot l.time l.n) c

-- a time is neither after the window's end nor after a time at which a device step becomes ready by itself
pub record PassesNone (l : LanesView) (slot to : ℕ) : Type 0 where
  pub window : to ≤ window_end l.time l.n
  pub devices : (device : Dev) → ForSome (ready_time l slot device) (λ at. to ≤ at)

-- so many ticks, of which there are 1 to n, lead to the last such time
pub record EndsInTime (l : LanesView) (slot ticks : ℕ) : Type 0 where
  pub some : 1 ≤ ticks
  pub few : ticks ≤ l.n
  pub passes_none : PassesNone l slot (l.time + ticks)
  pub last : (to : ℕ) → PassesNone l slot to → to ≤ l.time + ticks

-- so does each Pass
abbrev pub PassEndsInTime : Type 0
PassEndsInTime =
    (l : LanesView) (ticks : ℕ) → 1 ≤ l.n → AreAhead l → window_choice l ≡ Some (Pass ticks)
    → EndsInTime l (window_slot l.time l.n) ticks

-- nothing is left to do: no slot is ready, and no device step of any slot is, or becomes so by itself
pub record AllIsDone (l : LanesView) : Type 0 where
  pub slots : (slot : ℕ) → slot < SLOT_COUNT → slot_is_ready l slot ≡ false
  pub devices : (slot : ℕ) (device : Dev) → slot < SLOT_COUNT → device_is_ready l slot device ≡ false
  pub times : (slot : ℕ) (device : Dev) → slot < SLOT_COUNT → ready_time l slot device ≡ None

-- there is no next choice exactly there
abbrev pub NoneExactlyWhereAllIsDone : Type 0
NoneExactlyWhereAllIsDone = (l : LanesView) → (window_choice l ≡ None) ↔ AllIsDone l

-- two situations are alike in time, events and one slot
pub record AreAlikeIn (slot : ℕ) (l m : LanesView) : Type 0 where
  pub time : l.time ≡ m.time
  pub n : l.n ≡ m.n
  pub event_ready : l.event_ready ≡ m.event_ready
  pub event_at : l.event_at ≡ m.event_at
  pub slot_ready : slot_is_ready l slot ≡ slot_is_ready m slot
  pub lane : lane_of l slot ≡ lane_of m slot
  pub alarm : alarm_time l slot ≡ alarm_time m slot
  pub uart : uart_time l slot ≡ uart_time m slot

-- two choices are the same
abbrev pub IsTheSameChoice : Choice → Choice → Type 0
IsTheSameChoice c d = c ≡ d

-- What there is of the other slots decides no choice but whether there is one.
abbrev pub OtherSlotsDecideNothing : Type 0
OtherSlotsDecideNothing =
    (l m : LanesView) (c d : Choice) → AreAlikeIn (window_slot l.time l.n) l m → window_choice l ≡ Some c
    → window_choice m ≡ Some d → IsTheSameChoice c d
