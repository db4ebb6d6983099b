-- Worked cases of windows, computed from the definitions alone. The numbers were put together by hand.
use Rattle.std.proofs.Common.{◌≡◌, ℕ, zero, suc, ◌+◌, ◌-◌, true, false, nat_lt, [], ◌∷◌, Option, None, Some, refl}
use Rattle.std.proofs.Common.{arith}
use Rattle.tk_base.specs.declared.process.Choice.{Choice}
use Rattle.tk_base.specs.declared.process.Choice.TheVariants.{Run, Device, Pass}
use Rattle.tk_base.specs.declared.process.Dev.TheVariants.{Event, Alarm, Uart}
use Rattle.partition_turns.specs.LanesView.{LanesView}
use Rattle.partition_turns.specs.Windows.{AreAhead, device_in_window, is_left, passes_to, slot_choice, window_choice}
use Rattle.partition_turns.specs.Windows.{window_end, window_slot}

-- In windows of 4 ticks slot 0 has the times 0 to 3, slot 1 those from 4 on, slot 15 the times 60 to 63, and then it is
-- slot 0's again.
windows : (window_slot 0 4 ≡ 0) × (window_slot 3 4 ≡ 0) × (window_slot 4 4 ≡ 1) × (window_slot 60 4 ≡ 15)
    × (window_slot 63 4 ≡ 15) × (window_slot 64 4 ≡ 0)
windows = (refl, refl, refl, refl, refl, refl)

ends : (window_end 0 4 ≡ 4) × (window_end 3 4 ≡ 4) × (window_end 4 4 ≡ 8) × (window_end 63 4 ≡ 64)
ends = (refl, refl, refl, refl)

-- Time 5, in the window of slot 1, which ends at time 8: nothing is left to do.
abbrev idle : LanesView
idle = record {
  time = 5;
  n = 4;
  slots = [];
  event_ready = false;
  event_at = None;
  devices = [];
  alarm_at = [];
  uart_at = [];
}

nothing : window_choice idle ≡ None
unfolding slot_choice is_left device_in_window
nothing = refl

-- Slot 1 has its turn; where slot 0 alone is ready, time passes to the window's end.
turns : (window_choice (record idle { slots = true ∷ true ∷ [] }) ≡ Some (Run 1))
    × (window_choice (record idle { slots = true ∷ [] }) ≡ Some (Pass 3))
unfolding slot_choice is_left device_in_window passes_to
turns = (refl, refl)

-- Its UART comes before its turn, and that of slot 0 has to wait; an Event comes first.
devices : (window_choice (record idle { slots = true ∷ true ∷ []; devices = [] ∷ (false ∷ true ∷ []) ∷ [] })
    ≡ Some (Device Uart))
    × (window_choice (record idle { slots = true ∷ true ∷ []; devices = (false ∷ true ∷ []) ∷ [] }) ≡ Some (Run 1))
    × (window_choice (record idle { devices = (false ∷ true ∷ []) ∷ [] }) ≡ Some (Pass 3))
    × (window_choice (record idle { event_ready = true; devices = [] ∷ (false ∷ true ∷ []) ∷ [] })
    ≡ Some (Device Event))
unfolding slot_choice is_left device_in_window passes_to
devices = (refl, refl, refl, refl)

-- A pass goes to its alarm or to the next event, where they come before the window's end; the alarm of slot 0 keeps the
-- run going and ends no pass.
passes : (window_choice (record idle { alarm_at = None ∷ Some 7 ∷ [] }) ≡ Some (Pass 2))
    × (window_choice (record idle { alarm_at = None ∷ Some 7 ∷ []; event_at = Some 6 }) ≡ Some (Pass 1))
    × (window_choice (record idle { alarm_at = Some 6 ∷ [] }) ≡ Some (Pass 3))
    × (window_choice (record idle { uart_at = None ∷ Some 100 ∷ [] }) ≡ Some (Pass 3))
unfolding slot_choice is_left device_in_window passes_to
passes = (refl, refl, refl, refl)

-- There the times lie ahead, as `next_in_window` asks.
times_lie_ahead : AreAhead (record idle { alarm_at = None ∷ Some 7 ∷ []; event_at = Some 6 })
times_lie_ahead Event later at is = let same : 6 ≡ at = cc in omega (arith, same)
times_lie_ahead Alarm later at is = let same : 7 ≡ at = cc in omega (arith, same)
times_lie_ahead device later at is = absurd (cc)

-- Two processes, in slots 0 and 1, that end after so many turns, at a time.
record Two : Type 0 where
  time : ℕ
  first : ℕ
  second : ℕ

abbrev shown : ℕ → Two → LanesView
shown n w = record idle { time = w.time; n = n; slots = nat_lt 0 w.first ∷ nat_lt 0 w.second ∷ [] }

after : Two → Option Choice → Two
after w None = w
after w (Some (Run zero)) = record w { time = w.time + 1; first = w.first - 1 }
after w (Some (Run (suc slot))) = record w { time = w.time + 1; second = w.second - 1 }
after w (Some (Device device)) = w
after w (Some (Pass ticks)) = record w { time = w.time + ticks }

ran : ℕ → ℕ → Two → Two
ran n zero w = w
ran n (suc steps) w = ran n steps (after w (window_choice (shown n w)))

both_four : Two
both_four = record { time = 0; first = 4; second = 4 }

-- In windows of 4 ticks both are done after 8 turns; in windows of 3 the last turn of each is in its next window, after
-- the 14 windows of the empty slots have passed.
windows_of_four : ((ran 4 8 both_four).time ≡ 8) × (window_choice (shown 4 (ran 4 8 both_four)) ≡ None)
unfolding both_four ran after slot_choice is_left device_in_window passes_to
windows_of_four = (refl, refl)

windows_of_three : ((ran 3 23 both_four).time ≡ 52) × (window_choice (shown 3 (ran 3 23 both_four)) ≡ None)
    × (window_choice (shown 3 (ran 3 22 both_four)) ≡ Some (Run 1))
unfolding both_four ran after slot_choice is_left device_in_window passes_to
windows_of_three = (refl, refl, refl)

-- Slot 0 goes on for long: slot 1 has its four turns at the same times.
one_goes_on : ((ran 4 8 (record { time = 0; first = 1000; second = 4 })).first ≡ 996)
    × ((ran 4 8 (record { time = 0; first = 1000; second = 4 })).second ≡ 0)
    × ((ran 4 8 (record { time = 0; first = 1000; second = 4 })).time ≡ 8)
unfolding ran after slot_choice is_left device_in_window passes_to
one_goes_on = (refl, refl, refl)
