-- The next choice reads the slot whose window it is, and no other; and what it passes over. The list by slots is read
-- at that slot (`at_slot`), so the choice is one by what is ready for it (`chosen_by`). A pass ends before anything of
-- it becomes ready, so each tick on the way is one without a step of its own.
use Rattle.std.proofs.Common.{◌≡◌, ◌≤◌, ◌<◌, ℕ, ◌+◌, ◌-◌, ◌^◌, ◌%◌, ◌&&◌, if◌then◌else◌, ◌∷◌, ◌/◌, Bool}
use Rattle.std.proofs.Common.{true, false, List, [], map, nat_le, slice_get, slice_index_or, IfSome, Option, None, Some}
use Rattle.std.proofs.Common.{is_some, refl, sym, ◌∙◌, arith, eqb-true}
use Rattle.std.specs.List.{range_with_len}
use Rattle.std.specs.Option.{option_map, option_or}
use Rattle.std.proofs.Math.Nat.{mod-lt}
use Rattle.std.proofs.lemmas.Bool.Decides.{nat_tests}
use Rattle.std.proofs.lemmas.List.FromFn.{get_or-map-range_with_len}
use Rattle.tk_base.specs.declared.limits.TheConstants.{SLOT_COUNT}
use Rattle.tk_base.specs.declared.process.Choice.{Choice}
use Rattle.tk_base.specs.declared.process.Choice.TheVariants.{Run, Device, Pass}
use Rattle.tk_base.specs.declared.process.Dev.{Dev}
use Rattle.partition_turns.specs.LanesView.{alarm_time, lane_of, uart_time}
use Rattle.partition_turns.specs.Laws.{WindowsAreInTurn}
use Rattle.partition_turns.specs.Windows.{device_in_window, earlier, is_left, passes_to, slot_choice, window_end}
use Rattle.partition_turns.specs.Windows.{window_slot}
use Rattle.script_text.specs.Settings.{ScriptEvent as Arrival}
use Rattle.board_devices.specs.Arriving.{first_arrival_time, is_time}
use Rattle.board_devices.specs.Clock.{clock_at}
use Rattle.driver_model.specs.Alarm.{due_for, left_for}
use Rattle.driver_model.specs.Commands.{Writes}
use Rattle.driver_model.specs.Laws.{QuietUntilNext}
use Rattle.kernel_laws.specs.Windows.{NextIsOfTheWindow, due_time, lane_order, lanes_in}
use Rattle.kernel_model.specs.World.{World, now_in, owns_in, sending_time}
use Rattle.kernel_model.specs.Parts.{line_in}
use Rattle.kernel_model.specs.Named.{waits_in}
use Rattle.kernel_model.specs.Named.{can_run}
use Rattle.kernel_model.specs.Run.{next}
use Rattle.kernel_model.specs.Parts.{work_for}
use Rattle.kernel_partitions.proofs.Alone.{IsIdle, comes_in, first_of, flags_for, in_own_window, later, own_by}
use Rattle.kernel_laws.proofs.OneRun.{told_ready}

-- the slot whose window it is
abbrev pub slot_now : World → ℕ
slot_now w = window_slot w.clock.time w.pace.window

slot_below : (w : World) → slot_now w < SLOT_COUNT
slot_below w = mod-lt (w.clock.time / w.pace.window) (omega arith)

-- what a list by slot says of it
at_slot : {X : Type 0} (f : ℕ → X) (d : X) (w : World)
    → slice_index_or (map f (range_with_len 0 SLOT_COUNT)) (slot_now w) d ≡ f (slot_now w)
at_slot f d w =
    let same : 0 + slot_now w ≡ slot_now w = omega arith in
    get_or-map-range_with_len f 0 SLOT_COUNT (slot_now w) (slot_now w) d (slot_below w) same

-- up to when time passes
abbrev pub pass_end : World → ℕ
pass_end w = passes_to (lanes_in w) (slot_now w)

-- the choice, by what is ready for that slot
abbrev pub chosen_by : ℕ → Option Dev → Bool → Bool → ℕ → Option Choice
chosen_by slot device turn left ticks =
    option_or (option_map Device device)
    (if turn then Some (Run slot) else (if left then Some (Pass ticks) else None))

pub next_by : NextIsOfTheWindow → (w : World) → 1 ≤ w.pace.window
    → next w
    ≡ chosen_by (slot_now w) (first_of (comes_in w) (flags_for (slot_now w) w))
    (can_run (slice_get w.records (slot_now w))) (is_left (lanes_in w)) (pass_end w - w.clock.time)
unfolding slot_choice device_in_window
next_by law w some =
    let l = lanes_in w in
    let lane : lane_of l (slot_now w) ≡ flags_for (slot_now w) w =
    at_slot (λ (s : ℕ). map (work_for w s).ready lane_order) [] w in
    law w some ∙ rw (lane, told_ready w.records (slot_now w)) refl

-- a time before the earlier of two lies before both
before_earlier : (time : ℕ) (o : Option ℕ) (other : ℕ) → time < earlier o other
    → IfSome o (λ at. time < at) × (time < other)
before_earlier time None other below = (tt, below)
before_earlier time (Some at) other below = (omega (arith, below), omega (arith, below))

not_yet : (time : ℕ) (arrivals : List Arrival) → IfSome (first_arrival_time arrivals) (λ at. time < at)
    → is_time time arrivals ≡ false
not_yet time [] sooner = refl
not_yet time (a ∷ rest) sooner = grind (arith, nat_tests)

-- the UART is not free before it is
free_later : (b : Bool) (free time : ℕ) → IfSome (if b then Some free else None) (λ at. time < at)
    → (b && nat_le free time) ≡ false
free_later false free time sooner = refl
free_later true free time sooner = grind (arith, nat_tests)

-- a time that follows another by some ticks, on the clock
on_the_clock : (start time ticks : ℕ) → (clock_at start time + ticks) % 2 ^ 32 ≡ clock_at start (time + ticks)
on_the_clock start time ticks = omega arith

-- each of the five is not ready
record NoneReady (a b c d e : Bool) : Type 0 where
  alarm : a ≡ false
  uart : b ≡ false
  receive : c ≡ false
  random : d ≡ false
  store : e ≡ false

none_ready : (a b c d e : Bool) → first_of false (a ∷ b ∷ c ∷ d ∷ e ∷ []) ≡ None → NoneReady a b c d e
none_ready true b c d e none = absurd (cc)
none_ready false true c d e none = absurd (cc)
none_ready false false true d e none = absurd (cc)
none_ready false false false true e none = absurd (cc)
none_ready false false false false true none = absurd (cc)
none_ready false false false false false none =
    record { alarm = refl; uart = refl; receive = refl; random = refl; store = refl }

ready_none : (a b c d e : Bool) → NoneReady a b c d e → first_of false (a ∷ b ∷ c ∷ d ∷ e ∷ []) ≡ None
ready_none a b c d e h = rw (h.alarm, h.uart, h.receive, h.random, h.store) refl

-- a slot has no own step, where nothing comes in and, in its window, neither a device is ready for it nor its process
no_own : (slot : ℕ) (window event : Bool) (lane : List Bool) (turn : Bool) → event ≡ false
    → (window ≡ true → (first_of false lane ≡ None) × (turn ≡ false)) → own_by slot window event lane turn ≡ None
no_own slot window true lane turn no_event none = absurd (cc)
no_own slot false false lane turn no_event none = refl
no_own slot true false lane turn no_event none =
    let both = none refl in rw (both.0, both.1) refl

module _ (quiet : QuietUntilNext) (turns : WindowsAreInTurn) (w : World) (some : 1 ≤ w.pace.window) where
  -- ticks before the end of a pass: nothing comes in, and no alarm is due nor is the UART free
  record InPass (i : ℕ) : Type 0 where
    event : IfSome (first_arrival_time w.devices.arrivals) (λ at. w.clock.time + i < at)
    alarm : IfSome (due_time w (slot_now w)) (λ at. w.clock.time + i < at)
    uart : IfSome (sending_time (Some (slot_now w)) w.devices) (λ at. w.clock.time + i < at)
    window : w.clock.time + i < window_end w.clock.time w.pace.window

  in_pass : (i : ℕ) → i < pass_end w - w.clock.time → InPass i
  unfolding passes_to
  in_pass i below =
      let l = lanes_in w in
      let end = window_end w.clock.time w.pace.window in
      let alarm : alarm_time l (slot_now w) ≡ due_time w (slot_now w) = at_slot (due_time w) None w in
      let uart : uart_time l (slot_now w) ≡ sending_time (Some (slot_now w)) w.devices =
      at_slot (λ (s : ℕ). sending_time (Some s) w.devices) None w in
      let free = earlier (uart_time l (slot_now w)) end in
      let due = earlier (alarm_time l (slot_now w)) free in
      let sooner : w.clock.time + i < earlier (first_arrival_time w.devices.arrivals) due = omega (arith, below) in
      let first = before_earlier (w.clock.time + i) (first_arrival_time w.devices.arrivals) due sooner in
      let second = before_earlier (w.clock.time + i) (alarm_time l (slot_now w)) free first.1 in
      let third = before_earlier (w.clock.time + i) (uart_time l (slot_now w)) end second.1 in
      record {
        event = first.0;
        alarm = rw alarm at second.0;
        uart = rw uart at third.0;
        window = third.1;
      }

  -- no device of the slot is ready then, where none is now
  alarm_waits : (i : ℕ) → InPass i
      → is_some (due_for (Some (slot_now w)) (now_in (later i w)) (owns_in w)) ≡ false
  alarm_waits i pass =
      rw (
        ← on_the_clock w.settings.start w.clock.time i,
        quiet (Some (slot_now w)) (now_in w) i (owns_in w)
            (by_left (left_for (Some (slot_now w)) (now_in w) (owns_in w)) pass.alarm),
      ) refl
    where
      by_left : (o : Option ℕ) → IfSome (option_map (λ left. w.clock.time + left) o) (λ at. w.clock.time + i < at)
          → IfSome o (λ left. i < left)
      by_left None sooner = tt
      by_left (Some left) sooner = omega (arith, sooner)

  uart_waits : (i : ℕ) → InPass i
      → (waits_in (Some (slot_now w)) Writes w.devices
      && nat_le (line_in (slot_now w) w.devices).free (w.clock.time + i)) ≡ false
  uart_waits i pass =
      free_later (waits_in (Some (slot_now w)) Writes w.devices) (line_in (slot_now w) w.devices).free
      (w.clock.time + i) pass.uart

  still_none : (i : ℕ) → InPass i → first_of false (flags_for (slot_now w) w) ≡ None
      → first_of false (flags_for (slot_now w) (later i w)) ≡ None
  still_none i pass none =
      let n = none_ready _ _ _ _ _ none in
      ready_none _ _ _ _ _ (record {
        alarm = alarm_waits i pass;
        uart = uart_waits i pass;
        receive = n.receive;
        random = n.random;
        store = n.store;
      })

  -- so time passes in which no slot has a step of its own
  pub passes_idle : (slot : ℕ) → first_of false (flags_for (slot_now w) w) ≡ None
      → can_run (slice_get w.records (slot_now w)) ≡ false → IsIdle slot w (pass_end w - w.clock.time)
  passes_idle slot none ready = λ i below.
      let pass = in_pass i below in
      let from : w.clock.time ≤ w.clock.time + i = omega arith in
      let stays : window_slot (w.clock.time + i) w.pace.window ≡ slot_now w =
      (turns w.clock.time w.pace.window some).slot_lasts (w.clock.time + i) from pass.window in
      no_own slot (in_own_window slot (later i w)) (comes_in (later i w)) (flags_for slot (later i w))
      (can_run (slice_get w.records slot)) (not_yet (w.clock.time + i) w.devices.arrivals pass.event)
      (λ here.
      let same : slot_now w ≡ slot = sym stays ∙ eqb-true (window_slot (w.clock.time + i) w.pace.window) slot here in
      rw (← same) (still_none i pass none, ready))
