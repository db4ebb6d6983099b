-- With time partitions the next choice is that of the window. Of flags of one slot alone that slot is next, if its flag
-- is set; a list by slots is read at that slot; and the nearest of all times and the window's end is the earliest of
-- the parts. So each part of the world's choice is that of the lane.
use Rattle.kernel_laws.proofs.Cases.{cases_option}
use Rattle.std.proofs.lemmas.Bool.{cases_Bool}
use Rattle.std.proofs.Common.{inl, inr}
use Rattle.std.proofs.Common.{◌≡◌, ◌≤◌, ◌<◌, ℕ, zero, suc, ◌+◌, ◌-◌, Bool, true, false, cond}
use Rattle.std.proofs.Common.{◌&&◌, nat_le, IsTrue, ◌||◌, if◌then◌else◌, List, [], ◌∷◌, map, find, slice_get}
use Rattle.std.proofs.Common.{slice_index_or, is_some}
use Rattle.std.proofs.Common.{Option, None, Some, refl, sym, ap, ap₂, ◌∙◌, arith, eqb-true}
use Rattle.std.specs.List.{range_with_len}
use Rattle.std.specs.Option.{ForSome, option_map, option_or}
use Rattle.std.proofs.lemmas.Bool.{false≢true, or_parts}
use Rattle.std.proofs.lemmas.Bool.Decides.{nat_tests}
use Rattle.tk_base.specs.declared.limits.TheConstants.{SLOT_COUNT}
use Rattle.tk_base.specs.declared.process.Choice.TheVariants.{Run, Device, Pass}
use Rattle.tk_base.specs.declared.process.Dev.{Dev}
use Rattle.tk_base.specs.declared.process.Dev.TheVariants.{Event, Alarm, Uart}
use Rattle.turn_scheduler.specs.RoundRobin.{choice, device_order, device_place, next_slot, ready_device}
use Rattle.turn_scheduler.specs.Parts.{place_is_ready}
use Rattle.partition_turns.specs.LanesView.{LanesView, alarm_time, lane_of, slot_is_ready, uart_time}
use Rattle.partition_turns.specs.Windows.{device_in_window, device_is_ready, earlier, is_left as is_left_in_lanes}
use Rattle.partition_turns.specs.Windows.{is_left_in, passes_to as passes_to_in, slot_choice, window_end}
use Rattle.partition_turns.specs.Windows.{ready_time, window_slot}
use Rattle.partition_turns.proofs.Found.{find_range-none, none-find_range}
use Rattle.script_text.specs.Settings.{ScriptEvent as Arrival}
use Rattle.board_devices.specs.Arriving.{first_arrival_time, is_time}
use Rattle.driver_model.specs.Alarm.{due_for, left_for, nearer}
use Rattle.driver_model.specs.Commands.{Writes}
use Rattle.driver_model.specs.Laws.{IsDueWhereNoneAreLeft}
use Rattle.kernel_model.specs.Turn.{may_turn}
use Rattle.kernel_model.specs.World.{Work, World, is_let, only_at, only_in, sending_time, work_at}
use Rattle.kernel_model.specs.Parts.{work_of}
use Rattle.kernel_model.specs.Named.{can_run}
use Rattle.kernel_model.specs.World.{now_in, owns_in}
use Rattle.kernel_model.specs.Parts.{line_in}
use Rattle.kernel_model.specs.Named.{waits_in}
use Rattle.kernel_model.specs.Run.{is_left, is_left_for, may_go, next, passes_to}
use Rattle.kernel_model.specs.Parts.{work_for}
use Rattle.kernel_model.proofs.Runs.{going_is_let, going_is_ready, next_slot_ready, ready_goes}
use Rattle.kernel_laws.specs.Windows.{LanesAreAhead, NextIsOfTheWindow, due_time, lane_order, lanes_in}
use Rattle.kernel_laws.proofs.OneRun.{no_turn, told_ready}

-- what a list by slot says of a slot
at_slot : {X : Type 0} (f : ℕ → X) (d : X) (from n i : ℕ) → i < n
    → slice_index_or (map f (range_with_len from n)) i d ≡ f (from + i)
at_slot f d from zero i h = absurd (omega (arith, h))
at_slot f d from (suc n) zero h = let same : from ≡ from + 0 = omega arith in ap f same
at_slot f d from (suc n) (suc i) h =
    let same : from + 1 + i ≡ from + suc i = omega arith in
    at_slot f d (from + 1) n i (omega (arith, h)) ∙ ap f same

of_slot : {X : Type 0} (f : ℕ → X) (d : X) (slot : ℕ) → slot < SLOT_COUNT
    → slice_index_or (map f (range_with_len 0 SLOT_COUNT)) slot d ≡ f slot
of_slot f d slot there = let same : 0 + slot ≡ slot = omega arith in at_slot f d 0 SLOT_COUNT slot there ∙ ap f same

module _ (w : World) (slot : ℕ) (there : slot < SLOT_COUNT) where
  lane_is : lane_of (lanes_in w) slot ≡ map (work_for w slot).ready lane_order
  lane_is = of_slot (λ (s : ℕ). map (work_for w s).ready lane_order) [] slot there

  alarm_is : alarm_time (lanes_in w) slot ≡ due_time w slot
  alarm_is = of_slot (due_time w) None slot there

  uart_is : uart_time (lanes_in w) slot ≡ sending_time (Some slot) w.devices
  uart_is = of_slot (λ (s : ℕ). sending_time (Some s) w.devices) None slot there

  device_same : (device : Dev) → device_is_ready (lanes_in w) slot device ≡ (work_for w slot).ready device
  device_same Event = refl
  device_same device = rw lane_is

  first_device : device_in_window (lanes_in w) slot ≡ ready_device (map (work_for w slot).ready device_order)
  unfolding device_in_window ready_device
  first_device =
      same (device_is_ready (lanes_in w) slot)
      (λ device. place_is_ready (map (work_for w slot).ready device_order) (device_place device)) device_order
      (λ device. device_same device ∙ at_place (work_for w slot).ready device)
    where
      at_place : (ready : Dev → Bool) (device : Dev)
          → ready device ≡ place_is_ready (map ready device_order) (device_place device)
      at_place ready Event = refl
      at_place ready device = refl

      same : (p q : Dev → Bool) (xs : List Dev) → ((x : Dev) → p x ≡ q x) → find p xs ≡ find q xs
      same p q [] each = refl
      same p q (x ∷ xs) each = ap₂ (λ (b : Bool) (o : Option Dev). cond b (Some x) o) (each x) (same p q xs each)

-- of the flags of one slot alone that one is next, where it is set
turn_same : (flags : List Bool) (slot : ℕ) (present : Option ℕ) (used slice : ℕ) → slot < SLOT_COUNT
    → next_slot (may_go (Some slot) flags) present used slice
    ≡ (if slice_index_or flags slot false then Some slot else None)
turn_same flags slot present used slice there =
    let table = may_go (Some slot) flags in
    let itself : is_let (Some slot) slot ≡ true = grind (arith, nat_tests) in
    elim (cases_option (next_slot table present used slice)) [
      | inl none ↦ elim (cases_Bool (slice_index_or flags slot false)) [
        | inl e ↦
            absurd (false≢true (sym (no_turn table present used slice slot none there)
            ∙ ready_goes (Some slot) flags slot itself e))
        | inr e ↦ rw (none, e)
      ]
      | inr other ↦
          let ready = next_slot_ready table present used slice other.0 other.1 in
          let same = eqb-true other.0 slot (going_is_let (Some slot) flags other.0 ready) in
          let is = ap (λ (s : ℕ). slice_index_or flags s false) (sym same)
          ∙ going_is_ready (Some slot) flags other.0 ready in
          rw (other.1, is) (ap Some same)
    ]

-- the nearest of three times and of an end
nearest : (a b c : Option ℕ) (end : ℕ)
    → nearer (nearer a (nearer b c)) (Some end) ≡ Some (earlier a (earlier b (earlier c end)))
nearest None None None end = refl
nearest None (Some y) None end = refl
nearest (Some x) None None end = refl
nearest (Some x) (Some y) None end = ap Some (omega arith)
nearest a b c end = ap Some (omega arith)

ends_same : (w : World) (slot : ℕ) → slot < SLOT_COUNT
    → nearer (work_for w slot).next (Some (window_end w.clock.time w.pace.window))
    ≡ Some (passes_to_in (lanes_in w) slot)
unfolding passes_to_in
ends_same w slot there =
    rw (alarm_is w slot there, uart_is w slot there)
    (nearest (first_arrival_time w.devices.arrivals) (due_time w slot) (sending_time (Some slot) w.devices)
    (window_end w.clock.time w.pace.window))

-- whether anything is left, for a slot and for any
is_none_nearer : (a b c : Option ℕ) → is_some (nearer a (nearer b c)) ≡ (is_some a || (is_some b || is_some c))
is_none_nearer None None c = refl
is_none_nearer None (Some y) None = refl
is_none_nearer (Some x) None None = refl
is_none_nearer (Some x) (Some y) None = refl
is_none_nearer a b c = refl

left_slot : (w : World) (slot : ℕ) → slot < SLOT_COUNT
    → is_left_for w slot ≡ (can_run (slice_get w.records slot)
    || (is_some (device_in_window (lanes_in w) slot) || (is_some (first_arrival_time w.devices.arrivals)
    || (is_some (alarm_time (lanes_in w) slot) || is_some (uart_time (lanes_in w) slot)))))
left_slot w slot there =
    rw (
      first_device w slot there,
      alarm_is w slot there,
      uart_is w slot there,
      is_none_nearer (first_arrival_time w.devices.arrivals) (due_time w slot) (sending_time (Some slot) w.devices),
    )

-- nothing is left of these five exactly where nothing is of the one and the others
none_of_five : (a b c d e : Bool) → (a || (b || (c || (d || e)))) ≡ false
    → (c ≡ false) × ((a || (b || (d || e))) ≡ false)
none_of_five false false false d e f = (refl, f)
none_of_five a b c d e f = absurd (false≢true (sym f))

none_of_all : (a b c d e : Bool) → c ≡ false → (a || (b || (d || e))) ≡ false → (a || (b || (c || (d || e)))) ≡ false
none_of_all false false false d e f g = g
none_of_all false false true d e f g = absurd (false≢true (sym f))
none_of_all a b c d e f g = absurd (false≢true (sym g))

same_bool : (a b : Bool) → (a ≡ false → b ≡ false) → (b ≡ false → a ≡ false) → a ≡ b
same_bool true false f g = g refl
same_bool false true f g = sym (f refl)
same_bool true true f g = refl
same_bool false false f g = refl

-- where nothing is found among the slots, no slot passes, and the other way round
none_passes : (p : ℕ → Bool) (slot : ℕ) → is_some (find p (range_with_len 0 SLOT_COUNT)) ≡ false → slot < SLOT_COUNT
    → p slot ≡ false
none_passes p slot none there =
    let same : slot ≡ 0 + slot = omega arith in ap p same ∙ find_range-none p 0 SLOT_COUNT none slot there

none_is_found : (p : ℕ → Bool) → ((slot : ℕ) → slot < SLOT_COUNT → p slot ≡ false)
    → is_some (find p (range_with_len 0 SLOT_COUNT)) ≡ false
none_is_found p none =
    none-find_range p 0 SLOT_COUNT (λ slot there. let same : 0 + slot ≡ slot = omega arith in ap p same ∙ none slot
    there)

left_same : (w : World) → is_left w ≡ is_left_in_lanes (lanes_in w)
unfolding is_left is_left_in_lanes
left_same w =
    same_bool (is_some (find (is_left_for w) (range_with_len 0 SLOT_COUNT)))
    (is_some event || is_some (find (is_left_in l) (range_with_len 0 SLOT_COUNT))) none_there none_here
  where
    l : LanesView
    l = lanes_in w

    event : Option ℕ
    event = first_arrival_time w.devices.arrivals

    none_of : (slot : ℕ) → slot < SLOT_COUNT → is_left_for w slot ≡ false
        → (is_some event ≡ false) × (is_left_in l slot ≡ false)
    none_of slot there none =
        let all = none_of_five (can_run (slice_get w.records slot)) (is_some (device_in_window l slot)) (is_some event)
        (is_some (alarm_time l slot)) (is_some (uart_time l slot)) (sym (left_slot w slot there) ∙ none) in (
          all.0,
          rw (told_ready w.records slot) all.1,
        )

    none_there : is_some (find (is_left_for w) (range_with_len 0 SLOT_COUNT)) ≡ false
        → (is_some event || is_some (find (is_left_in l) (range_with_len 0 SLOT_COUNT))) ≡ false
    none_there none =
        let each : (i : ℕ) → i < SLOT_COUNT → (is_some event ≡ false) × (is_left_in l i ≡ false) =
        λ i h. none_of i h (none_passes (is_left_for w) i none h) in
        rw (each 0 (omega arith)).0 (none_is_found (is_left_in l) (λ i h. (each i h).1))

    none_here : (is_some event || is_some (find (is_left_in l) (range_with_len 0 SLOT_COUNT))) ≡ false
        → is_some (find (is_left_for w) (range_with_len 0 SLOT_COUNT)) ≡ false
    none_here none =
        let both = or_parts (is_some event) (is_some (find (is_left_in l) (range_with_len 0 SLOT_COUNT))) none in
        none_is_found (is_left_for w) (λ i h. left_slot w i h
        ∙ none_of_all (can_run (slice_get w.records i)) (is_some (device_in_window l i)) (is_some event)
        (is_some (alarm_time l i)) (is_some (uart_time l i)) both.0
        (rw (← told_ready w.records i) (none_passes (is_left_in l) i both.1 h)))

-- whose window it is, and how far time passes
only_is : (time n : ℕ) → 1 ≤ n → only_at time n ≡ Some (window_slot time n)
only_is time zero h = absurd (omega (arith, h))
only_is time (suc n) h = refl

passes_is : (w : World) (n : ℕ) → 1 ≤ n
    → passes_to w n
    ≡ (if is_left w then nearer (work_of w).next (Some (window_end w.clock.time n)) else None)
passes_is w zero h = absurd (omega (arith, h))
passes_is w (suc n) h = refl

window_there : (time n : ℕ) → window_slot time n < SLOT_COUNT
window_there time n = omega arith

-- the three in their order
turn_or : (ready left : Bool) (slot : ℕ) (to : Option ℕ) (at time : ℕ) → to ≡ Some at
    → option_or (option_map Run (if ready then Some slot else None))
    (option_map (λ n. Pass (n - time)) (if left then to else None))
    ≡ (if ready then Some (Run slot) else (if left then Some (Pass (at - time)) else None))
turn_or true left slot to at time e = refl
turn_or false true slot to at time e = ap (option_map (λ n. Pass (n - time))) e
turn_or false false slot to at time e = refl

pub next_is_of_the_window : NextIsOfTheWindow
unfolding next choice slot_choice
next_is_of_the_window w some =
    let time = w.clock.time in
    let slot = window_slot time w.pace.window in
    let there = window_there time w.pace.window in
    let only = only_is time w.pace.window some in
    let l = lanes_in w in
    let flags = map may_turn w.records in
    let work : work_of w ≡ work_for w slot =
    ap (λ (o : Option ℕ). work_at o time (now_in w) (owns_in w) w.devices) only in
    let device : ready_device (map (work_of w).ready device_order) ≡ device_in_window l slot =
    ap (λ (x : Work). ready_device (map x.ready device_order)) work ∙ sym (first_device w slot there) in
    let turn : next_slot (may_go (only_in w) flags) w.present.slot w.present.used w.pace.slice
    ≡ (if slot_is_ready l slot then Some slot else None) =
    ap (λ (o : Option ℕ). next_slot (may_go o flags) w.present.slot w.present.used w.pace.slice) only
    ∙ turn_same flags slot w.present.slot w.present.used w.pace.slice there in
    let to : passes_to w w.pace.window
    ≡ (if is_left_in_lanes l then nearer (work_for w slot).next (Some (window_end time w.pace.window)) else None) =
    passes_is w w.pace.window some
    ∙ ap₂ (λ (b : Bool) (x : Work). if b then nearer x.next (Some (window_end time w.pace.window)) else None)
    (left_same w) work in
    rw (device, turn, to) (ap (option_or (option_map Device (device_in_window l slot)))
    (turn_or (slot_is_ready l slot) (is_left_in_lanes l) slot
    (nearer (work_for w slot).next (Some (window_end time w.pace.window))) (passes_to_in l slot) time
    (ends_same w slot there)))

-- what comes in lies ahead where its time has not come
arrival_ahead : (time at : ℕ) (arrivals : List Arrival) → is_time time arrivals ≡ false
    → first_arrival_time arrivals ≡ Some at → time < at
arrival_ahead time at [] e f = absurd (cc)
arrival_ahead time at (arrival ∷ rest) e f = grind (arith, nat_tests)

-- so does an alarm that is not due
alarm_ahead : IsDueWhereNoneAreLeft → (w : World) (slot at : ℕ) → (work_for w slot).ready Alarm ≡ false
    → due_time w slot ≡ Some at → w.clock.time < at
alarm_ahead law w slot at none = by_left (left_for (Some slot) (now_in w) (owns_in w)) refl
  where
    not_both : (b : Bool) → IsTrue b → b ≡ false → ⊥
    not_both true h e = cc
    not_both false h e = cc

    by_left : (left : Option ℕ) → left_for (Some slot) (now_in w) (owns_in w) ≡ left
        → option_map (λ ticks. w.clock.time + ticks) left ≡ Some at → w.clock.time < at
    by_left None e f = absurd (cc)
    by_left (Some zero) e f =
        absurd (not_both (is_some (due_for (Some slot) (now_in w) (owns_in w)))
        ((law (Some slot) (now_in w) (owns_in w)).0 e) none)
    by_left (Some (suc ticks)) e f = grind arith

-- and the time at which the UART is free for a write that waits, where it is not free
free_ahead : (waits : Bool) (free time at : ℕ) → (waits && nat_le free time) ≡ false
    → (if waits then Some free else None) ≡ Some at → time < at
free_ahead true free time at e f = grind (arith, nat_tests)
free_ahead false free time at e f = absurd (cc)

pub lanes_are_ahead : IsDueWhereNoneAreLeft → LanesAreAhead
lanes_are_ahead law w some = by_device
  where
    slot : ℕ
    slot = window_slot w.clock.time w.pace.window

    there : slot < SLOT_COUNT
    there = window_there w.clock.time w.pace.window

    by_device : (device : Dev) → device_is_ready (lanes_in w) slot device ≡ false
        → ForSome (ready_time (lanes_in w) slot device) (λ at. w.clock.time < at)
    by_device Event e at f = arrival_ahead w.clock.time at w.devices.arrivals e f
    by_device Alarm e at f =
        alarm_ahead law w slot at (sym (device_same w slot there Alarm) ∙ e) (sym (alarm_is w slot there) ∙ f)
    by_device Uart e at f =
        free_ahead (waits_in (Some slot) Writes w.devices) (line_in slot w.devices).free w.clock.time at
        (sym (device_same w slot there Uart) ∙ e) (sym (uart_is w slot there) ∙ f)
    by_device device e at f = absurd (cc)
