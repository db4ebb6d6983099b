-- The next choice of the round robin is ready: a device step since it is the first that is, a slot since the scheduler
-- names only one whose flag is set, and a pass since it leads to a time ahead. The last holds where no device step is
-- ready, as each time at which one becomes so lies ahead then.
use Rattle.std.proofs.Common.{◌≡◌, ℕ, zero, suc, ◌+◌, ◌-◌, ◌<◌, Bool, true, false, cond, ◌&&◌, nat_le, nat_lt, List, []}
use Rattle.std.proofs.Common.{length, ◌∷◌, ◌*◌, ◌/◌, slice_set, map, find, slice_get, slice_index_or}
use Rattle.std.proofs.Common.{Option, None, Some, IfSome, IsTrue, refl, sym, ap, ◌∙◌, arith}
use Rattle.std.proofs.Common.{eqb-true}
use Rattle.std.specs.Option.{option_map, option_or}
use Rattle.std.proofs.lemmas.Bool.{false≢true}
use Rattle.std.proofs.lemmas.Bool.Decides.{nat_tests}
use Rattle.std.proofs.Math.Nat.{lt-div-mul-add}
use Rattle.std.proofs.lemmas.List.{length-map, length-set}
use Rattle.tk_base.specs.declared.limits.TheConstants.{STEP_LIMIT}
use Rattle.tk_base.specs.declared.process.Choice.{Choice}
use Rattle.tk_base.specs.declared.process.Choice.TheVariants.{Run, Device, Pass}
use Rattle.tk_base.specs.declared.process.Dev.{Dev}
use Rattle.tk_base.specs.declared.process.Dev.TheVariants.{Event, Alarm, Uart}
use Rattle.partition_turns.specs.Windows.{window_end}
use Rattle.turn_scheduler.specs.RoundRobin.{choice, device_order, next_slot}
use Rattle.turn_scheduler.specs.Parts.{place_is_ready as is_ready_at}
use Rattle.turn_scheduler.specs.RoundRobin.{device_place, ready_device, slots_after}
use Rattle.process_model.specs.Own.{Own}
use Rattle.driver_model.specs.Alarm.{left_for, nearer}
use Rattle.driver_model.specs.Laws.{IsDueWhereNoneAreLeft}
use Rattle.script_text.specs.Settings.{ScriptEvent as Arrival}
use Rattle.board_devices.specs.Arriving.{is_time, first_arrival_time as arrival_time}
use Rattle.driver_model.specs.Commands.{Writes}
use Rattle.kernel_model.specs.Record.{Record}
use Rattle.kernel_model.specs.Turn.{may_turn}
use Rattle.kernel_model.specs.World.{Devices, World, can_act, is_ready, may_be_made, now_in}
use Rattle.kernel_model.specs.Parts.{line_in}
use Rattle.kernel_model.specs.Named.{lane_by}
use Rattle.kernel_model.specs.Named.{can_run}
use Rattle.kernel_model.specs.World.{is_let, only_in, owns_in}
use Rattle.kernel_model.specs.Named.{waits_in}
use Rattle.kernel_model.specs.Parts.{work_of}
use Rattle.kernel_model.specs.Run.{is_left, may_go, next, next_time, passes_to, ready_devices, ready_slots}
use Rattle.kernel_model.specs.World.{sending_time}
use Rattle.std.proofs.lemmas.Bool.{cases_Bool, and_parts, cond_both, leb-false, lt-ltb}
use Rattle.std.proofs.Common.{inl, inr, eq-eqb}
use Rattle.kernel_model.proofs.Places.{same_some}

pub found_passes : {X : Type 0} (p : X → Bool) (xs : List X) (x : X) → find p xs ≡ Some x → p x ≡ true
found_passes p [] x e = cc
found_passes p (y ∷ ys) x e =
    elim (cases_Bool (p y)) [
      | inl f ↦ rw (← same_some y x (rw f at e)) f
      | inr f ↦ found_passes p ys x (rw f at e)
    ]

-- the slot that is next is ready
pub next_slot_ready : (ready : List Bool) (present : Option ℕ) (used slice s : ℕ)
    → next_slot ready present used slice ≡ Some s → is_ready_at ready s ≡ true
unfolding next_slot
next_slot_ready ready None used slice s e = found_passes (is_ready_at ready) (slots_after None) s e
next_slot_ready ready (Some p) used slice s e =
    elim (cases_Bool (is_ready_at ready p && nat_lt used slice)) [
      | inl f ↦ rw (← same_some p s (rw f at e)) (and_parts (is_ready_at ready p) (nat_lt used slice) f).0
      | inr f ↦ found_passes (is_ready_at ready) (slots_after (Some p)) s (rw f at e)
    ]

pub ready_runs : (records : List Record) (s : ℕ) → slice_index_or (map may_turn records) s false ≡ true
    → can_run (slice_get records s) ≡ true
ready_runs [] s e = e
ready_runs (r ∷ rs) zero e = e
ready_runs (r ∷ rs) (suc s) e = ready_runs rs s e

-- a slot that may go is ready
none_flagged : (flags : List Bool) (s : ℕ) → slice_index_or (map (λ (flag : Bool). false) flags) s false ≡ true → ⊥
none_flagged [] s e = false≢true e
none_flagged (f ∷ fs) zero e = false≢true e
none_flagged (f ∷ fs) (suc s) e = none_flagged fs s e

one_flagged : (flags : List Bool) (only s : ℕ) (x : Bool)
    → slice_index_or (slice_set (map (λ (flag : Bool). false) flags) only x) s false ≡ true → (s ≡ only) × (x ≡ true)
one_flagged [] only s x e = absurd (false≢true e)
one_flagged (f ∷ fs) zero zero x e = (refl, e)
one_flagged (f ∷ fs) zero (suc s) x e = absurd (none_flagged fs s e)
one_flagged (f ∷ fs) (suc only) zero x e = absurd (false≢true e)
one_flagged (f ∷ fs) (suc only) (suc s) x e = let same = one_flagged fs only s x e in (ap suc same.0, same.1)

pub going_is_ready : (only : Option ℕ) (flags : List Bool) (s : ℕ) → slice_index_or (may_go only flags) s false ≡ true
    → slice_index_or flags s false ≡ true
going_is_ready None flags s e = e
going_is_ready (Some only) flags s e = let same = one_flagged flags only s _ e in rw same.0 same.1

-- a slot that may go is let
pub going_is_let : (only : Option ℕ) (flags : List Bool) (s : ℕ) → slice_index_or (may_go only flags) s false ≡ true
    → is_let only s ≡ true
going_is_let None flags s e = refl
going_is_let (Some only) flags s e = eq-eqb s only (one_flagged flags only s (slice_index_or flags only false) e).0

one_goes : (flags : List Bool) (slot : ℕ) → slice_index_or flags slot false ≡ true
    → slice_index_or (slice_set (map (λ (flag : Bool). false) flags) slot (slice_index_or flags slot false)) slot false
    ≡ true
one_goes [] slot e = e
one_goes (f ∷ fs) zero e = e
one_goes (f ∷ fs) (suc slot) e = one_goes fs slot e

-- and one that is ready may, where it is let
pub ready_goes : (only : Option ℕ) (flags : List Bool) (slot : ℕ) → is_let only slot ≡ true
    → slice_index_or flags slot false ≡ true → slice_index_or (may_go only flags) slot false ≡ true
ready_goes None flags slot let_go e = e
ready_goes (Some only) flags slot let_go e = rw (← eqb-true slot only let_go) (one_goes flags slot e)

pub going_length : (only : Option ℕ) (flags : List Bool) → length (may_go only flags) ≡ length flags
going_length None flags = refl
going_length (Some only) flags =
    length-set (map (λ (flag : Bool). false) flags) only (slice_index_or flags only false)
    ∙ length-map flags (λ (flag : Bool). false)

-- a choice that may be made is ready below the limit of steps
below_limit : (w : World) (b : Bool) → b ≡ true → w.clock.steps < STEP_LIMIT
    → IsTrue (nat_lt w.clock.steps STEP_LIMIT && b)
below_limit w b e h = grind (arith, nat_tests)

pub ready_at : (w : World) (device : Dev) → is_ready_at (ready_devices w) (device_place device) ≡ can_act w device
ready_at w Event = refl
ready_at w device = refl

device_ready : (w : World) (device : Dev) → ready_device (ready_devices w) ≡ Some device → can_act w device ≡ true
unfolding ready_device
device_ready w device e =
    sym (ready_at w device) ∙ found_passes (λ d. is_ready_at (ready_devices w) (device_place d)) device_order device e

pub passed_over : {X : Type 0} (b : Bool) (x : X) (rest : Option X) → cond b (Some x) rest ≡ None
    → (b ≡ false) × (rest ≡ None)
passed_over true x rest e = cc
passed_over false x rest e = (refl, e)

-- where no device step is ready, none of those that become so by themselves is
record NoneActs (w : World) : Type 0 where
  event : can_act w Event ≡ false
  alarm : can_act w Alarm ≡ false
  uart : can_act w Uart ≡ false

none_acts : (w : World) → ready_device (ready_devices w) ≡ None → NoneActs w
unfolding ready_device
none_acts w e =
    let event = passed_over (can_act w Event) Event _ e in
    let alarm = passed_over (can_act w Alarm) Alarm _ event.1 in
    let uart = passed_over (can_act w Uart) Uart _ alarm.1 in
    record { event = event.0; alarm = alarm.0; uart = uart.0 }

-- a time lies ahead, if there is one
abbrev Ahead : ℕ → Option ℕ → Type 0
Ahead time at = IfSome at (λ n. time < n)

nearer_ahead : (time : ℕ) (a b : Option ℕ) → Ahead time a → Ahead time b → Ahead time (nearer a b)
nearer_ahead time None b p q = q
nearer_ahead time (Some m) None p q = p
nearer_ahead time (Some m) (Some n) p q = omega (arith, p, q)

arrival_ahead : (time : ℕ) (arrivals : List Arrival) → is_time time arrivals ≡ false
    → Ahead time (arrival_time arrivals)
arrival_ahead time [] e = tt
arrival_ahead time (arrival ∷ rest) e = grind (arith, nat_tests)

-- when the next alarm becomes due, of a time with what the clock shows then
abbrev pub alarm_time : Option ℕ → ℕ → ℕ → List Own → Option ℕ
alarm_time only time now owns = option_map (λ left. time + left) (left_for only now owns)

alarm_ahead : (w : World) → IsDueWhereNoneAreLeft → can_act w Alarm ≡ false
    → Ahead w.clock.time (alarm_time (only_in w) w.clock.time (now_in w) (owns_in w))
alarm_ahead w law none = by_left (left_for (only_in w) (now_in w) (owns_in w)) refl
  where
    by_left : (left : Option ℕ) → left_for (only_in w) (now_in w) (owns_in w) ≡ left
        → Ahead w.clock.time (option_map (λ ticks. w.clock.time + ticks) left)
    by_left None e = tt
    by_left (Some zero) e = absurd (false≢true (rw none at (law (only_in w) (now_in w) (owns_in w)).0 e))
    by_left (Some (suc ticks)) e = omega arith

sending_ahead : (only : Option ℕ) (time : ℕ) (d : Devices)
    → (waits_in only Writes d && nat_le (line_in (lane_by only) d).free time) ≡ false → Ahead time (sending_time only d)
sending_ahead only time d e =
    cond_both (waits_in only Writes d) _ None (Ahead time)
    (λ waits. leb-false (line_in (lane_by only) d).free time (rw waits at e)) (λ none. tt)

-- the nearest time at which a device step becomes ready lies ahead, where none is
work_ahead : (w : World) → IsDueWhereNoneAreLeft → ready_device (ready_devices w) ≡ None
    → Ahead w.clock.time (work_of w).next
work_ahead w law none =
    let n = none_acts w none in
    let only = only_in w in
    let alarm = alarm_time only w.clock.time (now_in w) (owns_in w) in
    let sends = sending_time only w.devices in
    nearer_ahead w.clock.time (arrival_time w.devices.arrivals) (nearer alarm sends)
    (arrival_ahead w.clock.time w.devices.arrivals n.event)
    (nearer_ahead w.clock.time alarm sends (alarm_ahead w law n.alarm)
    (sending_ahead only w.clock.time w.devices n.uart))

-- so does a window's end
end_ahead : (time n : ℕ) → time < window_end time (suc n)
end_ahead time n =
    let more : time < time / suc n * suc n + suc n = lt-div-mul-add (omega arith) in
    let split : (time / suc n + 1) * suc n ≡ time / suc n * suc n + suc n = grind arith in
    omega (arith, more, split)

-- so the time to which a pass leads lies ahead
pub lies_ahead : (w : World) → IsDueWhereNoneAreLeft → ready_device (ready_devices w) ≡ None
    → IfSome (next_time w) (λ at. w.clock.time < at)
lies_ahead w law none = by_pace w.pace.window
  where
    by_pace : (window : ℕ) → Ahead w.clock.time (passes_to w window)
    by_pace zero = work_ahead w law none
    by_pace (suc n) =
        cond_both (is_left w) _ None (Ahead w.clock.time)
        (λ left. nearer_ahead w.clock.time (work_of w).next (Some (window_end w.clock.time (suc n)))
        (work_ahead w law none) (end_ahead w.clock.time n)) (λ none_left. tt)

module _ (w : World) (c : Choice) (law : IsDueWhereNoneAreLeft) (h : w.clock.steps < STEP_LIMIT) where
  so : (d : Choice) → IsTrue (is_ready w d) → Some d ≡ Some c → IsTrue (is_ready w c)
  so d ready e = rw (same_some d c e) at ready

  by_time : (at : Option ℕ) → Ahead w.clock.time at → option_map (λ n. Pass (n - w.clock.time)) at ≡ Some c
      → IsTrue (is_ready w c)
  unfolding may_be_made
  by_time None ahead f = absurd (cc)
  by_time (Some at) ahead f =
      so (Pass (at - w.clock.time)) (below_limit w _ (lt-ltb 0 (at - w.clock.time) (omega (arith, ahead))) h) f

  by_slot : ready_device (ready_devices w) ≡ None → (o : Option ℕ)
      → next_slot (ready_slots w) w.present.slot w.present.used w.pace.slice ≡ o
      → option_or (option_map Run o) (option_map (λ at. Pass (at - w.clock.time)) (next_time w)) ≡ Some c
      → IsTrue (is_ready w c)
  unfolding may_be_made
  by_slot none None e f = by_time (next_time w) (lies_ahead w law none) f
  by_slot none (Some s) e f =
      so (Run s) (below_limit w (can_run (slice_get w.records s))
      (ready_runs w.records s (going_is_ready (only_in w) (map may_turn w.records) s
      (next_slot_ready (ready_slots w) w.present.slot w.present.used w.pace.slice s e))) h) f

  by_device : (o : Option Dev) → ready_device (ready_devices w) ≡ o
      → option_or (option_map Device o) (option_or
      (option_map Run (next_slot (ready_slots w) w.present.slot w.present.used w.pace.slice))
      (option_map (λ at. Pass (at - w.clock.time)) (next_time w))) ≡ Some c → IsTrue (is_ready w c)
  unfolding may_be_made
  by_device None e f = by_slot e (next_slot (ready_slots w) w.present.slot w.present.used w.pace.slice) refl f
  by_device (Some device) e f = so (Device device) (below_limit w (can_act w device) (device_ready w device e) h) f

-- the next choice is ready, below the limit of steps
pub next_ready : (w : World) (c : Choice) → IsDueWhereNoneAreLeft → next w ≡ Some c → w.clock.steps < STEP_LIMIT
    → IsTrue (is_ready w c)
unfolding next choice
next_ready w c law e h = by_device w c law h (ready_device (ready_devices w)) refl e
