-- The run by round robin and its choices, and when it is done. The run of n steps is its n chosen choices made one
-- after another, by induction on n. It is done exactly where nothing is left: no device can act, no slot is ready and
-- no time is ahead, each of which is a search of a list that finds none exactly where none passes.
use Rattle.std.proofs.lemmas.Option.{slice_get-map, slice_get_past}
use Rattle.std.proofs.lemmas.Bool.{cond_both}
use Rattle.std.proofs.Common.{eqb-true}
use Rattle.kernel_laws.proofs.Cases.{cases_option}
use Rattle.std.proofs.lemmas.Bool.{cases_Bool, cases_lt}
use Rattle.std.proofs.Common.{◌≡◌, ◌≤◌, ◌<◌, ℕ, zero, suc, ◌+◌, ◌-◌, ◌==◌, Bool, true, false, cond, not, ◌&&◌}
use Rattle.std.proofs.Common.{◌⊎◌, inl, inr, ◌/◌, ◌||◌, ◌↔◌, if◌then◌else◌, is_some}
use Rattle.std.proofs.Common.{List, [], ◌∷◌, length, map, fold, find, slice_get, slice_index_or, Option, None}
use Rattle.std.proofs.Common.{Some, IfSome, IsTrue, option_and_then, option_map, refl, sym, ap, subst, ◌∙◌, arith}
use Rattle.std.specs.List.{range_with_len}
use Rattle.std.specs.Option.{option_map, option_or}
use Rattle.std.proofs.Math.Nat.{mod-lt}
use Rattle.std.proofs.lemmas.Bool.{false≢true}
use Rattle.std.proofs.lemmas.Bool.Decides.{nat_tests}
use Rattle.std.proofs.lemmas.List.Folds.{find-append}
use Rattle.tk_base.specs.declared.limits.TheConstants.{SLOT_COUNT}
use Rattle.tk_base.specs.declared.process.Choice.{Choice}
use Rattle.tk_base.specs.declared.process.Choice.TheVariants.{Run, Device, Pass}
use Rattle.tk_base.specs.declared.process.Dev.{Dev}
use Rattle.tk_base.specs.declared.process.Dev.TheVariants as dev
use Rattle.turn_scheduler.specs.RoundRobin.{choice, device_order}
use Rattle.turn_scheduler.specs.Parts.{place_is_ready as is_ready_at}
use Rattle.turn_scheduler.specs.Parts.{goes_on as slice_lasts}
use Rattle.turn_scheduler.specs.RoundRobin.{next_slot, device_place, ready_device, slots_after}
use Rattle.driver_model.specs.Alarm.{alarm_in, ticks_left, ticks_left_in, ticks_left_of, nearer, next_left}
use Rattle.driver_model.specs.Parts.{nearer_with}
use Rattle.driver_model.specs.Laws.{IsDueWhereNoneAreLeft}
use Rattle.script_text.specs.Settings.{ScriptEvent as Arrival}
use Rattle.board_devices.specs.Arriving.{first_arrival_time as arrival_time}
use Rattle.process_model.specs.Own.{Own}
use Rattle.driver_model.specs.Commands.{Writes, Reads, Randoms, Stores}
use Rattle.kernel_model.specs.Record.{Record}
use Rattle.kernel_model.specs.Turn.{may_turn}
use Rattle.kernel_model.specs.World.{World, after, is_ready, may_serve, now_in}
use Rattle.kernel_model.specs.Parts.{line_in}
use Rattle.kernel_model.specs.Parts.{is_waited_for}
use Rattle.kernel_model.specs.Named.{can_run}
use Rattle.kernel_model.specs.World.{only_in, owns_in, sending_time}
use Rattle.kernel_model.specs.Named.{slots_in}
use Rattle.kernel_model.specs.Parts.{work_of}
use Rattle.kernel_model.specs.Run.{is_left, is_left_for, next, next_time, ready_devices, ready_slots, round}
use Rattle.kernel_model.specs.Parts.{work_for}
use Rattle.kernel_model.proofs.Runs.{alarm_time, going_is_ready}
use Rattle.partition_turns.specs.Windows.{window_end, window_slot}
use Rattle.kernel_model.specs.Choices.{are_ready}
use Rattle.kernel_model.specs.Replay.{chosen}
use Rattle.kernel_laws.specs.OneRun.{ChosenAreReady, HasNoAlarm, IsDoneWhereNothingIsLeft, NothingIsLeft, OneRun}
use Rattle.kernel_model.proofs.Places.{of_world, none_there}
use Rattle.kernel_laws.proofs.Turns.{step_same}
use Rattle.kernel_model.proofs.Runs.{next_ready, passed_over}

pub one_run : OneRun
unfolding round chosen
one_run zero w = refl
one_run (suc n) w =
    elim (cases_option (next w)) [
      | inl none ↦ rw none
      | inr some ↦ rw (some.1, one_run n (after w some.0))
    ]

-- a step counts one at most
pub steps_at_most : (w : World) (c : Choice) → (after w c).clock.steps ≤ w.clock.steps + 1
steps_at_most w c =
    of_world (λ v. v.clock.steps ≤ w.clock.steps + 1) w (omega arith) (λ slot t. omega arith) (λ deed. omega arith)
    (λ ticks. omega arith) c

both_true : (a b : Bool) → IsTrue a → b ≡ true → (a && b) ≡ true
both_true true b h e = e
both_true false b h e = absurd (false≢true h)

pub chosen_are_ready : IsDueWhereNoneAreLeft → ChosenAreReady
unfolding chosen
chosen_are_ready law zero w within = refl
chosen_are_ready law (suc n) w within =
    elim (cases_option (next w)) [
      | inl none ↦ rw none
      | inr some ↦
          rw some.1 (both_true (is_ready w some.0) (are_ready (after w some.0) (chosen n (after w some.0)))
          (next_ready w some.0 law some.1 (omega (arith, within)))
          (chosen_are_ready law n (after w some.0) (omega (arith, within, steps_at_most w some.0))))
    ]

-- what the round robin reads of the records
pub told_ready : (records : List Record) (s : ℕ)
    → slice_index_or (map may_turn records) s false ≡ can_run (slice_get records s)
told_ready [] s = refl
told_ready (r ∷ rs) zero = refl
told_ready (r ∷ rs) (suc s) = told_ready rs s

-- where none is found, none passes; and the other way
none_found : {X : Type 0} (p : X → Bool) (xs : List X) → ((x : X) → p x ≡ false) → find p xs ≡ None
none_found p [] none = refl
none_found p (x ∷ xs) none = ap (λ (b : Bool). cond b (Some x) (find p xs)) (none x) ∙ none_found p xs none

pub none_in_range : (p : ℕ → Bool) (from count slot : ℕ) → find p (range_with_len from count) ≡ None → from ≤ slot
    → slot < from + count → p slot ≡ false
none_in_range p from zero slot e low high = absurd (omega (arith, low, high))
none_in_range p from (suc count) slot e low high =
    let none = passed_over (p from) from (find p (range_with_len (from + 1) count)) e in
    elim (cases_Bool (slot == from)) [
      | inl same ↦ ap p (eqb-true slot from same) ∙ none.0
      | inr apart ↦ none_in_range p (from + 1) count slot none.1 (grind (arith, nat_tests)) (omega (arith, high))
    ]

none_before : {X : Type 0} (a b : Option X) → option_or a b ≡ None → (a ≡ None) × (b ≡ None)
none_before None b e = (refl, e)
none_before (Some x) b e = cc

mapped_none : {X Y : Type 0} (f : X → Y) (o : Option X) → option_map f o ≡ None → o ≡ None
mapped_none f None e = refl
mapped_none f (Some x) e = cc

none_in_order : (p : ℕ → Bool) (present : Option ℕ) (slot : ℕ) → find p (slots_after present) ≡ None → slot < SLOT_COUNT
    → p slot ≡ false
none_in_order p None slot e h = none_in_range p 0 SLOT_COUNT slot e (omega arith) (omega (arith, h))
none_in_order p (Some at) slot e h =
    let parts = none_before (find p (range_with_len (at + 1) (SLOT_COUNT - (at + 1))))
    (find p (range_with_len 0 (at + 1)))
    (sym (find-append p (range_with_len (at + 1) (SLOT_COUNT - (at + 1))) (range_with_len 0 (at + 1))) ∙ e) in
    elim (cases_lt slot (at + 1)) [
      | inl high ↦ none_in_range p 0 (at + 1) slot parts.1 (omega arith) (omega (arith, high))
      | inr low ↦
          none_in_range p (at + 1) (SLOT_COUNT - (at + 1)) slot parts.0 low (omega (arith, h, low))
    ]

none_to : (p : ℕ → Bool) (from count : ℕ) → ((slot : ℕ) → from ≤ slot → slot < from + count → p slot ≡ false)
    → find p (range_with_len from count) ≡ None
none_to p from zero none = refl
none_to p from (suc count) none =
    rw (none from (omega arith) (omega arith))
    (none_to p (from + 1) count (λ slot low high. none slot (omega (arith, low)) (omega (arith, high))))

-- no choice is left where no device step is ready, no slot is, and none becomes so
none_chosen : (w : World) → ready_device (ready_devices w) ≡ None
    → next_slot (ready_slots w) w.present.slot w.present.used w.pace.slice ≡ None → next_time w ≡ None → next w ≡ None
unfolding next choice
none_chosen w device turn time =
    rw (device, turn, time)

-- no slot has the next turn exactly where none is ready
pub no_turn : (ready : List Bool) (present : Option ℕ) (used slice slot : ℕ) → next_slot ready present used slice ≡ None
    → slot < SLOT_COUNT → is_ready_at ready slot ≡ false
unfolding next_slot
no_turn ready None used slice slot e h = none_in_order (is_ready_at ready) None slot e h
no_turn ready (Some at) used slice slot e h =
    elim (cases_Bool (slice_lasts ready (Some at) used slice)) [
      | inl is ↦ let found = rw is at e in absurd (cc)
      | inr is ↦ none_in_order (is_ready_at ready) (Some at) slot (rw is at e) h
    ]

none_has_turn : (ready : List Bool) (present : Option ℕ) (used slice : ℕ)
    → ((slot : ℕ) → is_ready_at ready slot ≡ false) → next_slot ready present used slice ≡ None
unfolding next_slot
none_has_turn ready None used slice none = none_found (is_ready_at ready) (slots_after None) none
none_has_turn ready (Some at) used slice none =
    rw (none at) (none_found (is_ready_at ready) (slots_after (Some at)) none)

-- no alarm is ahead exactly where none is armed
nearer_none : (a b : Option ℕ) → nearer a b ≡ None → (a ≡ None) × (b ≡ None)
nearer_none None b e = (refl, e)
nearer_none (Some m) None e = cc
nearer_none (Some m) (Some n) e = cc

folded_none : (now : ℕ) (owns : List Own) (from count : ℕ) (least : Option ℕ)
    → fold (nearer_with now owns) least (range_with_len from count) ≡ None
    → (least ≡ None) × ((slot : ℕ) → from ≤ slot → slot < from + count → ticks_left_in now owns slot ≡ None)
folded_none now owns from zero least e = (e, λ slot low high. absurd (omega (arith, low, high)))
folded_none now owns from (suc count) least e =
    let later = folded_none now owns (from + 1) count (nearer_with now owns least from) e in
    let here = nearer_none least (ticks_left_in now owns from) later.0 in (
      here.0,
      λ slot low high. elim (cases_Bool (slot == from)) [
        | inl same ↦ ap (ticks_left_in now owns) (eqb-true slot from same) ∙ here.1
        | inr apart ↦ later.1 slot (grind (arith, nat_tests)) (omega (arith, high))
      ],
    )

none_folded : (now : ℕ) (owns : List Own) (slots : List ℕ) → ((slot : ℕ) → ticks_left_in now owns slot ≡ None)
    → fold (nearer_with now owns) None slots ≡ None
none_folded now owns [] none = refl
none_folded now owns (slot ∷ slots) none =
    rw (none slot) (none_folded now owns slots none)

unarmed : (now : ℕ) (own : Own) → ticks_left_of now own ≡ None → own.lives ≡ true → alarm_in own ≡ None
unarmed now own e lives =
    mapped_none (ticks_left now) (alarm_in own) (rw lives at e)

none_left : (now : ℕ) (own : Own) → (own.lives ≡ true → alarm_in own ≡ None) → ticks_left_of now own ≡ None
none_left now own none =
    cond_both own.lives _ None (λ o. o ≡ None) (λ lives. ap (option_map (ticks_left now)) (none lives)) (λ ended. refl)

pub left_at : (w : World) (slot : ℕ)
    → ticks_left_in (now_in w) (owns_in w) slot
    ≡ option_and_then (λ (r : Record). ticks_left_of (now_in w) r.own) (slice_get w.records slot)
left_at w slot =
    ap (option_and_then (ticks_left_of (now_in w))) (slice_get-map (λ (r : Record). r.own) w.records slot)
    ∙ by_record (slice_get w.records slot)
  where
    by_record : (o : Option Record)
        → option_and_then (ticks_left_of (now_in w)) (option_map (λ (r : Record). r.own) o)
        ≡ option_and_then (λ (r : Record). ticks_left_of (now_in w) r.own) o
    by_record None = refl
    by_record (Some r) = refl

no_alarm : (w : World) (slot : ℕ) → ticks_left_in (now_in w) (owns_in w) slot ≡ None
    → IfSome (slice_get w.records slot) HasNoAlarm
no_alarm w slot e =
    elim (cases_option (slice_get w.records slot)) [
      | inl none ↦ rw none tt
      | inr some ↦
          let left = sym (left_at w slot) ∙ e in
          rw some.1 (unarmed (now_in w) some.0.own (rw some.1 at left))
    ]

no_alarm_left : (w : World) (slot : ℕ) → IfSome (slice_get w.records slot) HasNoAlarm
    → ticks_left_in (now_in w) (owns_in w) slot ≡ None
no_alarm_left w slot none =
    left_at w slot ∙ elim (cases_option (slice_get w.records slot)) [
      | inl e ↦ rw e refl
      | inr some ↦ rw some.1 (none_left (now_in w) some.0.own (rw some.1 at none))
    ]

no_arrivals : (arrivals : List Arrival) → arrival_time arrivals ≡ None → arrivals ≡ []
no_arrivals [] e = refl
no_arrivals (a ∷ rest) e = cc

no_writes : (writes : List ℕ) (free : ℕ) → cond (is_waited_for writes) (Some free) None ≡ None → writes ≡ []
no_writes [] free e = refl
no_writes (slot ∷ rest) free e =
    let some : (length (slot ∷ rest) == 0) ≡ false = grind (arith, nat_tests) in
    let waits = rw some at e in
    absurd (cc)

-- nobody waits where no test finds one, and nobody reads where none does or nothing came in
none_waiting : (slots : List ℕ) → is_waited_for slots ≡ false → slots ≡ []
none_waiting [] e = refl
none_waiting (slot ∷ rest) e =
    let some : (length (slot ∷ rest) == 0) ≡ false = grind (arith, nat_tests) in
    absurd (false≢true (sym e ∙ ap not some))

no_reads : (slots ring : List ℕ) → (is_waited_for slots && not (length ring == 0)) ≡ false
    → (slots ≡ []) ⊎ (ring ≡ [])
no_reads slots ring e =
    elim (cases_Bool (is_waited_for slots)) [
      | inl is ↦ inr (none_waiting ring (rw is at e))
      | inr is ↦ inl (none_waiting slots is)
    ]

within_or_beyond : (w : World) (slot : ℕ) (P : Option Record → Type 0) → length w.records ≤ SLOT_COUNT → P None
    → (slot < SLOT_COUNT → P (slice_get w.records slot)) → P (slice_get w.records slot)
within_or_beyond w slot P few none some =
    elim (cases_lt slot SLOT_COUNT) [
      | inl below ↦ some below
      | inr above ↦ subst P (sym (slice_get_past w.records slot (omega (arith, few, above)))) none
    ]

-- no device step is ready exactly where none is the first that is
module _ (ready : Dev → Bool) where
  pub none_acts : ready_device (map ready device_order) ≡ None → (device : Dev) → ready device ≡ false
  unfolding ready_device
  none_acts e device =
      let event = passed_over (ready dev.Event) dev.Event _ e in
      let alarm = passed_over (ready dev.Alarm) dev.Alarm _ event.1 in
      let uart = passed_over (ready dev.Uart) dev.Uart _ alarm.1 in
      let receive = passed_over (ready dev.Receive) dev.Receive _ uart.1 in
      let random = passed_over (ready dev.Random) dev.Random _ receive.1 in
      let store = passed_over (ready dev.Store) dev.Store _ random.1 in
      elim device as (λ d. ready d ≡ false) [
        | dev.Event ↦ event.0
        | dev.Alarm ↦ alarm.0
        | dev.Uart ↦ uart.0
        | dev.Receive ↦ receive.0
        | dev.Random ↦ random.0
        | dev.Store ↦ store.0
      ]

  ready_in : (device : Dev) → is_ready_at (map ready device_order) (device_place device) ≡ ready device
  ready_in dev.Event = refl
  ready_in device = refl

  acts_none : ((device : Dev) → ready device ≡ false) → ready_device (map ready device_order) ≡ None
  unfolding ready_device
  acts_none none =
      none_found (λ d. is_ready_at (map ready device_order) (device_place d)) device_order
      (λ d. ready_in d ∙ none d)

-- a world with windows of so many ticks
abbrev at_window : ℕ → World → World
at_window n w = record w { pace = record w.pace { window = n } }

-- a board without time partitions has nothing left where it is done
plainly_left : (u : World) → length u.records ≤ SLOT_COUNT → next (at_window 0 u) ≡ None → NothingIsLeft (at_window 0 u)
unfolding next choice next_left
plainly_left u few e =
    let w = at_window 0 u in
    let device = none_before (option_map Device (ready_device (ready_devices w))) _ e in
    let turn = none_before (option_map Run (next_slot (ready_slots w) w.present.slot w.present.used w.pace.slice)) _
    device.1 in
    let times = nearer_none (arrival_time w.devices.arrivals) _
    (mapped_none (λ (at : ℕ). Pass (at - w.clock.time)) (next_time w) turn.1) in
    let later = nearer_none (alarm_time None w.clock.time (now_in w) (owns_in w)) (sending_time None
    w.devices) times.1 in
    let acts = none_acts (work_of w).ready (mapped_none Device _ device.0) in
    let alarms = (folded_none (now_in w) (owns_in w) 0 SLOT_COUNT None
    (mapped_none (λ (left : ℕ). w.clock.time + left) (next_left (now_in w) (owns_in w)) later.0)).1 in
    record {
      slots = λ slot. within_or_beyond w slot (λ o. can_run o ≡ false) few refl (λ h.
          sym (told_ready w.records slot)
          ∙ no_turn (ready_slots w) w.present.slot w.present.used w.pace.slice slot (mapped_none Run _ turn.0) h);
      devices = λ slot h. none_acts (work_of w).ready (mapped_none Device _ device.0);
      arrivals = no_arrivals w.devices.arrivals times.0;
      alarms = λ slot. within_or_beyond w slot (λ o. IfSome o HasNoAlarm) few tt
          (λ h. no_alarm w slot (alarms slot (omega arith) (omega (arith, h))));
      writes = λ slot h. no_writes (slots_in Writes w.devices.waiting) (line_in 0 w.devices).free later.1;
      reads = λ slot h. no_reads (slots_in Reads w.devices.waiting) (line_in 0 w.devices).ring (acts dev.Receive);
      randoms = λ slot h. none_waiting (slots_in Randoms w.devices.waiting) (acts dev.Random);
      stores = λ slot h. none_waiting (slots_in Stores w.devices.waiting) (acts dev.Store);
    }

plainly_done : (u : World) → NothingIsLeft (at_window 0 u) → next (at_window 0 u) ≡ None
unfolding next choice next_left
plainly_done u none =
    let w = at_window 0 u in
    let device : ready_device (ready_devices w) ≡ None = acts_none (work_of w).ready (none.devices 0 (omega arith)) in
    let turn = none_has_turn (ready_slots w) w.present.slot w.present.used w.pace.slice
    (λ slot. told_ready w.records slot ∙ none.slots slot) in
    let alarm : alarm_time None w.clock.time (now_in w) (owns_in w) ≡ None =
    ap (option_map (λ (left : ℕ). w.clock.time + left))
    (none_folded (now_in w) (owns_in w) (range_with_len 0 SLOT_COUNT)
    (λ slot. no_alarm_left w slot (none.alarms slot))) in
    let time : next_time w ≡ None = rw (none.arrivals, alarm, none.writes 0 (omega arith)) in
    none_chosen w device turn time

-- with time partitions nothing is left for a slot where none of what there may be for it is
none_for : (slot_ready : Bool) (device : Option Dev) (next : Option ℕ)
    → (slot_ready || (is_some device || is_some next)) ≡ false
    → (slot_ready ≡ false) × ((device ≡ None) × (next ≡ None))
none_for true device next e = absurd (false≢true (sym e))
none_for false (Some device) next e = absurd (false≢true (sym e))
none_for false None (Some at) e = absurd (false≢true (sym e))
none_for false None None e = (refl, (refl, refl))

nearer_some : (a : Option ℕ) (n : ℕ) → nearer a (Some n) ≡ None → ⊥
nearer_some None n e = cc
nearer_some (Some m) n e = cc

windows_left : (u : World) (n : ℕ) → length u.records ≤ SLOT_COUNT → next (at_window (suc n) u) ≡ None
    → NothingIsLeft (at_window (suc n) u)
unfolding next choice is_left
windows_left u n few e =
    let device = none_before (option_map Device (ready_device (ready_devices w))) _ e in
    let turn = none_before (option_map Run (next_slot (ready_slots w) w.present.slot w.present.used w.pace.slice)) _
    device.1 in
    of_none (not_left (is_left w) refl (mapped_none (λ (at : ℕ). Pass (at - w.clock.time)) (next_time w) turn.1))
  where
    w : World
    w = at_window (suc n) u

    not_left : (b : Bool) → is_left w ≡ b
        → (if b then nearer (work_of w).next (Some (window_end w.clock.time (suc n))) else None) ≡ None
        → find (is_left_for w) (range_with_len 0 SLOT_COUNT) ≡ None
    not_left true is none = absurd (nearer_some (work_of w).next (window_end w.clock.time (suc n)) none)
    not_left false is none = none_there (find (is_left_for w) (range_with_len 0 SLOT_COUNT)) is

    of_none : find (is_left_for w) (range_with_len 0 SLOT_COUNT) ≡ None → NothingIsLeft w
    of_none none =
        let for_slot = λ (slot : ℕ) (h : slot < SLOT_COUNT).
        none_for (can_run (slice_get w.records slot)) (ready_device (map (work_for w slot).ready device_order))
        (work_for w slot).next
        (none_in_range (is_left_for w) 0 SLOT_COUNT slot none (omega arith) (omega (arith, h))) in
        let later = λ (slot : ℕ) (h : slot < SLOT_COUNT).
        nearer_none (arrival_time w.devices.arrivals) _ (for_slot slot h).1.1 in
        let times = λ (slot : ℕ) (h : slot < SLOT_COUNT).
        nearer_none (alarm_time (Some slot) w.clock.time (now_in w) (owns_in w)) (sending_time (Some slot) w.devices)
        (later slot h).1 in
        record {
          slots = λ slot. within_or_beyond w slot (λ o. can_run o ≡ false) few refl (λ h. (for_slot slot h).0);
          devices = λ slot h. none_acts (work_for w slot).ready (for_slot slot h).1.0;
          arrivals = no_arrivals w.devices.arrivals (later 0 (omega arith)).0;
          alarms = λ slot. within_or_beyond w slot (λ o. IfSome o HasNoAlarm) few tt
              (λ h. no_alarm w slot (mapped_none (λ (left : ℕ). w.clock.time + left)
              (ticks_left_in (now_in w) (owns_in w) slot) (times slot h).0));
          writes = λ slot h. no_writes (may_serve (Some slot) (slots_in Writes w.devices.waiting))
              (line_in slot w.devices).free (times slot h).1;
          reads = λ slot h. no_reads (may_serve (Some slot) (slots_in Reads w.devices.waiting))
              (line_in slot w.devices).ring (none_acts (work_for w slot).ready (for_slot slot h).1.0 dev.Receive);
          randoms = λ slot h. none_waiting (may_serve (Some slot) (slots_in Randoms w.devices.waiting))
              (none_acts (work_for w slot).ready (for_slot slot h).1.0 dev.Random);
          stores = λ slot h. none_waiting (may_serve (Some slot) (slots_in Stores w.devices.waiting))
              (none_acts (work_for w slot).ready (for_slot slot h).1.0 dev.Store);
        }

windows_done : (u : World) (n : ℕ) → NothingIsLeft (at_window (suc n) u) → next (at_window (suc n) u) ≡ None
unfolding next choice is_left
windows_done u n none = none_chosen w device turn time
  where
    w : World
    w = at_window (suc n) u

    only : ℕ
    only = window_slot w.clock.time (suc n)

    device : ready_device (ready_devices w) ≡ None
    device = acts_none (work_of w).ready (none.devices only (mod-lt (w.clock.time / suc n) (omega arith)))

    turn : next_slot (ready_slots w) w.present.slot w.present.used w.pace.slice ≡ None
    turn = none_has_turn (ready_slots w) w.present.slot w.present.used w.pace.slice (λ slot.
        elim (cases_Bool (is_ready_at (ready_slots w) slot)) [
          | inl e ↦
              absurd (false≢true (sym (told_ready w.records slot ∙ none.slots slot)
              ∙ going_is_ready (only_in w) (map may_turn w.records) slot e))
          | inr e ↦ e
        ])

    none_next : (slot : ℕ) → slot < SLOT_COUNT → (work_for w slot).next ≡ None
    none_next slot h = rw (none.arrivals, no_alarm_left w slot (none.alarms slot), none.writes slot h)

    none_left : (slot : ℕ) → slot < SLOT_COUNT → is_left_for w slot ≡ false
    none_left slot h =
        rw (none.slots slot, acts_none (work_for w slot).ready (none.devices slot h), none_next slot h)

    time : next_time w ≡ None
    time = ap (λ (o : Option ℕ). if is_some o then nearer (work_of w).next (Some (window_end w.clock.time (suc n)))
        else None) (none_to (is_left_for w) 0 SLOT_COUNT (λ slot low high. none_left slot (omega (arith, high))))

pub is_done_here : (w : World) (n : ℕ) → length w.records ≤ SLOT_COUNT
    → (next (at_window n w) ≡ None) ↔ NothingIsLeft (at_window n w)
is_done_here w zero few = (plainly_left w few, plainly_done w)
is_done_here w (suc n) few = (windows_left w n few, windows_done w n)

pub is_done_where_nothing_is_left : IsDoneWhereNothingIsLeft
is_done_where_nothing_is_left w [] few = is_done_here w w.pace.window few
is_done_where_nothing_is_left w (choice ∷ choices) few =
    is_done_where_nothing_is_left (after w choice) choices (omega (arith, few, (step_same w choice).records))
