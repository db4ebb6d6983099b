-- That an alarm fires when it is due: devices come before turns and passes, and the clock's answer is to the one that
-- is due. So a choice that takes time is made where no alarm is due; and a pass leads no further than the nearest time,
-- which is no later than that of each slot, by induction on the slots.
use Rattle.std.proofs.lemmas.Option.{slice_get-map}
use Rattle.kernel_laws.proofs.Cases.{cases_option}
use Rattle.std.proofs.lemmas.Bool.{cases_Bool}
use Rattle.std.proofs.Common.{inl, inr}
use Rattle.std.proofs.lemmas.Option.{cond_some}
use Rattle.std.proofs.Common.{◌≡◌, ◌≤◌, ◌<◌, ℕ, zero, suc, ◌+◌, ◌-◌, ◌*◌, ◌/◌, ◌==◌, Bool, true, false, cond, List, []}
use Rattle.std.proofs.Common.{◌∷◌, Option, None, Some, is_some, slice_get, unwrap_or, refl, ap, sym, subst, ◌∙◌}
use Rattle.std.proofs.Common.{inl, inr, arith, eqb-true, fold, nat_le, ◌%◌, ◌^◌}
use Rattle.std.specs.Prelude.{All, IfSome, IsSomeAnd}
use Rattle.std.proofs.lemmas.Bool.Decides.{nat_tests}
use Rattle.std.specs.List.{range_with_len}
use Rattle.std.specs.Option.{option_map, option_or}
use Rattle.std.proofs.lemmas.Bool.{cases_lt, false≢true, leb-true}
use Rattle.std.proofs.lemmas.List.Elements.{All-nil, All-cons}
use Rattle.std.proofs.lemmas.Option.{slice_get_within}
use Rattle.tk_base.specs.declared.limits.TheConstants.{SLOT_COUNT}
use Rattle.tk_base.specs.declared.process.Choice.{Choice}
use Rattle.tk_base.specs.declared.process.Choice.TheVariants.{Run, Device, Pass}
use Rattle.tk_base.specs.declared.process.Dev.{Dev}
use Rattle.tk_base.specs.declared.process.Dev.TheVariants as dev
use Rattle.turn_scheduler.specs.RoundRobin.{choice, next_slot, ready_device}
use Rattle.grant_values.specs.declared.alarm.Armed.{Armed}
use Rattle.process_model.specs.Own.{Own}
use Rattle.board_devices.specs.Arriving.{first_arrival_time}
use Rattle.driver_model.specs.Alarm.{alarm_in, due_alarm, due_for, due_slot, has_due, if_due, left_for, nearer}
use Rattle.driver_model.specs.Alarm.{next_left, ticks_left_in}
use Rattle.driver_model.specs.Alarm.{ticks_left_of}
use Rattle.driver_model.specs.Parts.{nearer_with}
use Rattle.driver_model.specs.Console as console
use Rattle.kernel_model.specs.Record.{Record, flash_of}
use Rattle.kernel_model.specs.Turn.{Alarmed, NoWord, Taken, Word, WriteDone}
use Rattle.kernel_model.specs.World.{Answer, DeviceAnswer, Stepped, World, answer_label, can_act}
use Rattle.kernel_model.specs.World.{device_step_of, done, is_let, now_in, only_in, operating, owns_in}
use Rattle.kernel_model.specs.World.{receive_step, random_step, storing, telling_edge, transmitting}
use Rattle.kernel_model.specs.World.{lane_in, sending_time, work_in}
use Rattle.kernel_model.specs.Parts.{alarmed}
use Rattle.kernel_model.specs.Laws.{one_answered}
use Rattle.kernel_model.specs.Run.{is_left, passes_to, next, next_time, ready_devices, ready_slots}
use Rattle.kernel_model.proofs.Places.{none_there}
use Rattle.kernel_model.proofs.Told.{edge_answer, of_device, told_labels, with_rest}
use Rattle.kernel_laws.specs.Alarms.{AlarmsComeFirst, FiresWhenDue, IsDue, NextIsTheLeast, NoneFiresEarly}
use Rattle.kernel_laws.specs.Alarms.{PassesStopAtAlarms, takes_time}
use Rattle.kernel_laws.proofs.OneRun.{left_at, none_in_range}
use Rattle.kernel_model.proofs.Runs.{found_passes}
use Rattle.kernel_model.proofs.Labels.{labels_by_device}

-- a choice that takes time is made where no device step is ready
no_device : (d : Option Dev) (rest : Option Choice) (c : Choice) → option_or (option_map Device d) rest ≡ Some c
    → takes_time c ≡ true → d ≡ None
no_device None rest c e takes = refl
no_device (Some device) rest c e takes = let same : Device device ≡ c = cc in
    absurd (false≢true (ap takes_time same ∙ takes))

pub none_ready : (w : World) (c : Choice) → next w ≡ Some c → takes_time c ≡ true → ready_device (ready_devices w) ≡
    None
unfolding next choice
none_ready w c e takes =
    no_device (ready_device (ready_devices w))
    (option_or (option_map Run (next_slot (ready_slots w) w.present.slot w.present.used w.pace.slice))
    (option_map (λ (at : ℕ). Pass (at - w.clock.time)) (next_time w))) c e takes

second_not : (a b : Bool) (rest : Option Dev) → cond a (Some dev.Event) (cond b (Some dev.Alarm) rest) ≡ None
    → b ≡ false
second_not false false rest e = refl
second_not a b rest e = absurd (cc)

no_alarm_ready : (w : World) → ready_device (ready_devices w) ≡ None → can_act w dev.Alarm ≡ false
unfolding ready_device
no_alarm_ready w e = second_not (can_act w dev.Event) (can_act w dev.Alarm) _ e

-- where the alarm's step is not ready, no alarm is due of a process that may be served
none_due : (now : ℕ) (owns : List Own) (only : Option ℕ) (slot : ℕ) → is_some (due_for only now owns) ≡ false
    → is_let only slot ≡ true → slot + 1 ≤ SLOT_COUNT → has_due now (slice_get owns slot) ≡ false
unfolding due_slot
none_due now owns None slot e may within =
    none_in_range (λ (s : ℕ). has_due now (slice_get owns s)) 0 SLOT_COUNT slot (none_there _ e) (omega arith)
    (omega (arith, within))
none_due now owns (Some only) slot e may within =
    ap (λ (s : ℕ). has_due now (slice_get owns s)) (eqb-true slot only may)
    ∙ elim (cases_Bool (has_due now (slice_get owns only))) [
      | inl due ↦ absurd (false≢true (sym e ∙ rw due))
      | inr none ↦ none
    ]

due_there : (w : World) (slot : ℕ) (r : Record) → slice_get w.records slot ≡ Some r
    → has_due (now_in w) (slice_get (owns_in w) slot) ≡ is_some (due_alarm (now_in w) r.own)
due_there w slot r there =
    rw (slice_get-map (λ (r : Record). r.own) w.records slot, there)

pub alarms_come_first : AlarmsComeFirst
alarms_come_first w c slot r few e takes there may =
    let within = slice_get_within w.records slot r there in
    none_there (due_alarm (now_in w) r.own)
    (sym (due_there w slot r there)
    ∙ none_due (now_in w) (owns_in w) (only_in w) slot (no_alarm_ready w (none_ready w c e takes)) may
    (omega (arith, few, within)))

-- the slot whose alarm fires has one that is due
is_due : (now : ℕ) (owns : List Own) (only : Option ℕ) (slot : ℕ) → due_for only now owns ≡ Some slot
    → has_due now (slice_get owns slot) ≡ true
unfolding due_slot
is_due now owns None slot e =
    found_passes (λ (s : ℕ). has_due now (slice_get owns s)) (range_with_len 0 SLOT_COUNT) slot e
is_due now owns (Some only) slot e =
    let both = cond_some (has_due now (slice_get owns only)) only slot e in rw (← both.1) both.0

-- that is, written out
due_written : (now : ℕ) (r : Record) → is_some (due_alarm now r.own) ≡ true → IsDue now r
due_written now r e =
    elim (cases_Bool r.own.lives) [
      | inr dead ↦ absurd (false≢true (rw dead at e))
      | inl life ↦ elim (cases_option (alarm_in r.own)) [
        | inl none ↦ let due = rw (life, none) at e in absurd (false≢true due)
        | inr alarm ↦
            let due = rw (life, alarm.1) at e in
            record { lives = life; alarm = alarm.0; armed = alarm.1; passed = passed alarm.0 due }
      ]
    ]
  where
    passed : (alarm : Armed) → is_some (if_due now (Some alarm)) ≡ true
        → alarm.delta ≤ (now + (2 ^ 32 - alarm.reference)) % 2 ^ 32
    passed alarm due =
        elim (cases_Bool (nat_le alarm.delta ((now + (2 ^ 32 - alarm.reference)) % 2 ^ 32))) [
          | inl is ↦ leb-true _ _ is
          | inr is ↦ absurd (false≢true (rw is at due))
        ]

module _ (w : World) where
  abbrev Fires : Stepped → Type 0
  Fires s = All (FiresWhenDue w) s.labels

  none : All (FiresWhenDue w) []
  none = All-nil (FiresWhenDue w)

  -- an answer that is no alarm's
  other : (slot : ℕ) (r : Record) (a : DeviceAnswer)
      → ((now : ℕ) → a.answer.event ≡ Alarmed now → ⊥) → Fires (one_answered w slot r a)
  other slot r a apart =
      All-cons (FiresWhenDue w) (answer_label slot a.answer) [] (λ now is. absurd (apart now is)) none

  sent_apart : (b : Bool) (now : ℕ) → cond b WriteDone Taken ≡ Alarmed now → ⊥
  sent_apart true now e = cc
  sent_apart false now e = cc

  drawn_apart : (o : Option ℕ) (now : ℕ) → unwrap_or (option_map Word o) NoWord ≡ Alarmed now → ⊥
  drawn_apart None now e = cc
  drawn_apart (Some word) now e = cc

  of_devices : (device : Dev) → Fires (done w (device_step_of w device))
  of_devices device = of_device w Fires (record {
    none = none;
    arrives = λ bytes rest. none;
    edges = λ button pressed rest.
        told_labels (FiresWhenDue w) (telling_edge button pressed w.records w.devices).told 0 w.records
        (λ slot at r a here there is now e.
        let same = edge_answer button pressed (slice_get w.records at) a is in
        let apart = sym (ap (λ (x : Answer). x.event) same) ∙ e in absurd (cc));
    nobody = λ rest. none;
    acts = λ verb rest slot r is. other slot r (operating verb (with_rest w.devices rest) slot r) (λ now e. cc);
    alarms = λ slot r first is.
        All-cons (FiresWhenDue w) (answer_label slot (alarmed w.settings w.clock.time w.devices).answer) []
        (λ now e. let same : now ≡ now_in w = cc in (
          same,
          rw is (due_written now r (ap (λ (n : ℕ). is_some (due_alarm n r.own)) same ∙ sym (due_there w slot r is)
              ∙ is_due (now_in w) (owns_in w) (only_in w) slot first)),
        )) none;
    sends = λ slot r first is. other slot r (transmitting (lane_in w) w.clock.time w.devices slot r)
        (sent_apart (console.sent (flash_of r) r.own).completed);
    receives = λ slot r first is. other slot r (receive_step (lane_in w) w.devices slot r) (λ now e. cc);
    draws = λ slot r first is. other slot r (random_step (lane_in w) w.devices slot r) (drawn_apart _);
    stores = λ slot r first is. other slot r (storing (lane_in w) w.devices slot r) (λ now e. cc);
  }) device

pub none_fires_early : NoneFiresEarly
none_fires_early w =
    labels_by_device (λ s. FiresWhenDue w) w (λ slot r is may now e. absurd (cc)) (of_devices w)

-- Time that passes ends no later than when the next alarm becomes due: what is nearest is no later than each.
abbrev pub IsUpTo : ℕ → Option ℕ → Type 0
IsUpTo x o = IsSomeAnd o (λ k. k ≤ x)

pub nearer_left : (a b : Option ℕ) (x : ℕ) → IsUpTo x a → IsUpTo x (nearer a b)
nearer_left None b x h = absurd h
nearer_left (Some m) None x h = h
nearer_left (Some m) (Some n) x h = omega (arith, h)

pub nearer_right : (a b : Option ℕ) (x : ℕ) → IsUpTo x b → IsUpTo x (nearer a b)
nearer_right None b x h = h
nearer_right (Some m) None x h = absurd h
nearer_right (Some m) (Some n) x h = omega (arith, h)

fold_keeps : (now : ℕ) (owns : List Own) (slots : List ℕ) (least : Option ℕ) (x : ℕ) → IsUpTo x least
    → IsUpTo x (fold (nearer_with now owns) least slots)
fold_keeps now owns [] least x h = h
fold_keeps now owns (slot ∷ slots) least x h =
    fold_keeps now owns slots (nearer_with now owns least slot) x
    (nearer_left least (ticks_left_in now owns slot) x h)

fold_finds : (now : ℕ) (owns : List Own) (from count slot : ℕ) (least : Option ℕ) (x : ℕ) → from ≤ slot
    → slot < from + count → IsUpTo x (ticks_left_in now owns slot)
    → IsUpTo x (fold (nearer_with now owns) least (range_with_len from count))
fold_finds now owns from zero slot least x low high h = absurd (omega (arith, low, high))
fold_finds now owns from (suc count) slot least x low high h =
    elim (cases_Bool (slot == from)) [
      | inl same ↦
          let at : slot ≡ from = eqb-true slot from same in
          fold_keeps now owns (range_with_len (from + 1) count) (nearer_with now owns least from) x
          (nearer_right least (ticks_left_in now owns from) x (rw at at h))
      | inr apart ↦
          fold_finds now owns (from + 1) count slot (nearer_with now owns least from) x (grind (arith, nat_tests))
          (omega (arith, high)) h
    ]

left_up_to : (now : ℕ) (owns : List Own) (only : Option ℕ) (slot x : ℕ) → is_let only slot ≡ true
    → slot + 1 ≤ SLOT_COUNT → IsUpTo x (ticks_left_in now owns slot) → IsUpTo x (left_for only now owns)
unfolding next_left
left_up_to now owns None slot x may within h =
    fold_finds now owns 0 SLOT_COUNT slot None x (omega arith) (omega (arith, within)) h
left_up_to now owns (Some only) slot x may within h =
    subst (λ (n : ℕ). IsUpTo x (ticks_left_in now owns n)) (eqb-true slot only may) h

-- what is nearest is left of one of them
OfOne : ℕ → List Own → Option ℕ → Type 0
OfOne now owns least =
    IfSome least (λ ticks. (slot : ℕ) × ((slot < SLOT_COUNT) × (ticks_left_in now owns slot ≡ Some ticks)))

nearer_one : (now : ℕ) (owns : List Own) (a b : Option ℕ) → OfOne now owns a → OfOne now owns b
    → OfOne now owns (nearer a b)
unfolding OfOne
nearer_one now owns None b h k = k
nearer_one now owns (Some m) None h k = h
nearer_one now owns (Some m) (Some n) h k =
    elim (cases_lt m n) [
      | inl less ↦ (h.0, (h.1.0, h.1.1 ∙ ap Some (omega (arith, less))))
      | inr more ↦ (k.0, (k.1.0, k.1.1 ∙ ap Some (omega (arith, more))))
    ]

left_one : (now : ℕ) (owns : List Own) (slot : ℕ) → slot < SLOT_COUNT → OfOne now owns (ticks_left_in now owns slot)
unfolding OfOne
left_one now owns slot below =
    elim (cases_option (ticks_left_in now owns slot)) [
      | inl none ↦ rw none tt
      | inr some ↦ rw some.1 (slot, (below, some.1))
    ]

fold_one : (now : ℕ) (owns : List Own) (from count : ℕ) (least : Option ℕ) → from + count ≤ SLOT_COUNT
    → OfOne now owns least → OfOne now owns (fold (nearer_with now owns) least (range_with_len from count))
fold_one now owns from zero least within h = h
fold_one now owns from (suc count) least within h =
    fold_one now owns (from + 1) count (nearer_with now owns least from) (omega (arith, within))
    (nearer_one now owns least (ticks_left_in now owns from) h (left_one now owns from (omega (arith, within))))

pub next_is_the_least : NextIsTheLeast
unfolding next_left OfOne
next_is_the_least now owns = record {
  of_one = fold_one now owns 0 SLOT_COUNT None (omega arith) tt;
  none_less = λ slot below.
      elim (cases_option (ticks_left_in now owns slot)) [
        | inl none ↦ rw none tt
        | inr left ↦
            rw left.1 (fold_finds now owns 0 SLOT_COUNT slot None left.0 (omega arith) (omega (arith, below))
            (rw left.1 (omega arith)))
      ];
}

pub later_up_to : (time x : ℕ) (o : Option ℕ) → IsUpTo x o → IsUpTo (time + x) (option_map (λ left. time + left) o)
later_up_to time x None h = absurd h
later_up_to time x (Some left) h = omega (arith, h)

-- a pass leads to the next time
pub record PassesTo (time ticks : ℕ) (o : Option ℕ) : Type 0 where
  pub at : ℕ
  pub is : o ≡ Some at
  pub by : ticks ≡ at - time

pub chosen_pass : (time ticks : ℕ) (d : Option Dev) (q : Option ℕ) (o : Option ℕ)
    → option_or (option_map Device d) (option_or (option_map Run q) (option_map (λ (at : ℕ). Pass (at - time)) o))
    ≡ Some (Pass ticks) → PassesTo time ticks o
chosen_pass time ticks (Some device) q o e = absurd (cc)
chosen_pass time ticks None (Some slot) o e = absurd (cc)
chosen_pass time ticks None None None e = absurd (cc)
chosen_pass time ticks None None (Some at) e = record { at = at; is = refl; by = cc }

pub passes_up_to : (w : World) (n x at : ℕ) → passes_to w n ≡ Some at → IsUpTo x (work_in w (only_in w)).next → at ≤ x
passes_up_to w zero x at e h = subst (IsUpTo x) e h
passes_up_to w (suc n) x at e h = by_left (is_left w) e
  where
    window_end : ℕ
    window_end = (w.clock.time / suc n + 1) * suc n

    by_left : (b : Bool) → cond b (nearer (work_in w (only_in w)).next (Some window_end)) None ≡ Some at → at ≤ x
    by_left true f = subst (IsUpTo x) f (nearer_left (work_in w (only_in w)).next (Some window_end) x h)
    by_left false f = absurd (cc)

work_up_to : (w : World) (slot x : ℕ) (r : Record) → slot + 1 ≤ SLOT_COUNT → slice_get w.records slot ≡ Some r
    → is_let (only_in w) slot ≡ true → ticks_left_of (now_in w) r.own ≡ Some x
    → IsUpTo (w.clock.time + x) (work_in w (only_in w)).next
work_up_to w slot x r within there may left =
    let own = left_for (only_in w) (now_in w) (owns_in w) in
    let later = option_map (λ (left : ℕ). w.clock.time + left) own in
    let sends = sending_time (only_in w) w.devices in
    nearer_right (first_arrival_time w.devices.arrivals) (nearer later sends) (w.clock.time + x)
    (nearer_left later sends (w.clock.time + x)
    (later_up_to w.clock.time x own
    (left_up_to (now_in w) (owns_in w) (only_in w) slot x may within
    (rw (left_at w slot, there, left) (omega arith)))))

pub passes_stop_at_alarms : PassesStopAtAlarms
unfolding next choice
passes_stop_at_alarms w ticks slot r few e there may =
    elim (cases_option (ticks_left_of (now_in w) r.own)) [
      | inl none ↦ rw none tt
      | inr left ↦
          let within = slice_get_within w.records slot r there in
          let pass = chosen_pass w.clock.time ticks (ready_device (ready_devices w))
          (next_slot (ready_slots w) w.present.slot w.present.used w.pace.slice) (next_time w) e in
          let up = passes_up_to w w.pace.window (w.clock.time + left.0) pass.at pass.is
          (work_up_to w slot left.0 r (omega (arith, few, within)) there may left.1) in
          rw left.1 (omega (arith, up, pass.by))
    ]
