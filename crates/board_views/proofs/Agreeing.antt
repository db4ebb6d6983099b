-- Scripts that agree up to a time: an event that is still to come in changes neither what is chosen, where that ends in
-- time, nor what it comes to. Part by part of a step, to insert the event before it or after it is the same
-- (`stepped_besides`); since it is later than now, it is not what comes in. So many steps are the same by induction on
-- their number.
use mathlib.Core.Bool.{or-true}
use Rattle.std.proofs.Common.{inl, inr}
use Rattle.std.proofs.lemmas.Bool.{cases_Bool, cond_both, le-leb, leb-false, leb-true, lt-leb, ltb-true}
use Rattle.std.proofs.lemmas.Option.{cond_some, option_and_then_some}
use Rattle.board_views.specs.Searches.{choice_in}
use Rattle.board_views.proofs.Seeking.{chosen_is_next, few_where}
use Rattle.std.proofs.Common.{◌≡◌, ℕ, zero, suc, ◌-◌, ◌<◌, ◌≤◌, nat_lt, nat_le, min, Bool}
use Rattle.std.proofs.Common.{true}
use Rattle.std.proofs.Common.{cond, List, [], ◌∷◌, map, find, slice_get, Option, None, Some, is_some}
use Rattle.std.proofs.Common.{refl, sym, ap, ◌∙◌, arith}
use Rattle.std.specs.Prelude.{unwrap_or}
use Rattle.std.specs.List.{range_with_len}
use Rattle.std.specs.Option.{option_map, option_or}
use Rattle.std.proofs.lemmas.Bool.{and_parts}
use Rattle.tk_base.specs.declared.limits.TheConstants.{STEP_LIMIT}
use Rattle.tk_base.specs.declared.process.Choice.{Choice}
use Rattle.tk_base.specs.declared.process.Choice.TheVariants.{Run, Device, Pass}
use Rattle.tk_base.specs.declared.process.Dev.{Dev}
use Rattle.tk_base.specs.declared.process.Dev.TheVariants as dev
use Rattle.tk_base.specs.declared.process.Verb.{Verb}
use Rattle.script_text.specs.Settings.{EventKind, ScriptEvent as Arrival, ScriptSettings as Script}
use Rattle.script_text.specs.Settings as script
use Rattle.process_record.specs.Lines.{slot_named}
use Rattle.process_record.specs.Operator.{ends_by}
use Rattle.turn_scheduler.specs.RoundRobin.{choice, next_slot, ready_device}
use Rattle.board_devices.specs.Arriving.{first_arrival_time, inserted, is_time}
use Rattle.driver_model.specs.Alarm.{nearer}
use Rattle.driver_model.specs.Commands.{BoardRequest, Waits, Leaves, Writes}
use Rattle.driver_model.specs.Commands.{leaving_all}
use Rattle.kernel_model.specs.Record.{Record, slot_line_of}
use Rattle.kernel_model.specs.Turn.{turned}
use Rattle.kernel_model.specs.World.{DeviceAnswer, DeviceStep, Devices, Stepped, World, acted, after}
use Rattle.kernel_model.specs.World.{answering, arrived, carried_out, coming_in, device_step_of, done, is_ready}
use Rattle.kernel_model.specs.World.{labels, may_be_made, only_in, operating}
use Rattle.kernel_model.specs.World.{ran, routed, serving, stepped}
use Rattle.kernel_model.specs.World.{telling_nobody, work_in}
use Rattle.kernel_model.specs.Laws.{NextIsReady}
use Rattle.kernel_model.specs.Parts.{told_first}
use Rattle.kernel_model.specs.Run.{is_left, is_left_for, next, next_time, passes_to, ready_devices, ready_slots}
use Rattle.kernel_model.specs.Run.{round}
use Rattle.tock_cli.proofs.Runs.{round-step, round-zero}
use Rattle.board_opening.specs.Opening.{opening}
use Rattle.board_core.specs.Expecting.{expecting}
use Rattle.board_views.specs.Agreeing.{AreWithin, ComesWithin, ScriptsAgree, ToTimeIsWithin, WorldsAgree}
use Rattle.board_views.specs.Agreeing.{expects}
use Rattle.board_views.specs.Times.{choice_within, is_within, to_time}
use Rattle.board_views.proofs.Stretches.{lead-step, lead-zero}
use Rattle.board_views.proofs.Timing.{pass_ends, to_time-none, to_time-step}

-- the nearer of three numbers, in another order
nearer_moves : (a b : Option ℕ) (n : ℕ) → nearer (nearer a (Some n)) b ≡ nearer (nearer a b) (Some n)
nearer_moves None None n = refl
nearer_moves None (Some b) n = let swapped : min n b ≡ min b n = omega arith in rw swapped
nearer_moves (Some a) None n = refl
nearer_moves (Some a) (Some b) n = let swapped : min (min a n) b ≡ min (min a b) n = omega arith in rw swapped

some_nearer : (a : Option ℕ) (n : ℕ) → is_some (nearer a (Some n)) ≡ true
some_nearer None n = refl
some_nearer (Some a) n = refl

-- the first of a range is found
first_found : (p : ℕ → Bool) (from count : ℕ) → p from ≡ true
    → is_some (find p (range_with_len from (suc count))) ≡ true
first_found p from count h = rw h

-- devices at which other events are still to come in
with_arrivals : List Arrival → Devices → Devices
with_arrivals xs d = record d { arrivals = xs }

-- what is asked of the board looks at none of them
acted_beside : (xs : List Arrival) (slot : ℕ) (act : BoardRequest) (d : Devices)
    → acted slot act (with_arrivals xs d) ≡ with_arrivals xs (acted slot act d)
unfolding with_arrivals
acted_beside xs slot (Waits Writes) d = refl
acted_beside xs slot (Leaves Writes) d = refl
acted_beside xs slot _ d = refl

routed_beside : (xs : List Arrival) (slot : ℕ) (acts : List BoardRequest) (d : Devices)
    → routed slot acts (with_arrivals xs d) ≡ with_arrivals xs (routed slot acts d)
routed_beside xs slot [] d = refl
routed_beside xs slot (act ∷ acts) d =
    rw (acted_beside xs slot act d) (routed_beside xs slot acts (acted slot act d))

module _ (e : Arrival) where
  -- the same with the event besides
  besides : Devices → Devices
  besides d = record d { arrivals = inserted e d.arrivals }

  routed_besides : (slot : ℕ) (acts : List BoardRequest) (d : Devices)
      → routed slot acts (besides d) ≡ besides (routed slot acts d)
  unfolding besides with_arrivals
  routed_besides slot acts d =
      routed_beside (inserted e d.arrivals) slot acts d
      ∙ ap (λ (f : Devices). with_arrivals (inserted e f.arrivals) (routed slot acts d))
      (sym (routed_beside d.arrivals slot acts d))

  answer_besides : DeviceAnswer → DeviceAnswer
  answer_besides a = record a { devices = besides a.devices }

  deed_besides : DeviceStep → DeviceStep
  deed_besides deed = record deed { devices = besides deed.devices }

  step_besides : Stepped → Stepped
  step_besides s = record s { after = expecting e s.after }

  -- the first that is still to come in
  first_time : (xs : List Arrival)
      → first_arrival_time (inserted e xs) ≡ nearer (first_arrival_time xs) (Some e.time)
  first_time [] = refl
  first_time (x ∷ xs) =
      cond_both (nat_le x.time e.time) (x ∷ inserted e xs) (e ∷ x ∷ xs)
      (λ ys. first_arrival_time ys ≡ Some (min x.time e.time))
      (λ t. let least : min x.time e.time ≡ x.time = omega (arith, leb-true x.time e.time t) in rw least)
      (λ t. let least : min x.time e.time ≡ e.time = omega (arith, leb-false x.time e.time t) in rw least)

  is_time_besides : (time : ℕ) (xs : List Arrival) → time < e.time → is_time time (inserted e xs) ≡ is_time time xs
  is_time_besides time [] h = lt-leb e.time time h
  is_time_besides time (x ∷ xs) h =
      cond_both (nat_le x.time e.time) (x ∷ inserted e xs) (e ∷ x ∷ xs) (λ ys. is_time time ys ≡ nat_le x.time time)
      (λ t. refl)
      (λ t. rw (lt-leb e.time time h, lt-leb x.time time (omega (arith, h, leb-false x.time e.time t))))

  comes_first : (time : ℕ) (x : Arrival) (xs : List Arrival) → time < e.time → nat_le x.time time ≡ true
      → inserted e (x ∷ xs) ≡ x ∷ inserted e xs
  comes_first time x xs h t = rw (le-leb x.time e.time (omega (arith, h, leb-true x.time time t)))

  -- what is done for one process
  serving_besides : (rs : List Record) (f g : ℕ → Record → DeviceAnswer)
      → ((slot : ℕ) (r : Record) → g slot r ≡ answer_besides (f slot r)) → (o : Option ℕ)
      → serving rs g o ≡ option_map deed_besides (serving rs f o)
  unfolding answer_besides deed_besides
  serving_besides rs f g same None = refl
  serving_besides rs f g same (Some slot) = by_record (slice_get rs slot)
    where
      by_record : (o : Option Record)
          → option_map (λ r. answering slot (g slot r)) o
          ≡ option_map deed_besides (option_map (λ r. answering slot (f slot r)) o)
      by_record None = refl
      by_record (Some r) = ap (λ (a : DeviceAnswer). Some (answering slot a)) (same slot r)

  operating_besides : (verb : Verb) (d : Devices) (slot : ℕ) (r : Record)
      → operating verb (besides d) slot r ≡ answer_besides (operating verb d slot r)
  unfolding answer_besides
  operating_besides verb d slot r = rw (routed_besides slot (cond (ends_by verb r.process) leaving_all []) d)

  coming_besides : (kind : EventKind) (rs : List Record) (d : Devices)
      → coming_in kind rs (besides d) ≡ deed_besides (coming_in kind rs d)
  unfolding besides deed_besides
  coming_besides (script.Input bytes) rs d = refl
  coming_besides (script.Press button) rs d = refl
  coming_besides (script.Release button) rs d = refl
  coming_besides (script.Act verb name) rs d =
      ap (λ (o : Option DeviceStep). unwrap_or o (telling_nobody (besides d)))
      (serving_besides rs (operating verb d) (operating verb (besides d)) (operating_besides verb d) meant)
      ∙ by_deed (serving rs (operating verb d) meant)
    where
      meant : Option ℕ
      meant = slot_named name (map slot_line_of rs)

      by_deed : (o : Option DeviceStep)
          → unwrap_or (option_map deed_besides o) (telling_nobody (besides d))
          ≡ deed_besides (unwrap_or o (telling_nobody d))
      by_deed None = refl
      by_deed (Some deed) = refl

  arrived_besides : (time : ℕ) (rs : List Record) (d : Devices) (xs : List Arrival) → time < e.time
      → is_time time xs ≡ true
      → arrived rs (with_arrivals (inserted e xs) d) (inserted e xs)
      ≡ option_map deed_besides (arrived rs (with_arrivals xs d) xs)
  unfolding with_arrivals besides
  arrived_besides time rs d [] h t = absurd (cc)
  arrived_besides time rs d (x ∷ xs) h t =
      rw (comes_first time x xs h t, coming_besides x.kind rs (with_arrivals xs d))

  module _ (w : World) (h : w.clock.time < e.time) where
    -- what a device does
    device_besides : (device : Dev) → (work_in w (only_in w)).ready device ≡ true
        → device_step_of (expecting e w) device ≡ option_map deed_besides (device_step_of w device)
    unfolding with_arrivals answer_besides besides
    device_besides dev.Event t = arrived_besides w.clock.time w.records w.devices w.devices.arrivals h t
    device_besides _ t = serving_besides w.records _ _ (λ slot r. refl) _

    -- which choices may be made
    device_ready : (only : Option ℕ) (device : Dev)
        → (work_in (expecting e w) only).ready device ≡ (work_in w only).ready device
    device_ready only dev.Event = is_time_besides w.clock.time w.devices.arrivals h
    device_ready only _ = refl

    may_besides : (c : Choice) → may_be_made (expecting e w) c ≡ may_be_made w c
    unfolding may_be_made
    may_besides (Device device) = device_ready (only_in w) device
    may_besides _ = refl

    -- and what they come to
    carried_besides : (c : Choice) → may_be_made w c ≡ true
        → carried_out (expecting e w) c ≡ step_besides (carried_out w c)
    unfolding carried_out may_be_made step_besides besides deed_besides
    carried_besides (Run slot) may = by_record (slice_get w.records slot)
      where
        by_record : (o : Option Record) → ran (expecting e w) slot o ≡ step_besides (ran w slot o)
        by_record None = refl
        by_record (Some r) = rw (routed_besides slot (turned w.settings w.clock.time r).acts w.devices)
    carried_besides (Device device) may =
        ap (done (expecting e w)) (device_besides device may) ∙ by_deed (device_step_of w device)
      where
        by_deed : (o : Option DeviceStep)
            → done (expecting e w) (option_map deed_besides o) ≡ step_besides (done w o)
        by_deed None = refl
        by_deed (Some deed) = refl
    carried_besides (Pass ticks) may = refl

    stepped_besides : (c : Choice) → stepped (expecting e w) c ≡ step_besides (stepped w c)
    unfolding stepped step_besides
    stepped_besides c = elim (cases_Bool (is_ready w c)) [
      | inl ready ↦ rw (may_besides c, ready) (carried_besides c (and_parts _ _ ready).1)
      | inr unready ↦ rw (may_besides c, unready)
    ]

    -- up to when time passes
    work_besides : (only : Option ℕ)
        → (work_in (expecting e w) only).next ≡ nearer (work_in w only).next (Some e.time)
    work_besides only = rw (first_time w.devices.arrivals, nearer_moves)

    left_besides : is_left (expecting e w) ≡ true
    unfolding is_left
    left_besides =
        first_found (is_left_for (expecting e w)) 0 15
        (rw (work_besides (Some 0), some_nearer (work_in w (Some 0)).next e.time, or-true, or-true))

    passes_besides : (n at : ℕ) → at ≤ e.time → passes_to w n ≡ Some at → passes_to (expecting e w) n ≡ Some at
    passes_besides zero at in_time is =
        let least : min at e.time ≡ at = omega arith in rw (work_besides (only_in w), is, least)
    passes_besides (suc n) at in_time is = elim (cases_Bool (is_left w)) [
      | inl left ↦
          let least : min at e.time ≡ at = omega arith in
          let before = rw left at is in
          rw (left_besides, work_besides (only_in w), nearer_moves, before, least)
      | inr none ↦ let over = rw none at is in absurd (cc)
    ]

    -- the same is chosen, where that ends in time
    devices_besides : ready_devices (expecting e w) ≡ ready_devices w
    devices_besides = rw (device_ready (only_in w) dev.Event)

    module _ (ready : NextIsReady) (c : Choice) (is : next w ≡ Some c) (few : w.clock.steps < STEP_LIMIT)
        (ends : (after w c).clock.time ≤ e.time) where
      passes : Option ℕ → Option Choice
      passes at = option_map (λ at. Pass (at - w.clock.time)) at

      -- the time to which it passes, where that is the choice
      same_pass : (o : Option ℕ) → next_time w ≡ o → passes o ≡ Some c → next_time (expecting e w) ≡ o
      unfolding passes may_be_made
      same_pass None time pass = absurd (cc)
      same_pass (Some at) time pass =
          let is_pass : c ≡ Pass (at - w.clock.time) = cc in
          let made = rw is_pass at (ready w c is few) in
          let some = ltb-true 0 (at - w.clock.time) (and_parts (nat_lt w.clock.steps STEP_LIMIT) _ made).1 in
          let end = pass_ends w (at - w.clock.time) made in
          let before = rw is_pass at ends in
          passes_besides w.pace.window at (omega (arith, end, some, before)) time

      next_besides : next (expecting e w) ≡ Some c
      unfolding next choice passes
      next_besides = rw devices_besides (by_both (ready_device (ready_devices w)) turn is)
        where
          turn : Option ℕ
          turn = next_slot (ready_slots w) w.present.slot w.present.used w.pace.slice

          by_both : (device : Option Dev) (turn : Option ℕ)
              → option_or (option_map Device device) (option_or (option_map Run turn) (passes (next_time w))) ≡ Some c
              → option_or (option_map Device device)
              (option_or (option_map Run turn) (passes (next_time (expecting e w)))) ≡ Some c
          by_both (Some device) turn is = is
          by_both None (Some slot) is = is
          by_both None None is = ap passes (same_pass (next_time w) refl is) ∙ is

-- what is known of a step that is within a time
record IsStepWithin (time : ℕ) (w : World) (c : Choice) : Type 0 where
  next_is : next w ≡ Some c
  few : w.clock.steps < STEP_LIMIT
  begins : w.clock.time < time
  ends : (after w c).clock.time ≤ time

step_within : (time : ℕ) (w : World) (c : Choice) → choice_within time w ≡ Some c → IsStepWithin time w c
step_within time w c e = option_and_then_some _ (choice_in w) c e (λ d is some.
    let test = cond_some (is_within time w d) d c some in
    let parts = and_parts (nat_lt w.clock.time time) _ test.0 in
    rw (← test.1) (record {
      next_is = chosen_is_next w d is;
      few = few_where w d is;
      begins = ltb-true w.clock.time time parts.0;
      ends = leb-true (after w d).clock.time time parts.1;
    }))

pub some_of : {A : Type 0} (o : Option A) → is_some o ≡ true → (a : A) × (o ≡ Some a)
some_of None e = absurd (cc)
some_of (Some a) e = (a, refl)

-- so many steps are the same
pub worlds_agree : NextIsReady → WorldsAgree
unfolding step_besides
worlds_agree ready e zero w within = rw (round-zero (expecting e w), round-zero w)
worlds_agree ready e (suc n) w within =
    round-step n (expecting e w) c.0 (next_besides e w first.begins ready c.0 first.next_is first.few first.ends)
    ∙ ap (λ (s : Stepped). told_first s.labels (round n s.after)) (stepped_besides e w first.begins c.0)
    ∙ ap (told_first (labels w c.0)) (worlds_agree ready e n (after w c.0)
    (λ i h. rw (lead-step i w c.0 first.next_is) at (within (suc i) (omega (arith, h)))))
    ∙ sym (ap (expects e) (round-step n w c.0 first.next_is))
  where
    c : (c : Choice) × (choice_within e.time w ≡ Some c)
    c = some_of (choice_within e.time w) (rw (lead-zero w) at (within 0 (omega arith)))

    first : IsStepWithin e.time w c.0
    first = step_within e.time w c.0 c.1

pub scripts_agree : NextIsReady → ScriptsAgree
unfolding opening
scripts_agree ready script flash e n within = worlds_agree ready e n (opening script flash) within

-- a board that goes on to a time makes such steps
pub one_more : (time : ℕ) (k : ℕ) (w : World) (c : Choice) → choice_within time w ≡ Some c → next w ≡ Some c
    → AreWithin time k (after w c) → AreWithin time (suc k) w
one_more time k w c e f within zero h = rw (lead-zero w, e)
one_more time k w c e f within (suc i) h = rw (lead-step i w c f) (within i (omega (arith, h)))

pub comes_within : ToTimeIsWithin
unfolding to_time
comes_within zero time w = record {
  made = 0;
  few = omega arith;
  reached = sym (lead-zero w);
  within = λ i h. absurd (omega (arith, h));
}
comes_within (suc n) time w =
    by_choice (choice_within time w) refl (λ c. comes_within n time (after w c))
  where
    by_choice : (o : Option Choice) → choice_within time w ≡ o
        → ((c : Choice) → ComesWithin n time (after w c) (to_time n time (after w c)))
        → ComesWithin (suc n) time w (to_time (suc n) time w)
    by_choice None e later = record {
      made = 0;
      few = omega arith;
      reached = to_time-none (suc n) time w e ∙ sym (lead-zero w);
      within = λ i h. absurd (omega (arith, h));
    }
    by_choice (Some c) e later =
        let rest = later c in
        let is = (step_within time w c e).next_is in
        record {
          made = suc rest.made;
          few = omega (arith, rest.few);
          reached = to_time-step n time w c e ∙ rest.reached ∙ sym (lead-step rest.made w c is);
          within = one_more time rest.made w c e is rest.within;
        }
