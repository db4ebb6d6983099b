-- Each step of a run with time partitions is, for one slot, so many steps of it by itself: one of its own, or ticks
-- without one. That is shown by what the choice reads of the window (`next_by`); so a run is so many of them, by
-- induction on its steps, and what is told of the slot up to a time depends on the slot alone.
use Rattle.std.proofs.Common.{◌≡◌, ◌≤◌, ℕ, zero, suc, ◌+◌, ◌-◌, ◌==◌, if◌then◌else◌, ◌∷◌, ◌++◌, Bool, true, false, List}
use Rattle.std.proofs.Common.{[], slice_get, Option, None, Some, refl, sym, ap, ap₂, subst, ◌∙◌, append-nil, eqb-true}
use Rattle.std.proofs.Common.{eq-eqb}
use Rattle.std.specs.Prelude.{All}
use Rattle.std.specs.List.{cons_option}
use Rattle.std.specs.Option.{option_map, option_or}
use Rattle.std.proofs.lemmas.Bool.{false≢true}
use Rattle.std.proofs.lemmas.List.Elements.{All-tail}
use Rattle.tk_base.specs.declared.process.Choice.{Choice}
use Rattle.tk_base.specs.declared.process.Choice.TheVariants.{Run, Device, Pass}
use Rattle.tk_base.specs.declared.process.Dev.{Dev}
use Rattle.tk_base.specs.declared.process.Dev.TheVariants.{Event}
use Rattle.partition_turns.specs.Laws.{WindowsAreInTurn}
use Rattle.partition_turns.specs.Windows.{is_left}
use Rattle.script_text.specs.Settings.{ScriptEvent as Arrival}
use Rattle.driver_model.specs.Laws.{QuietUntilNext}
use Rattle.kernel_laws.specs.Windows.{NextIsOfTheWindow, lanes_in}
use Rattle.kernel_laws.proofs.Arrivals.{arrives_in_order}
use Rattle.kernel_laws.proofs.Turns.{step_same}
use Rattle.kernel_model.specs.Edges.{arrival_in}
use Rattle.kernel_model.specs.World.{Stepped, World, after, carried_out, device_step_of}
use Rattle.kernel_model.specs.Named.{can_run}
use Rattle.kernel_model.specs.World.{done, labels, stepped}
use Rattle.kernel_model.specs.Run.{next, round, runs_on, stays}
use Rattle.kernel_model.specs.Parts.{on_choice}
use Rattle.kernel_model.specs.Replay.{chosen}
use Rattle.kernel_model.proofs.Places.{of_stepped}
use Rattle.kernel_partitions.specs.Alike.{AreAlikeIn, IsNoAct, IsPartitioned}
use Rattle.kernel_partitions.specs.Moments.{Moment, before, timed_history}
use Rattle.kernel_partitions.specs.Parts.{told_at_time, told_of}
use Rattle.kernel_partitions.specs.Partitions.{ASlotSeesItselfAlone}
use Rattle.kernel_partitions.proofs.Alone.{comes_in, first_of, first_serves, flags_for, goes, idled}
use Rattle.kernel_partitions.proofs.Alone.{idled-told, only_is, own_step, same_before, tells, tells_by}
use Rattle.kernel_partitions.proofs.Alone.{told, told-plus, told_alike, went, went-plus, went_alike, went_keeps}
use Rattle.kernel_partitions.proofs.Lanes.{lanes_then}
use Rattle.kernel_partitions.proofs.Others.{LeavesAlone, devices_leave, itself, turn_leaves}
use Rattle.kernel_partitions.proofs.Steps.{deed_is}
use Rattle.kernel_partitions.proofs.Windows.{next_by, pass_end, passes_idle, slot_now}

-- worlds that are alike one after another, and the other way round
pub worlds_then : (slot : ℕ) (u v w : World) → AreAlikeIn slot u v → AreAlikeIn slot v w → AreAlikeIn slot u w
worlds_then slot u v w one two = record {
  window = one.window ∙ two.window;
  settings = one.settings ∙ two.settings;
  time = one.time ∙ two.time;
  record_is = one.record_is ∙ two.record_is;
  lanes = lanes_then slot u.devices v.devices w.devices one.lanes two.lanes;
}

-- a step is so many steps of a slot by itself
record IsAlone (slot : ℕ) (u : World) (s : Stepped) : Type 0 where
  count : ℕ
  leads : AreAlikeIn slot (went slot count u) s.after
  same : told slot count u ≡ told_at_time u.clock.time (told_of slot s.labels)

module _ (slot : ℕ) (u : World) where
  -- one step of its own
  of_one : (c : Choice) → own_step slot u ≡ Some c → IsAlone slot u (carried_out u c)
  unfolding goes tells
  of_one c is = record {
    count = 1;
    leads = rw is (itself slot (carried_out u c).after);
    same = append-nil (tells_by slot u (own_step slot u)) ∙ ap (tells_by slot u) is;
  }

  -- a tick, in another's turn
  of_tick : (s : Stepped) → own_step slot u ≡ None → LeavesAlone slot (u.clock.time + 1) u s → IsAlone slot u s
  unfolding goes tells
  of_tick s is leaves = record {
    count = 1;
    leads = rw is leaves.worlds;
    same = append-nil (tells_by slot u (own_step slot u)) ∙ ap (tells_by slot u) is
        ∙ sym (ap (told_at_time u.clock.time) leaves.told);
  }

  -- none, and no time
  of_none : (s : Stepped) → LeavesAlone slot u.clock.time u s → IsAlone slot u s
  of_none s leaves =
      record { count = 0; leads = leaves.worlds; same = sym (ap (told_at_time u.clock.time) leaves.told) }

  module _ (quiet : QuietUntilNext) (turns : WindowsAreInTurn) (law : NextIsOfTheWindow)
      (some : 1 ≤ u.pace.window) where
    abbrev here : ℕ
    here = slot_now u

    device_alone : (device : Dev) → comes_in u ≡ false → first_of false (flags_for here u) ≡ Some device
        → (same : Bool) → (here == slot) ≡ same → IsAlone slot u (carried_out u (Device device))
    unfolding carried_out
    device_alone device event found true is =
        let mine : first_of false (flags_for slot u) ≡ Some device =
        ap (λ (s : ℕ). first_of false (flags_for s u)) (sym (eqb-true here slot is)) ∙ found in
        of_one (Device device) (rw (is, event, mine) refl)
    device_alone device event found false is =
        of_none (done u (device_step_of u device))
        (rw (deed_is u device, only_is u.clock.time u.pace.window some)
        (devices_leave slot here (λ same. false≢true (sym is ∙ eq-eqb here slot same)) u device
        (first_serves (flags_for here u) device found)))

    turn_alone : comes_in u ≡ false → first_of false (flags_for here u) ≡ None
        → can_run (slice_get u.records here) ≡ true → (same : Bool) → (here == slot) ≡ same
        → IsAlone slot u (carried_out u (Run here))
    unfolding carried_out
    turn_alone event none ready true is =
        let same = eqb-true here slot is in
        rw same (of_one (Run slot) (rw (is, event, rw same at none, rw same at ready) refl))
    turn_alone event none ready false is =
        of_tick (carried_out u (Run here))
        (rw (is, event) refl)
        (turn_leaves slot here (λ same. false≢true (sym is ∙ eq-eqb here slot same)) u (slice_get u.records here) refl
        (λ gone. false≢true (sym (ap can_run gone) ∙ ready)))

    pass_alone : first_of false (flags_for here u) ≡ None → can_run (slice_get u.records here) ≡ false
        → IsAlone slot u (carried_out u (Pass (pass_end u - u.clock.time)))
    unfolding carried_out
    pass_alone none ready =
        let ticks = pass_end u - u.clock.time in
        let idles = passes_idle quiet turns u some slot none ready in
        record {
          count = ticks;
          leads = rw (idled slot ticks u idles) (record {
            window = refl;
            settings = refl;
            time = refl;
            record_is = refl;
            lanes = (itself slot u).lanes;
          });
          same = idled-told slot ticks u idles;
        }

    the_one : (c d : Choice) → Some d ≡ Some c → IsAlone slot u (carried_out u d) → IsAlone slot u (carried_out u c)
    the_one c d is alone = let same : d ≡ c = cc in subst (λ (x : Choice). IsAlone slot u (carried_out u x)) same alone

    by_facts : (c : Choice) (event : Bool) → comes_in u ≡ event → (device : Option Dev)
        → first_of false (flags_for here u) ≡ device → (turn : Bool) → can_run (slice_get u.records here) ≡ turn
        → (left : Bool)
        → option_or (option_map Device (if event then Some Event else device))
        (if turn then Some (Run here) else (if left then Some (Pass (pass_end u - u.clock.time)) else None)) ≡ Some c
        → IsAlone slot u (carried_out u c)
    by_facts c true came device found turn ready left is =
        the_one c (Device Event) is (of_one (Device Event) (rw came refl))
    by_facts c false came (Some device) found turn ready left is =
        the_one c (Device device) is (device_alone device came found (here == slot) refl)
    by_facts c false came None found true ready left is =
        the_one c (Run here) is (turn_alone came found ready (here == slot) refl)
    by_facts c false came None found false ready true is =
        the_one c (Pass (pass_end u - u.clock.time)) is (pass_alone found ready)
    by_facts c false came None found false ready false is = absurd (cc)

    choice_alone : (c : Choice) → next u ≡ Some c → IsAlone slot u (stepped u c)
    choice_alone c is =
        of_stepped (IsAlone slot u) u c (record { count = 0; leads = itself slot u; same = refl }) (λ ready.
        by_facts c (comes_in u) refl (first_of false (flags_for here u)) refl (can_run (slice_get u.records here)) refl
        (is_left (lanes_in u)) (sym (next_by law u some) ∙ is))

-- time partitions stay
pub step_keeps : (w : World) (c : Choice) → IsPartitioned w → IsPartitioned (after w c)
step_keeps w c good = record {
  windows = rw (step_same w c).pace good.windows;
  no_acts = by_arrival (arrival_in w c) (rw (arrives_in_order w c) at good.no_acts);
}
  where
    by_arrival : (o : Option Arrival) → All IsNoAct (cons_option o (after w c).devices.arrivals)
        → All IsNoAct (after w c).devices.arrivals
    by_arrival None none = none
    by_arrival (Some a) none = All-tail IsNoAct a (after w c).devices.arrivals none

module _ (quiet : QuietUntilNext) (turns : WindowsAreInTurn) (law : NextIsOfTheWindow) (slot : ℕ) where
  -- a run that led to a world, with what was told, is so many steps of a slot by itself
  pub record RanAlone (from to : World) (moments : List Moment) : Type 0 where
    pub count : ℕ
    pub leads : AreAlikeIn slot (went slot count from) to
    pub same : told slot count from ≡ moments

  goes_on : (w v to : World) (front rest : List Moment) → IsPartitioned w → (a : ℕ) → AreAlikeIn slot (went slot a w) v
      → told slot a w ≡ front → RanAlone v to rest → RanAlone w to (front ++ rest)
  goes_on w v to front rest good a leads same r =
      let kept = went_keeps slot a w good in
      record {
        count = a + r.count;
        leads = worlds_then slot (went slot (a + r.count) w) (went slot r.count v) to
            (rw (went-plus slot a r.count w) (went_alike slot r.count (went slot a w) v kept leads)) r.leads;
        same = told-plus slot a r.count w
            ∙ ap₂ (λ (x y : List Moment). x ++ y) same (told_alike slot r.count (went slot a w) v kept leads ∙ r.same);
      }

  pub ran_alone : (n : ℕ) (w : World) → IsPartitioned w
      → RanAlone w (round n w).world (timed_history slot w (chosen n w))
  unfolding round chosen
  ran_alone zero w good = record { count = 0; leads = itself slot w; same = refl }
  ran_alone (suc n) w good = by_choice (next w) refl (λ c. ran_alone n (after w c) (step_keeps w c good))
    where
      by_choice : (o : Option Choice) → next w ≡ o
          → ((c : Choice) → RanAlone (after w c) (round n (after w c)).world
          (timed_history slot (after w c) (chosen n (after w c))))
          → RanAlone w (on_choice (stays w) (λ c. runs_on (round n) (stepped w c)) o).world
          (timed_history slot w (on_choice [] (λ c. c ∷ chosen n (after w c)) o))
      by_choice None is rest = record { count = 0; leads = itself slot w; same = refl }
      by_choice (Some c) is rest =
          let alone = choice_alone slot w quiet turns law good.windows c is in
          goes_on w (after w c) (round n (after w c)).world (told_at_time w.clock.time (told_of slot (labels w c)))
          (timed_history slot (after w c) (chosen n (after w c))) good alone.count alone.leads alone.same (rest c)

pub a_slot_sees_itself_alone : QuietUntilNext → WindowsAreInTurn → NextIsOfTheWindow → ASlotSeesItselfAlone
a_slot_sees_itself_alone quiet turns law slot v w good alike n m time first second =
    let fine : IsPartitioned w
    = record { windows = rw alike.window at good.windows; no_acts = rw alike.lanes.arrivals at good.no_acts } in
    let a = ran_alone quiet turns law slot n v good in
    let b = ran_alone quiet turns law slot m w fine in
    let there = went_alike slot b.count v w good alike in
    ap (before time) (sym a.same)
    ∙ same_before slot time a.count b.count v (subst (λ (t : ℕ). time ≤ t) (sym a.leads.time) first)
    (subst (λ (t : ℕ). time ≤ t) (sym (there.time ∙ b.leads.time)) second)
    ∙ ap (before time) (told_alike slot b.count v w good alike ∙ b.same)
