-- In a window of its own a slot that is ready has a turn in each tick. The next step there is its turn, which takes a
-- tick, or a device's step, which takes none (`OneTick`); so up to the window's end the turns told are the ticks
-- passed, by induction on the steps of the run.
use Rattle.std.proofs.lemmas.Bool.{cases_lt, cond_both}
use Rattle.std.proofs.Common.{inl, inr}
use Rattle.std.proofs.Common.{◌≡◌, ◌≤◌, ◌<◌, ℕ, zero, suc, ◌*◌, ◌/◌, ◌%◌, ◌+◌, ◌-◌, ◌==◌, ◌∷◌, ◌++◌, div-add-mod', Bool}
use Rattle.std.proofs.Common.{true, false, nat_lt, List, [], slice_get, IfSome, Option, None}
use Rattle.std.proofs.Common.{Some, refl, sym, ap, ap₂, subst, ◌∙◌, arith, eq-eqb, length-append}
use Rattle.std.specs.Option.{option_and_then}
use Rattle.std.proofs.lemmas.Bool.{false≢true}
use Rattle.std.proofs.lemmas.List.Elements.{filter-append}
use Rattle.tk_base.specs.declared.limits.TheConstants.{STEP_LIMIT}
use Rattle.tk_base.specs.declared.process.Choice.{Choice}
use Rattle.tk_base.specs.declared.process.Choice.TheVariants.{Run, Device}
use Rattle.tk_base.specs.declared.process.Dev.{Dev}
use Rattle.partition_turns.specs.Laws.{WindowsAreInTurn}
use Rattle.partition_turns.specs.Windows.{is_left, window_end, window_slot}
use Rattle.kernel_laws.specs.Windows.{NextIsOfTheWindow, lanes_in}
use Rattle.kernel_laws.proofs.Turns.{run_ready, step_same}
use Rattle.kernel_model.specs.Record.{Record}
use Rattle.kernel_model.specs.World.{Answer, DeviceStep, Label, Pace, Stepped, World, after}
use Rattle.kernel_model.specs.Named.{can_run}
use Rattle.kernel_model.specs.World.{carried_out, device_step_of, done, labels, ran, stepped}
use Rattle.kernel_model.specs.Parts.{labels_of}
use Rattle.kernel_model.specs.Run.{next, round, runs_on, stays}
use Rattle.kernel_model.specs.Parts.{on_choice}
use Rattle.kernel_model.specs.Replay.{chosen}
use Rattle.kernel_model.proofs.Places.{of_stepped, of_world, stepped_ready}
use Rattle.kernel_model.proofs.Steps.{TellsNoTurn, device_answers}
use Rattle.kernel_partitions.specs.Moments.{Moment, before, timed_history}
use Rattle.kernel_partitions.specs.Parts.{told_at_time, told_of}
use Rattle.kernel_partitions.specs.Partitions.{time_after}
use Rattle.kernel_partitions.specs.Windows.{EachTickIsItsTurn, WholeWindowIsItsTurns, slot_in_window, turns_told}
use Rattle.kernel_partitions.specs.Windows.{window_end_of}
use Rattle.kernel_partitions.proofs.Alone.{comes_in, first_of, flags_for, none_before}
use Rattle.kernel_partitions.proofs.Records.{all_kept, step_first}
use Rattle.kernel_partitions.proofs.Steps.{told_by}
use Rattle.kernel_partitions.proofs.Windows.{chosen_by, next_by, pass_end}

-- the turns of one list and then of another
turns_joined : (first more : List Moment) → turns_told (first ++ more) ≡ turns_told first + turns_told more
turns_joined first more = simp (filter-append, length-append)

-- what a step is to a slot: it takes so many ticks, each a turn of it
record Takes (slot : ℕ) (w : World) (s : Stepped) (ticks : ℕ) : Type 0 where
  time : s.after.clock.time ≡ w.clock.time + ticks
  turns : turns_told (told_at_time w.clock.time (told_of slot s.labels)) ≡ ticks

-- a device's step none
deed_takes : (slot : ℕ) (w : World) (o : Option DeviceStep) → IfSome o (λ deed. TellsNoTurn deed.told)
    → Takes slot w (done w o) 0
deed_takes slot w None answers = record { time = omega arith; turns = refl }
deed_takes slot w (Some deed) answers = record {
  time = omega arith;
  turns = ap (λ (ls : List Label). turns_told (told_at_time w.clock.time ls)) (told_by slot deed.told w.records)
      ∙ by_record (slice_get w.records slot);
}
  where
    by_answer : (o : Option Answer) → deed.told slot ≡ o
        → turns_told (told_at_time w.clock.time (told_of slot (labels_of slot o))) ≡ 0
    by_answer None is = refl
    by_answer (Some a) is =
        cond_both (slot == slot) _ _ (λ (ls : List Label). turns_told (told_at_time w.clock.time ls) ≡ 0)
        (λ e. rw (answers slot a is) refl) (λ e. refl)

    by_record : (o : Option Record)
        → turns_told (told_at_time w.clock.time (told_of slot (labels_of slot
        (option_and_then (λ (r : Record). deed.told slot) o)))) ≡ 0
    by_record None = refl
    by_record (Some r) = by_answer (deed.told slot) refl

-- its own turn one
turn_takes : (slot : ℕ) (w : World) (o : Option Record) → can_run o ≡ true → Takes slot w (ran w slot o) 1
turn_takes slot w None can = absurd (false≢true can)
turn_takes slot w (Some r) can = record {
  time = refl;
  turns = rw (eq-eqb slot slot refl) refl;
}

-- below the limit of steps the next step in a window whose slot is ready is its turn, or a device's step
data OneTick (slot : ℕ) (w : World) (c : Choice) : Type 0 where
  no_tick : Takes slot w (stepped w c) 0 → OneTick slot w c
  a_tick : Takes slot w (stepped w c) 1 → OneTick slot w c

module _ (law : NextIsOfTheWindow) (turns : WindowsAreInTurn) where
  the_one : (c d : Choice) → Some d ≡ Some c → d ≡ c
  the_one c d is = cc

  ticks_of_next : (w : World) (c : Choice) → 1 ≤ w.pace.window → w.clock.steps < STEP_LIMIT
      → can_run (slice_get w.records (slot_in_window w)) ≡ true → next w ≡ Some c → OneTick (slot_in_window w) w c
  unfolding carried_out
  ticks_of_next w c some below ready is =
      by_device (first_of (comes_in w) (flags_for slot w)) (can_run (slice_get w.records slot)) ready
      (sym (next_by law w some) ∙ is)
    where
      slot : ℕ
      slot = slot_in_window w

      by_device : (o : Option Dev) (turn : Bool) → turn ≡ true
          → chosen_by slot o turn (is_left (lanes_in w)) (pass_end w - w.clock.time) ≡ Some c → OneTick slot w c
      by_device (Some device) turn can e =
          subst (OneTick slot w) (the_one c (Device device) e)
          (no_tick (of_stepped (λ (s : Stepped). Takes slot w s 0) w (Device device)
          (record { time = omega arith; turns = refl })
          (λ made. deed_takes slot w (device_step_of w device) (device_answers w device))))
      by_device None true can e =
          subst (OneTick slot w) (the_one c (Run slot) e)
          (a_tick (subst (λ (s : Stepped). Takes slot w s 1)
          (sym (stepped_ready w (Run slot) (run_ready w slot ready below)))
          (turn_takes slot w (slice_get w.records slot) ready)))
      by_device None false can e = absurd (false≢true can)

  -- each step takes one count of the limit at most
  steps_at_most : (w : World) (c : Choice) → (after w c).clock.steps ≤ w.clock.steps + 1
  steps_at_most w c =
      of_world (λ v. v.clock.steps ≤ w.clock.steps + 1) w (omega arith) (λ slot t. omega arith) (λ deed. omega arith)
      (λ ticks. omega arith) c

  time_goes_on : (w : World) (c : Choice) → w.clock.time ≤ (after w c).clock.time
  time_goes_on w c =
      of_world (λ v. w.clock.time ≤ v.clock.time) w (omega arith) (λ slot t. omega arith) (λ deed. omega arith)
      (λ ticks. omega arith) c

  -- what begins at a time or later did not begin before it
  none_sooner : (slot time : ℕ) (w : World) (choices : List Choice) → time ≤ w.clock.time
      → before time (timed_history slot w choices) ≡ []
  none_sooner slot time w [] from = refl
  none_sooner slot time w (c ∷ choices) from =
      let from_there : time ≤ (after w c).clock.time = omega (arith, from, time_goes_on w c) in
      filter-append (λ (m : Moment). nat_lt m.at time) (told_at_time w.clock.time (told_of slot (labels w c)))
      (timed_history slot (after w c) choices)
      ∙ ap₂ (λ (x y : List Moment). x ++ y) (none_before slot time w.clock.time (told_of slot (labels w c)) from)
      (none_sooner slot time (after w c) choices from_there)

  -- a world on the way to the end of a slot's window
  record IsOnTheWay (slot end : ℕ) (w : World) : Type 0 where
    some : 1 ≤ w.pace.window
    within : w.clock.time ≤ end
    slot_is : w.clock.time < end → slot_in_window w ≡ slot
    end_is : w.clock.time < end → window_end_of w ≡ end

  steps_on : (slot end ticks : ℕ) (w : World) (c : Choice) → IsOnTheWay slot end w → w.clock.time < end → ticks ≤ 1
      → (after w c).clock.time ≡ w.clock.time + ticks → IsOnTheWay slot end (after w c)
  steps_on slot end ticks w c way below few time =
      let pace = ap (λ (p : Pace). p.window) (step_same w c).pace in
      let window = turns w.clock.time w.pace.window way.some in
      let from = time_goes_on w c in
      let ends = way.end_is below in
      record {
        some = subst (λ (n : ℕ). 1 ≤ n) (sym pace) way.some;
        within = omega (arith, below, few, time);
        slot_is = λ under.
            ap (window_slot (after w c).clock.time) pace
            ∙ window.slot_lasts (after w c).clock.time from (omega (arith, under, ends)) ∙ way.slot_is below;
        end_is = λ under.
            ap (window_end (after w c).clock.time) pace
            ∙ window.end_lasts (after w c).clock.time from (omega (arith, under, ends)) ∙ ends;
      }

  -- each tick from a world to the end is a turn of the slot
  abbrev TellsUpTo : ℕ → ℕ → World → List Choice → Type 0
  TellsUpTo slot end w choices = w.clock.time + turns_told (before end (timed_history slot w choices)) ≡ end

  -- so it is in a run from such a world
  abbrev TellsFrom : ℕ → ℕ → ℕ → World → Type 0
  TellsFrom slot end n w =
      IsOnTheWay slot end w → w.clock.steps + n ≤ STEP_LIMIT
      → ((i : ℕ) → i < n → time_after i w < end → can_run (slice_get (round i w).world.records slot) ≡ true)
      → end ≤ time_after n w → TellsUpTo slot end w (chosen n w)

  turns_to_end : (slot end n : ℕ) (w : World) → TellsFrom slot end n w
  unfolding round chosen
  turns_to_end slot end zero w way below ready reached = omega (arith, way.within, reached)
  turns_to_end slot end (suc n) w way below ready reached =
      elim (cases_lt w.clock.time end) [
        | inl under ↦ by_choice (next w) refl under (λ c. turns_to_end slot end n (after w c)) reached
        | inr there ↦
            let choices = on_choice [] (λ c. c ∷ chosen n (after w c)) (next w) in
            let none : turns_told (before end (timed_history slot w choices)) ≡ 0
            = ap turns_told (none_sooner slot end w choices there) in
            omega (arith, none, there, way.within)
      ]
    where
      -- a step of so many ticks, and then the rest
      by_ticks : (c : Choice) → next w ≡ Some c → w.clock.time < end → TellsFrom slot end n (after w c) → (ticks : ℕ)
          → ticks ≤ 1
          → Takes slot w (stepped w c) ticks → TellsUpTo slot end w (c ∷ chosen n (after w c))
      by_ticks c is under rest ticks few takes =
          let first = told_at_time w.clock.time (told_of slot (labels w c)) in
          let more = timed_history slot (after w c) (chosen n (after w c)) in
          let joined : turns_told (before end (first ++ more)) ≡ turns_told first + turns_told (before end more) =
          ap turns_told (filter-append (λ (m : Moment). nat_lt m.at end) first more
          ∙ ap (λ (x : List Moment). x ++ before end more)
          (all_kept end w.clock.time (told_of slot (labels w c)) under))
          ∙ turns_joined first (before end more) in
          let counts : turns_told first ≡ ticks = takes.turns in
          let at : (after w c).clock.time ≡ w.clock.time + ticks = takes.time in
          let later : (after w c).clock.time + turns_told (before end more) ≡ end =
          rest (steps_on slot end ticks w c way under few at) (omega (arith, below, steps_at_most w c))
          (λ i less early.
          let under_n : suc i < suc n = omega (arith, less) in
          let same = step_first i w c is in
          subst (λ (v : World). can_run (slice_get v.records slot) ≡ true) same
          (ready (suc i) under_n (subst (λ (v : World). v.clock.time < end) (sym same) early)))
          (subst (λ (v : World). end ≤ v.clock.time) (step_first n w c is) reached) in
          omega (arith, joined, counts, at, later)

      by_choice : (o : Option Choice) → next w ≡ o → w.clock.time < end
          → ((c : Choice) → TellsFrom slot end n (after w c))
          → end ≤ (on_choice (stays w) (λ c. runs_on (round n) (stepped w c)) o).world.clock.time
          → TellsUpTo slot end w (on_choice [] (λ c. c ∷ chosen n (after w c)) o)
      by_choice None is under rest there = absurd (omega (arith, under, there))
      by_choice (Some c) is under rest there =
          let some : 0 < suc n = omega arith in
          let can = ready 0 some under in
          let limit : w.clock.steps < STEP_LIMIT = omega (arith, below) in
          by_tick (subst (λ (s : ℕ). OneTick s w c) (way.slot_is under) (ticks_of_next w c way.some limit
          (ap (λ (s : ℕ). can_run (slice_get w.records s)) (way.slot_is under) ∙ can) is))
        where
          by_tick : OneTick slot w c → TellsUpTo slot end w (c ∷ chosen n (after w c))
          by_tick (no_tick takes) = by_ticks c is under (rest c) 0 (omega arith) takes
          by_tick (a_tick takes) = by_ticks c is under (rest c) 1 (omega arith) takes

  pub each_tick_is_its_turn : EachTickIsItsTurn
  each_tick_is_its_turn w n through =
      let ahead = (turns w.clock.time w.pace.window through.windows).ahead in
      sym (turns_to_end (slot_in_window w) (window_end_of w) n w (record {
        some = through.windows;
        within = omega (arith, ahead);
        slot_is = λ under. refl;
        end_is = λ under. refl;
      }) through.below_limit through.ready through.reached)

  -- a window that begins has all of its ticks ahead
  whole_ahead : (time n : ℕ) → time % n ≡ 0 → window_end time n ≡ time + n
  whole_ahead time n first =
      let parts : time / n * n + time % n ≡ time = div-add-mod' time n in
      let split : (time / n + 1) * n ≡ time / n * n + n = grind arith in
      omega (arith, parts, first, split)

  pub whole_window_is_its_turns : WholeWindowIsItsTurns
  whole_window_is_its_turns w n through first =
      let each = each_tick_is_its_turn w n through in
      let whole = whole_ahead w.clock.time w.pace.window first in
      omega (arith, each, whole)
