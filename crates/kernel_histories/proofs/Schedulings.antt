-- What waits after a run, step by step: it is what was scheduled, and neither delivered nor taken away. The invariant,
-- by induction on the choices, is that the numbered schedulings are the upcalls that wait, each still held (`IsGood`),
-- and that no step since took one away. So what a turn delivers is the one at the place that it takes.
use Rattle.std.proofs.lemmas.Option.{IfSome_then}
use Rattle.std.proofs.lemmas.Bool.{cond_both, not-true}
use Rattle.std.proofs.Common.{◌≡◌, ◌<◌, ◌≤◌, ℕ, ◌+◌, Bool, true, false, cond, not, List, [], ◌∷◌, ◌++◌, drop, length}
use Rattle.std.proofs.Common.{slice_get, slice_index_or, Option, None, Some, IfSome, refl, sym, ap, subst, ◌∙◌}
use Rattle.std.proofs.Common.{arith}
use Rattle.std.specs.Prelude.{All}
use Rattle.std.proofs.lemmas.List.{append-nil, length-append, length-map, map-append}
use Rattle.std.proofs.lemmas.List.Elements.{All-nil, All-cons, All-append, All-filter, All-map}
use Rattle.std.proofs.lemmas.List.Elements.{All-same, All-weaker, filter_passes}
use Rattle.std.proofs.lemmas.Option.{get_or_from_slice_get, slice_get-map, slice_get_within}
use Rattle.std.specs.Prelude.{option_and_then}
use Rattle.std.proofs.Math.Seq.{drop-append_seam}
use Rattle.tk_base.specs.declared.process.Choice.{Choice}
use Rattle.tk_base.specs.declared.upcall.Upcall.{Upcall as Scheduled}
use Rattle.tk_base.specs.declared.upcall.Wait.{Wait}
use Rattle.process_record.specs.Operator.{ends_by}
use Rattle.rv32_model.specs.Laws.{CallsAreOfEcall}
use Rattle.kernel_model.specs.Record.{Record}
use Rattle.kernel_model.specs.Turn.{TurnTrace}
use Rattle.kernel_model.specs.World.{World, after}
use Rattle.kernel_model.specs.Replay.{after_all}
use Rattle.kernel_model.specs.Histories.{HandedNothing, is_ended_in}
use Rattle.kernel_histories.specs.Deliveries.{DeliveriesAreOfTheLast, DeliversPlace, IsDelivered, IsOfTheLast}
use Rattle.kernel_histories.specs.Deliveries.{IsSubscribed, Scheduling}
use Rattle.kernel_histories.specs.Deliveries.{Takes, left_by_turn, pending_in, pending_of}
use Rattle.kernel_histories.specs.Deliveries.{place_taken, scheduled_in, schedulings, schedulings_after}
use Rattle.kernel_histories.specs.Deliveries.{schedulings_from, schedulings_left_by, schedulings_left_in, takes}
use Rattle.kernel_histories.specs.Deliveries.{takes_away, told_in, upcalls, wait_in_slot, wait_of}
use Rattle.kernel_histories.proofs.Delivered.{LeavesTaken, step_delivers}
use Rattle.kernel_histories.proofs.Deliveries.{IsGood, Leaves, Promise, act_leaves, all_removed, answer_leaves}
use Rattle.kernel_histories.proofs.Deliveries.{turn_leaves}
use Rattle.kernel_model.proofs.Steps.{of_step}

-- What a step leaves of what waits for the process in a slot, by whether an operator's act ended a life of it and by
-- what its turn tells: what is left, and then one upcall more at most. Each is still the one that is held.
pub record Follows (before : Option Record) (ended : Bool) (tolds : List TurnTrace) (o : Option Record) : Type 0 where
  pub more : List Scheduled
  pub pending : (waiting : List Scheduling) → upcalls waiting ≡ pending_of before
      → pending_of o
      ≡ upcalls (cond ended [] (schedulings_left_by (option_and_then wait_of before) tolds waiting)) ++ more
  pub one : length more ≤ 1
  pub good : IfSome o IsGood

follows_none : (o : Option Record) → IfSome o IsGood → Follows o false [] o
follows_none o good =
    record {
      more = [];
      pending = λ waiting is. sym is ∙ sym (append-nil (upcalls waiting));
      one = omega arith;
      good = good;
    }

-- the record changes
follows_some : (before : Option Record) (ended : Bool) (tolds : List TurnTrace) (r o : Record) → before ≡ Some r
    → Leaves r o (λ waiting. cond ended [] (schedulings_left_by (wait_of r) tolds waiting))
    → Follows before ended tolds (Some o)
follows_some before ended tolds r o is leaves =
    rw is (record { more = leaves.more; pending = leaves.pending; one = leaves.one; good = leaves.good })

module _ (promise : Promise) where
  pub step_follows : (slot : ℕ) (w : World) (choice : Choice) → IfSome (slice_get w.records slot) IsGood
      → Follows (slice_get w.records slot) (is_ended_in slot w choice) (told_in slot w choice)
      (slice_get (after w choice).records slot)
  step_follows slot w choice good =
      of_step w slot (Follows (slice_get w.records slot))
      (record {
        stays = follows_none (slice_get w.records slot) good;
        turn = λ r is free.
            follows_some _ false _ r _ is (turn_leaves promise w.settings w.clock.time r free (rw is at good));
        answer = λ r is event answers.
            follows_some _ false [] r _ is (answer_leaves promise w.settings event r answers (rw is at good));
        act = λ r is verb.
            follows_some _ (ends_by verb r.process) [] r _ is (act_leaves promise verb r (rw is at good));
      })
      choice

-- a list, and what follows it in a longer one
seam : {X : Type 0} (xs ys zs : List X) → zs ≡ xs ++ ys → xs ++ drop (length xs) zs ≡ zs
seam xs ys zs is = rw (is, drop-append_seam xs ys) refl

numbered : (step : ℕ) (us : List Scheduled) → upcalls (scheduled_in step us) ≡ us
numbered step [] = refl
numbered step (u ∷ us) = ap (λ (rest : List Scheduled). u ∷ rest) (numbered step us)

abbrev pub GoodIn : ℕ → World → Type 0
GoodIn slot w = IfSome (slice_get w.records slot) IsGood

module _ (promise : Promise) (slot : ℕ) where
  pub good_after_all : (choices : List Choice) (w : World) → GoodIn slot w → GoodIn slot (after_all w choices)
  good_after_all [] w good = good
  good_after_all (choice ∷ choices) w good =
      good_after_all choices (after w choice) (step_follows promise slot w choice good).good

  -- one step of the history
  step_history : (step : ℕ) (w : World) (choice : Choice) (waiting : List Scheduling) → GoodIn slot w
      → upcalls waiting ≡ pending_in slot w
      → upcalls (schedulings_after slot step w choice waiting) ≡ pending_in slot (after w choice)
  step_history step w choice waiting good is =
      let f = step_follows promise slot w choice good in
      let left = schedulings_left_in slot w choice waiting in
      let now = pending_in slot (after w choice) in
      rw (
        map-append (λ (s : Scheduling). s.upcall) left (scheduled_in step (drop (length left) now)),
        numbered step (drop (length left) now),
        ← length-map left (λ (s : Scheduling). s.upcall),
      )
      (seam (upcalls left) f.more now (f.pending waiting is))

  history_from : (choices : List Choice) (step : ℕ) (w : World) (waiting : List Scheduling) → GoodIn slot w
      → upcalls waiting ≡ pending_in slot w
      → upcalls (schedulings_from slot step w choices waiting) ≡ pending_in slot (after_all w choices)
  history_from [] step w waiting good is = is
  history_from (choice ∷ choices) step w waiting good is =
      history_from choices (step + 1) (after w choice) (schedulings_after slot step w choice waiting)
      (step_follows promise slot w choice good).good (step_history step w choice waiting good is)

  one_more : (w : World) (choice : Choice) (waiting : List Scheduling) → GoodIn slot w
      → upcalls waiting ≡ pending_in slot w
      → length (pending_in slot (after w choice)) ≤ length (schedulings_left_in slot w choice waiting) + 1
  one_more w choice waiting good is =
      let f = step_follows promise slot w choice good in
      let left = schedulings_left_in slot w choice waiting in
      let all = ap length (f.pending waiting is) ∙ length-append (upcalls left) f.more in
      let mapped = length-map left (λ (s : Scheduling). s.upcall) in
      omega (arith, all, mapped, f.one)

-- where nothing was handed
pub begins_good : Promise → (o : Option Record) → IfSome o HandedNothing → IfSome o IsGood
begins_good promise None nothing = tt
begins_good promise (Some r) nothing = record {
  can = nothing.application;
  sound = record {
    shape = (promise.pairs.none r.own nothing.grants).shape;
    held = All-same (IsSubscribed r.own) r.own.inbox.pending [] nothing.pending (All-nil (IsSubscribed r.own));
  };
}

begins_empty : (o : Option Record) → IfSome o HandedNothing → [] ≡ pending_of o
begins_empty None nothing = refl
begins_empty (Some r) nothing = sym nothing.pending

-- what turns leave are some of those before, so what holds of each still does
left_keeps : (P : Scheduling → Type 0) (wait : Option Wait) (tolds : List TurnTrace) (waiting : List Scheduling)
    → All P waiting → All P (schedulings_left_by wait tolds waiting)
left_keeps P wait [] waiting all = all
left_keeps P wait (told ∷ rest) waiting all =
    left_keeps P wait rest (left_by_turn wait told waiting)
    (All-filter (λ s. not (takes_away told s.upcall)) P _
    (all_removed P (place_taken (takes wait told.call) (upcalls waiting)) waiting all))

-- an act that ends a life leaves none
act_keeps : (P : Scheduling → Type 0) (ended : Bool) (waiting : List Scheduling) → All P waiting
    → All P (cond ended [] waiting)
act_keeps P ended waiting all = cond_both ended _ _ (All P) (λ e. All-nil P) (λ e. all)

-- what holds of each holds of the one that is got
each_got : {X : Type 0} (P : X → Type 0) (xs : List X) (i : ℕ) (x : X) → slice_get xs i ≡ Some x → All P xs → P x
each_got P xs i x is all =
    subst P (get_or_from_slice_get xs i x x is) (all i x (slice_get_within xs i x is))

-- what holds of whatever element; and what follows from two facts of each
every : {X : Type 0} (P : X → Type 0) (xs : List X) → ((x : X) → P x) → All P xs
every P xs holds k d lt = holds (slice_index_or xs k d)

both : {X : Type 0} (P Q R : X → Type 0) (xs : List X) → ((x : X) → P x → Q x → R x) → All P xs → All Q xs → All R xs
both P Q R xs then p q k d lt = then (slice_index_or xs k d) (p k d lt) (q k d lt)

-- and none of them was taken away
abbrev StaysAfter : Scheduling → TurnTrace → Type 0
StaysAfter s told = takes_away told s.upcall ≡ false

left_stays : (wait : Option Wait) (tolds : List TurnTrace) (waiting : List Scheduling)
    → All (λ s. All (StaysAfter s) tolds) (schedulings_left_by wait tolds waiting)
left_stays wait [] waiting = every (λ s. All (StaysAfter s) []) waiting (λ s. All-nil (StaysAfter s))
left_stays wait (told ∷ rest) waiting =
    let first = left_by_turn wait told waiting in
    let stay = All-weaker (λ s. not (takes_away told s.upcall) ≡ true) (λ s. StaysAfter s told)
    (λ s. not-true (takes_away told s.upcall)) first (filter_passes (λ s. not (takes_away told s.upcall)) _) in
    both (λ s. StaysAfter s told) (λ s. All (StaysAfter s) rest) (λ s. All (StaysAfter s) (told ∷ rest))
    (schedulings_left_by wait rest first)
    (λ s here there. All-cons (StaysAfter s) told rest here there)
    (left_keeps (λ s. StaysAfter s told) wait rest first stay) (left_stays wait rest first)

-- what holds of each that was scheduled before a step holds of those that still wait later
scheduled_later : (Q : Scheduling → Type 0) (m step : ℕ) (us : List Scheduled) → m ≤ step
    → All (λ s. s.step < m → Q s) (scheduled_in step us)
scheduled_later Q m step us le =
    All-map (λ s. s.step < m → Q s) (λ u. record { step = step; upcall = u }) us
    (every (λ u. step < m → Q (record { step = step; upcall = u })) us (λ u below. absurd (omega (arith, below, le))))

module _ (slot : ℕ) where
  carried : (Q : Scheduling → Type 0) (m : ℕ) (choices : List Choice) (step : ℕ) (w : World) (waiting : List Scheduling)
      → m ≤ step → All (λ s. s.step < m → Q s) waiting
      → All (λ s. s.step < m → Q s) (schedulings_from slot step w choices waiting)
  carried Q m [] step w waiting le all = all
  carried Q m (choice ∷ choices) step w waiting le all =
      let P : Scheduling → Type 0 = λ s. s.step < m → Q s in
      carried Q m choices (step + 1) (after w choice) (schedulings_after slot step w choice waiting) (omega (arith, le))
      (All-append P (schedulings_left_in slot w choice waiting) _
      (act_keeps P (is_ended_in slot w choice) _ (left_keeps P (wait_in_slot slot w) (told_in slot w choice) waiting
      all))
      (scheduled_later Q m step _ le))

  -- a step takes it away neither by a turn nor by an operator's act
  abbrev StaysIn : World → Choice → Scheduling → Type 0
  StaysIn w choice s = All (StaysAfter s) (told_in slot w choice) × (is_ended_in slot w choice ≡ false)

  -- of those that a step leaves
  left_in : (w : World) (choice : Choice) (waiting : List Scheduling)
      → All (StaysIn w choice) (schedulings_left_in slot w choice waiting)
  left_in w choice waiting =
      cond_both (is_ended_in slot w choice) _ _ (All (StaysIn w choice)) (λ e. All-nil (StaysIn w choice))
      (λ e. All-weaker (λ s. All (StaysAfter s) (told_in slot w choice)) (StaysIn w choice) (λ s h. (h, e)) _
      (left_stays (wait_in_slot slot w) (told_in slot w choice) waiting))

  -- so no step took one away that was scheduled before it, and waits at the end
  last_at : (early late : List Choice) (choice : Choice) (step : ℕ) (w : World) (waiting : List Scheduling)
      → All (λ s. s.step < step + length early → StaysIn (after_all w early) choice s)
      (schedulings_from slot step w (early ++ (choice ∷ late)) waiting)
  last_at [] late choice step w waiting =
      let P : Scheduling → Type 0 = λ s. s.step < step + 0 → StaysIn w choice s in
      carried (StaysIn w choice) (step + 0) late (step + 1) (after w choice)
      (schedulings_after slot step w choice waiting) (omega arith)
      (All-append P (schedulings_left_in slot w choice waiting) _
      (All-weaker (StaysIn w choice) P (λ s h below. h) _ (left_in w choice waiting))
      (scheduled_later (StaysIn w choice) (step + 0) step _ (omega arith)))
  last_at (x ∷ early) late choice step w waiting =
      All-weaker (λ s. s.step < step + 1 + length early → StaysIn (after_all (after w x) early) choice s)
      (λ s. s.step < step + length (x ∷ early) → StaysIn (after_all (after w x) early) choice s)
      (λ s h below. h (omega (arith, below))) _
      (last_at early late choice (step + 1) (after w x) (schedulings_after slot step w x waiting))

pub deliveries_are_of_the_last : Promise → CallsAreOfEcall → DeliveriesAreOfTheLast
deliveries_are_of_the_last promise of_ecall w slot nothing = record {
  held = held;
  history = λ choices. history choices;
  one = λ choices choice.
      one_more promise slot (after_all w choices) choice (schedulings slot w choices)
      (good_after_all promise slot choices w good) (history choices);
  last = last;
  delivered = λ choices choice r s is after_it.
      let held_there : All (IsSubscribed r.own) r.own.inbox.pending = rw (is, IfSome) at (held choices) in
      let waits : upcalls (schedulings slot w choices) ≡ r.own.inbox.pending = history choices ∙ ap pending_of is in
      All-weaker (λ told. LeavesTaken (takes (wait_of r) told.call) r s)
      (λ told. let taking = takes (wait_of r) told.call in
      DeliversPlace slot w choices r s taking (place_taken taking r.own.inbox.pending))
      (λ told leaves. delivers_it choices r s (takes (wait_of r) told.call) (schedulings slot w choices) waits
      held_there
      (last choices) (place_taken (takes (wait_of r) told.call) r.own.inbox.pending) refl leaves)
      (told_in slot (after_all w choices) choice)
      (step_delivers of_ecall (after_all w choices) slot choice r s is after_it);
}
  where
    good : GoodIn slot w
    good = begins_good promise (slice_get w.records slot) nothing

    history : (choices : List Choice) → upcalls (schedulings slot w choices) ≡ pending_in slot (after_all w choices)
    history choices = history_from promise slot choices 0 w [] good (begins_empty (slice_get w.records slot) nothing)

    held : (choices : List Choice)
        → IfSome (slice_get (after_all w choices).records slot) (λ r. All (IsSubscribed r.own) r.own.inbox.pending)
    held choices =
        IfSome_then _ (good_after_all promise slot choices w good)
        (λ (r : Record) (there : IsGood r). there.sound.held)

    last : (choices : List Choice) → All (IsOfTheLast slot w choices) (schedulings slot w choices)
    last choices k d lt early late choice e below =
        subst (λ (cs : List Choice). All (λ s. s.step < 0 + length early → StaysIn slot (after_all w early) choice s)
        (schedulings slot w cs)) (sym e) (last_at slot early late choice 0 w []) k d lt (omega (arith, below))

    -- what a turn delivers is the one at the place that it takes
    delivers_it : (choices : List Choice) (r s : Record) (taking : Takes) (waiting : List Scheduling)
        → upcalls waiting ≡ r.own.inbox.pending → All (IsSubscribed r.own) r.own.inbox.pending
        → All (IsOfTheLast slot w choices) waiting → (o : Option ℕ) → place_taken taking r.own.inbox.pending ≡ o
        → LeavesTaken taking r s
        → IfSome (option_and_then (slice_get waiting) o) (IsDelivered slot w choices r s taking)
    delivers_it choices r s taking waiting waits held lasts None is leaves = tt
    delivers_it choices r s taking waiting waits held lasts (Some place) is leaves =
        by_scheduling (slice_get waiting place) refl
      where
        by_scheduling : (o : Option Scheduling) → slice_get waiting place ≡ o
            → IfSome o (IsDelivered slot w choices r s taking)
        by_scheduling None there = tt
        by_scheduling (Some scheduling) there =
            let u = scheduling.upcall in
            let pending : slice_get r.own.inbox.pending place ≡ Some u =
            rw (← waits, slice_get-map (λ (x : Scheduling). x.upcall) waiting place, there) refl in
            record {
              process = leaves place u is pending;
              held = each_got (IsSubscribed r.own) r.own.inbox.pending place u pending held;
              last = each_got (IsOfTheLast slot w choices) waiting place scheduling there lasts;
            }
