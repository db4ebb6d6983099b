-- The turns of a run by round robin are turns one after another, whatever comes between them: only a turn changes who
-- is present, and every step leaves as many records and the pace. So the worlds before turns follow from where the run
-- begins (`Follow`), by induction on its steps, and the scheduler's law speaks of each window of them.
use Rattle.kernel_laws.proofs.Cases.{cases_option}
use Rattle.std.proofs.lemmas.Bool.{cases_Bool}
use Rattle.std.proofs.Common.{inl, inr}
use Rattle.std.proofs.Common.{◌≡◌, ℕ, zero, suc, ◌≤◌, ◌<◌, Bool, true, false, cond, ◌&&◌, nat_lt, List, [], ◌∷◌, ◌++◌}
use Rattle.std.proofs.Common.{length, map, slice_get, slice_index_or, Option, None, Some, refl, sym, ap}
use Rattle.std.proofs.Common.{subst, ◌∙◌, arith, not}
use Rattle.std.specs.Prelude.{All}
use Rattle.std.specs.Option.{option_map, option_or}
use Rattle.std.proofs.lemmas.Bool.{false≢true}
use Rattle.std.proofs.lemmas.Bool.Decides.{nat_tests}
use Rattle.tk_base.specs.declared.limits.TheConstants.{SLOT_COUNT, STEP_LIMIT}
use Rattle.std.proofs.lemmas.List.{length-map, length-set}
use Rattle.std.proofs.lemmas.List.Elements.{All-nil, All-cons, All-head, All-tail, All-map, All-weaker}
use Rattle.tk_base.specs.declared.process.Choice.{Choice}
use Rattle.tk_base.specs.declared.process.Choice.TheVariants.{Run, Device, Pass}
use Rattle.tk_base.specs.declared.process.Dev.{Dev}
use Rattle.upcall_queue.specs.Pending.{due}
use Rattle.turn_scheduler.specs.Situation.{Situation}
use Rattle.turn_scheduler.specs.RoundRobin.{choice, next_slot, ready_device, used_after}
use Rattle.turn_scheduler.specs.Parts.{place_is_ready as is_ready_at}
use Rattle.turn_scheduler.specs.Turns.{AreTurns, GivesTurn, ReadyHasTurn}
use Rattle.kernel_model.specs.Record.{Record}
use Rattle.kernel_model.specs.Turn.{has_turn, may_turn}
use Rattle.kernel_model.specs.World.{Pace, Present, Stepped, World, after, carried_out, is_ready}
use Rattle.kernel_model.specs.Named.{can_run}
use Rattle.kernel_model.specs.World.{is_let, may_be_made, only_at, only_in, ran}
use Rattle.kernel_model.specs.Run.{may_go, next, ready_slots, situation_of}
use Rattle.kernel_model.specs.Replay.{chosen}
use Rattle.kernel_laws.specs.Fairness.{HasTurnAmong, IsReadyIn, ReadyProcessesHaveTurns, chooses_turn}
use Rattle.kernel_laws.specs.Fairness.{turn_worlds}
use Rattle.kernel_model.proofs.Places.{of_acted, of_stepped, of_world, stepped_else, stepped_ready}
use Rattle.kernel_model.proofs.Told.{told_length}
use Rattle.kernel_model.proofs.Runs.{going_is_let, going_is_ready, going_length, next_slot_ready, ready_runs}
use Rattle.std.proofs.Math.Bool.{and-false}

-- a world with as many records as another, and its pace
pub record SameBoard (w v : World) : Type 0 where
  pub records : length v.records ≡ length w.records
  pub pace : v.pace ≡ w.pace

same_then : (w v u : World) → SameBoard w v → SameBoard v u → SameBoard w u
same_then w v u first second = record { records = second.records ∙ first.records; pace = second.pace ∙ first.pace }

-- every step leaves the board as it was
pub step_same : (w : World) (c : Choice) → SameBoard w (after w c)
step_same w c =
    of_world (SameBoard w) w (record { records = refl; pace = refl })
    (λ slot t. record { records = length-set w.records slot t.after; pace = refl })
    (λ deed. record { records = told_length w.settings deed.told w.records; pace = refl })
    (λ ticks. record { records = refl; pace = refl }) c

-- and a device's step leaves whose turn the last one was, as a pass of time does
device_present : (w : World) (device : Dev) → (after w (Device device)).present ≡ w.present
device_present w device = of_acted (λ v. v.present ≡ w.present) w refl (λ deed. refl) device

pass_present : (w : World) (ticks : ℕ) → (after w (Pass ticks)).present ≡ w.present
unfolding carried_out
pass_present w ticks = of_stepped (λ (s : Stepped). s.after.present ≡ w.present) w (Pass ticks) refl (λ ready. refl)

-- a turn of a process that may have one is ready below the limit of steps
pub run_ready : (w : World) (slot : ℕ) → can_run (slice_get w.records slot) ≡ true → w.clock.steps < STEP_LIMIT
    → is_ready w (Run slot) ≡ true
unfolding may_be_made
run_ready w slot can below = ap (λ (b : Bool). nat_lt w.clock.steps STEP_LIMIT && b) can ∙ grind (arith, nat_tests)

-- a turn sets it, where there is a process in the slot
abbrev present_after : World → ℕ → Present
present_after w slot = record { slot = Some slot; used = used_after w.present.slot w.present.used w.pace.slice slot }

turn_present : (w : World) (slot : ℕ) → can_run (slice_get w.records slot) ≡ true → w.clock.steps < STEP_LIMIT
    → (after w (Run slot)).present ≡ present_after w slot
unfolding carried_out
turn_present w slot can below =
    ap (λ (s : Stepped). s.after.present) (stepped_ready w (Run slot) (run_ready w slot can below))
    ∙ (elim (slice_get w.records slot) as (λ o. can_run o ≡ true
    → (ran w slot o).after.present ≡ present_after w slot) [ None ↦ λ e. absurd (cc) | Some r ↦ λ e. refl ]) can

-- the round robin gives a turn to a process that may have one
chosen_slot : (device : Option Dev) (q : Option ℕ) (at : Option ℕ) (pass : ℕ → ℕ) (slot : ℕ)
    → option_or (option_map Device device) (option_or (option_map Run q) (option_map (λ n. Pass (pass n)) at))
    ≡ Some (Run slot) → q ≡ Some slot
chosen_slot (Some device) q at pass slot e = absurd (cc)
chosen_slot None (Some q) at pass slot e = cc
chosen_slot None None (Some n) pass slot e = absurd (cc)
chosen_slot None None None pass slot e = absurd (cc)

pub turn_is_ready : (w : World) (slot : ℕ) → next w ≡ Some (Run slot) → can_run (slice_get w.records slot) ≡ true
unfolding next choice
turn_is_ready w slot e =
    let s = situation_of w in
    ready_runs w.records slot (going_is_ready (only_in w) (map may_turn w.records) slot
    (next_slot_ready s.ready s.present s.used s.slice slot
    (chosen_slot (ready_device s.devices) (next_slot s.ready s.present s.used s.slice) s.next _ slot e)))

-- and with time partitions it is let
pub turn_is_let : (w : World) (slot : ℕ) → next w ≡ Some (Run slot) → is_let (only_in w) slot ≡ true
unfolding next choice
turn_is_let w slot e =
    let s = situation_of w in
    going_is_let (only_in w) (map may_turn w.records) slot (next_slot_ready s.ready s.present s.used s.slice slot
    (chosen_slot (ready_device s.devices) (next_slot s.ready s.present s.used s.slice) s.next _ slot e))

-- and its process is not held
pub turn_is_free : (w : World) (slot : ℕ) (r : Record) → slice_get w.records slot ≡ Some r → next w ≡ Some (Run slot)
    → r.process.held ≡ false
turn_is_free w slot r at e = by_test r.process.held (sym (ap can_run at) ∙ turn_is_ready w slot e)
  where
    by_test : (held : Bool) → (not held && has_turn r.process.state (due r.own.inbox)) ≡ true → held ≡ false
    by_test true e = absurd (false≢true e)
    by_test false e = refl

-- the first world of some, if there is one, has its last turn from where another has
FirstIsAt : World → List World → Type 0
FirstIsAt w [] = Unit {0}
FirstIsAt w (v ∷ vs) = v.present ≡ w.present

-- turns one after another, of which the first comes after a world
record Follow (w : World) (vs : List World) : Type 0 where
  turns : AreTurns (map situation_of vs)
  first : FirstIsAt w vs
  each : All (SameBoard w) vs

-- a world before a turn, and then those after it
begins : (w : World) (slot : ℕ) (vs : List World) → next w ≡ Some (Run slot) → w.clock.steps < STEP_LIMIT
    → Follow (after w (Run slot)) vs → Follow w (w ∷ vs)
unfolding FirstIsAt next
begins w slot vs e below follow = record {
  turns = by_rest vs follow;
  first = refl;
  each = All-cons (SameBoard w) w vs (record { records = refl; pace = refl })
      (All-weaker (SameBoard v) (SameBoard w) (λ u. same_then w v u (step_same w (Run slot))) vs follow.each);
}
  where
    v : World
    v = after w (Run slot)

    by_rest : (us : List World) → Follow v us → AreTurns (situation_of w ∷ map situation_of us)
    by_rest [] f = (slot, e)
    by_rest (u ∷ us) f =
        let present = f.first ∙ turn_present w slot (turn_is_ready w slot e) below in
        let same = same_then w v u (step_same w (Run slot)) (All-head (SameBoard v) u us f.each) in (
          (
            slot,
            e,
            ap (λ (p : Present). p.slot) present,
            ap (λ (p : Present). p.used) present,
            ap (λ (p : Pace). p.slice) same.pace,
          ),
          f.turns,
        )

-- a step that is no turn, and then turns
passes : (w v : World) (vs : List World) → SameBoard w v → v.present ≡ w.present → Follow v vs → Follow w vs
unfolding FirstIsAt
passes w v vs same present follow = record {
  turns = follow.turns;
  first = by_first vs follow.first;
  each = All-weaker (SameBoard v) (SameBoard w) (λ u. same_then w v u same) vs follow.each;
}
  where
    by_first : (us : List World) → FirstIsAt v us → FirstIsAt w us
    by_first [] f = tt
    by_first (u ∷ us) f = f ∙ present

nothing_follows : (w : World) → Follow w []
unfolding FirstIsAt
nothing_follows w = record { turns = tt; first = tt; each = All-nil (SameBoard w) }

-- the worlds before the turns of a run follow from where it begins
run_follows : (n : ℕ) (w : World) → Follow w (turn_worlds n w)
unfolding chosen
run_follows zero w = nothing_follows w
run_follows (suc n) w =
    elim (cases_option (next w)) [
      | inl none ↦ rw none (nothing_follows w)
      | inr c ↦ rw c.1 (by_choice c.0 c.1 (run_follows n (after w c.0)))
    ]
  where
    by_choice : (c : Choice) → next w ≡ Some c → Follow (after w c) (turn_worlds n (after w c))
        → let rest = turn_worlds n (after w c) in
        Follow w (cond (nat_lt w.clock.steps STEP_LIMIT && chooses_turn (next w)) (w ∷ rest) rest)
    by_choice (Device device) e later =
        rw (e, and-false (nat_lt w.clock.steps STEP_LIMIT))
        (passes w (after w (Device device)) _ (step_same w (Device device)) (device_present w device) later)
    by_choice (Pass ticks) e later =
        rw (e, and-false (nat_lt w.clock.steps STEP_LIMIT))
        (passes w (after w (Pass ticks)) _ (step_same w (Pass ticks)) (pass_present w ticks) later)
    by_choice (Run slot) e later =
        elim (cases_Bool (nat_lt w.clock.steps STEP_LIMIT)) [
          | inl below ↦ rw (below, e) (begins w slot _ e (grind (arith, nat_tests)) later)
          | inr none ↦
              let stays = ap (λ (s : Stepped). s.after.present) (stepped_else w (Run slot)
              (ap (λ (b : Bool). b && may_be_made w (Run slot)) none)) in
              rw none (passes w (after w (Run slot)) _ (step_same w (Run slot)) stays later)
        ]

-- turns one after another are so from each of them on, and up to each
turns_from : (vs us : List World) → AreTurns (map situation_of (vs ++ us)) → AreTurns (map situation_of us)
turns_from [] us turns = turns
turns_from (v ∷ vs) us turns = turns_from vs us (rest_turns (situation_of v) (map situation_of (vs ++ us)) turns)
  where
    rest_turns : (s : Situation) (ts : List Situation) → AreTurns (s ∷ ts) → AreTurns ts
    rest_turns s [] h = tt
    rest_turns s (t ∷ ts) h = h.1

turns_up_to : (vs us : List World) → AreTurns (map situation_of (vs ++ us)) → AreTurns (map situation_of vs)
turns_up_to [] us turns = tt
turns_up_to (v ∷ []) [] turns = turns
turns_up_to (v ∷ []) (u ∷ us) turns = (turns.0.0, turns.0.1)
turns_up_to (v ∷ u ∷ vs) us turns = (turns.0, turns_up_to (u ∷ vs) us turns.1)

-- so is what holds of each
pub split : {X : Type 0} (P : X → Type 0) (xs ys : List X) → All P (xs ++ ys) → All P xs × All P ys
split P [] ys each = (All-nil P, each)
split P (x ∷ xs) ys each =
    let rest = split P xs ys (All-tail P x (xs ++ ys) each) in
    (All-cons P x xs (All-head P x (xs ++ ys) each) rest.0, rest.1)

-- a window of such turns
in_window : (w : World) (earlier window later : List World) → Follow w (earlier ++ (window ++ later))
    → AreTurns (map situation_of window) × All (SameBoard w) window
in_window w earlier window later follow = (
  turns_up_to window later (turns_from earlier (window ++ later) follow.turns),
  (split (SameBoard w) window later (split (SameBoard w) earlier (window ++ later) follow.each).1).0,
)

slot_ready : (records : List Record) (slot : ℕ) → can_run (slice_get records slot) ≡ true
    → slice_index_or (map may_turn records) slot false ≡ true
slot_ready [] slot e = e
slot_ready (r ∷ rs) zero e = e
slot_ready (r ∷ rs) (suc slot) e = slot_ready rs slot e

-- what follows of each element by two things that hold of each
all_by_both : {X : Type 0} (P Q R : X → Type 0) → ((x : X) → P x → Q x → R x) → (xs : List X) → All P xs → All Q xs
    → All R xs
all_by_both P Q R both xs p q k d lt = both _ (p k d lt) (q k d lt)

-- and without time partitions it is in the situation
ready_plainly : (v : World) (slot : ℕ) → v.pace.window ≡ 0 → can_run (slice_get v.records slot) ≡ true
    → is_ready_at (ready_slots v) slot ≡ true
ready_plainly v slot none e =
    subst (λ (n : ℕ). is_ready_at (may_go (only_at v.clock.time n) (map may_turn v.records)) slot ≡ true) (sym none)
    (slot_ready v.records slot e)

-- a turn that is given in a situation is given in its world
turn_in_world : (slot : ℕ) (window : List World) (k : ℕ) (s : Situation) → k < length (map situation_of window)
    → slice_index_or (map situation_of window) k s ≡ s → GivesTurn s slot → HasTurnAmong next slot window
unfolding next
turn_in_world slot [] k s lt is gives = absurd (omega arith)
turn_in_world slot (v ∷ vs) zero s lt is gives =
    (0, v, omega arith, refl, subst (λ (t : Situation). GivesTurn t slot) (sym is) gives)
turn_in_world slot (v ∷ vs) (suc k) s lt is gives =
    let a = turn_in_world slot vs k s (omega arith) is gives in
    (suc a.0, a.1, omega (arith, a.2), a.3, a.4)

few_slots : (w v : World) → SameBoard w v → length w.records ≤ SLOT_COUNT → length (ready_slots v) ≤ SLOT_COUNT
few_slots w v same few =
    let mapped = length-map v.records may_turn in
    let goes = going_length (only_in v) (map may_turn v.records) in
    omega (arith, mapped, goes, same.records)

pub ready_processes_have_turns : ReadyHasTurn → ReadyProcessesHaveTurns
ready_processes_have_turns law w few one none n slot earlier window later split long ready =
    let has = in_window w earlier window later (subst (Follow w) split (run_follows n w)) in
    let mapped = length-map window situation_of in
    let a = law (map situation_of window) slot w.pace.slice (record {
      in_turn = has.0;
      ready = All-map (λ s. is_ready_at s.ready slot ≡ true) situation_of window
          (all_by_both (SameBoard w) (IsReadyIn slot) _ (λ v same. ready_plainly v slot
          (ap (λ (p : Pace). p.window) same.pace ∙ none)) window has.1 ready);
      slots = All-map (λ s. length s.ready ≤ SLOT_COUNT) situation_of window
          (All-weaker (SameBoard w) _ (λ v same. few_slots w v same few) window has.1);
      slice = All-map (λ s. s.slice ≡ w.pace.slice) situation_of window
          (All-weaker (SameBoard w) _ (λ v same. ap (λ (p : Pace). p.slice) same.pace) window has.1);
      one = one;
      long = omega (arith, long, mapped);
    }) in
    turn_in_world slot window a.0 a.1 a.2 a.3 a.4
