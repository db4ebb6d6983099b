-- The round robin in a quiet stretch: where a slot has the next turn, and no device step is ready on the way, its next
-- k instructions are the next k steps of the run. Each such turn leaves the slot present, in its slice, so it is the
-- next choice again; the stretch goes on from there, by induction on k.
use Rattle.std.proofs.lemmas.Bool.{cond_both}
use Rattle.std.proofs.Common.{inl, inr}
use Rattle.kernel_laws.proofs.Cases.{cases_option}
use Rattle.std.proofs.Common.{◌≡◌, ℕ, zero, suc, ◌+◌, ◌-◌, ◌<◌, ◌≤◌, true, false, ◌&&◌, ◌==◌, nat_lt}
use Rattle.std.proofs.Common.{map, List, [], ◌∷◌, length, ◌++◌, slice_get, slice_set, Option, None}
use Rattle.std.proofs.Common.{Some, All, refl, sym, ap, ap₂, subst, ◌∙◌, arith, append_assoc, length-append}
use Rattle.std.proofs.lemmas.Bool.Decides.{nat_tests}
use Rattle.std.proofs.lemmas.Grind.{flat_map-append}
use Rattle.std.proofs.lemmas.List.{set-set}
use Rattle.std.proofs.lemmas.List.Elements.{All-nil, All-cons, All-append}
use Rattle.std.proofs.lemmas.Option.{slice_get-map, slice_get_within, get_or_from_slice_get}
use Rattle.rv32_model.specs.declared.turn_end.TurnEnd.TheVariants.{Went}
use Rattle.tk_base.specs.declared.limits.TheConstants.{STEP_LIMIT}
use Rattle.tk_base.specs.declared.process.Choice.TheVariants.{Run}
use Rattle.process_record.specs.declared.process.State.TheVariants.{Running}
use Rattle.turn_scheduler.specs.RoundRobin.{choice, next_slot, ready_device}
use Rattle.turn_scheduler.specs.Parts.{place_is_ready as is_ready_at}
use Rattle.turn_scheduler.specs.RoundRobin.{used_after}
use Rattle.kernel_model.specs.declared.settings.Settings.{Settings}
use Rattle.kernel_model.specs.Record.{Record, instruction}
use Rattle.kernel_model.specs.Turn.{TurnTrace, may_turn, turned}
use Rattle.kernel_model.specs.World.{World, Label, carried_out, is_let, is_ready}
use Rattle.kernel_model.specs.World.{only_in}
use Rattle.kernel_model.proofs.Runs.{ready_goes}
use Rattle.kernel_model.specs.World.{stepped, turn_label}
use Rattle.kernel_model.specs.Run.{Ran, next, printed, ready_devices, ready_slots, round, stays}
use Rattle.kernel_model.specs.Parts.{on_choice}
use Rattle.kernel_model.specs.Run.{runs_on}
use Rattle.kernel_model.specs.Parts.{told_first}
use Rattle.kernel_model.specs.Stretch.{AllGo, IsQuietTurn, IsNextOnTheWay, IsStretch, NoneIsStretch}
use Rattle.kernel_model.specs.Stretch.{PresentIsNextOnTheWay, PresentStaysOn}
use Rattle.kernel_model.specs.Stretch.{RoundIsStretch, RoundsJoin, StretchesJoin, after_instructions, after_stretch}
use Rattle.kernel_model.specs.Stretch.{at_turn, instruction_made}
use Rattle.kernel_model.proofs.Places.{slice_get-set_same, stepped_ready, free_turned}
use Rattle.kernel_laws.proofs.Turns.{run_ready, turn_is_free, turn_is_ready}

set-same : {X : Type 0} (xs : List X) (i : ℕ) (x : X) → slice_get xs i ≡ Some x → slice_set xs i x ≡ xs
set-same [] i x e = refl
set-same (y ∷ ys) zero x e = let same : y ≡ x = cc in ap (λ z. z ∷ ys) (sym same)
set-same (y ∷ ys) (suc i) x e = ap (λ zs. y ∷ zs) (set-same ys i x e)

none_more : (n : ℕ) → n + 0 ≡ n
none_more n = omega arith

pub one_then : (n k : ℕ) → n + suc k ≡ n + 1 + k
one_then n k = omega arith

abbrev quiet_told : Record → TurnTrace
quiet_told r = record { accesses = (instruction r).accesses; call = None; flag = None; denial = None }

-- the turn of a process that runs, where its instruction goes
went : (s : Settings) (time : ℕ) (r : Record) → r.process.held ≡ false → r.process.state ≡ Running
    → (instruction r).end ≡ Went
    → turned s time r ≡ record { after = instruction_made r; told = quiet_told r; acts = [] }
went s time r free runs e =
    rw (free_turned s time r free, runs, e)

-- a slot whose process runs is ready where it is let
pub runs_and_goes : (w : World) (slot : ℕ) (r : Record) → slice_get w.records slot ≡ Some r → r.process.state ≡ Running
    → r.process.held ≡ false → is_let (only_in w) slot ≡ true → is_ready_at (ready_slots w) slot ≡ true
runs_and_goes w slot r at runs free lets =
    ready_goes (only_in w) (map may_turn w.records) slot lets
    (get_or_from_slice_get (map may_turn w.records) slot true false
    (slice_get-map may_turn w.records slot ∙ rw (at, free, runs)))

-- a present slot whose process runs goes on with its slice
pub stays_on : PresentStaysOn
unfolding next_slot
stays_on w slot r p at runs free u lets =
    let left : nat_lt w.present.used w.pace.slice ≡ true = grind (arith, nat_tests) in
    rw (p, runs_and_goes w slot r at runs free lets, left)

-- the slot that has the next turn of a process is the next choice, where no device step is ready
pub chosen_next : (w : World) (slot : ℕ) → ready_device (ready_devices w) ≡ None
    → next_slot (ready_slots w) w.present.slot w.present.used w.pace.slice ≡ Some slot → next w ≡ Some (Run slot)
unfolding next choice
chosen_next w slot calm turn =
    rw (calm, turn)

-- a turn of a process that runs is ready below the limit of steps
runs_ready : (w : World) (slot : ℕ) (r : Record) → slice_get w.records slot ≡ Some r → r.process.state ≡ Running
    → r.process.held ≡ false → w.clock.steps < STEP_LIMIT → is_ready w (Run slot) ≡ true
runs_ready w slot r at runs free below =
    run_ready w slot (rw (at, free, runs)) below

module _ (w : World) (slot : ℕ) (r : Record) (p : w.present.slot ≡ Some slot) (at : slice_get w.records slot ≡ Some r)
    (runs : r.process.state ≡ Running) (free : r.process.held ≡ false) where
  -- no turn leads anywhere
  none_made : after_stretch 0 w slot r ≡ w
  none_made =
      rw (set-same w.records slot r at, none_more w.clock.time, none_more w.clock.steps, none_more w.present.used, ← p)

  -- the present slot goes on
  goes_on_next : ready_device (ready_devices w) ≡ None → w.present.used < w.pace.slice
      → is_let (only_in w) slot ≡ true → next w ≡ Some (Run slot)
  goes_on_next calm u lets = chosen_next w slot calm (stays_on w slot r p at runs free u lets)

  used_more : w.present.used < w.pace.slice
      → used_after w.present.slot w.present.used w.pace.slice slot ≡ w.present.used + 1
  used_more u = ap (λ (o : Option ℕ). used_after o w.present.used w.pace.slice slot) p ∙ grind (arith, nat_tests)

  -- its step is a stretch of one
  one_step : w.clock.steps < STEP_LIMIT → w.present.used < w.pace.slice → (instruction r).end ≡ Went
      → stepped w (Run slot)
      ≡ record {
        after = after_stretch 1 w slot (instruction_made r);
        labels = turn_label slot w.clock.time (quiet_told r) ∷ [];
      }
  unfolding carried_out
  one_step below u e =
      rw (
        stepped_ready w (Run slot) (runs_ready w slot r at runs free below),
        at,
        went w.settings w.clock.time r free runs e,
        used_more u,
      )

  -- the stretch goes on with the rest from there
  pub together : (k : ℕ) (later : Record)
      → after_stretch k (after_stretch 1 w slot (instruction_made r)) slot later ≡ after_stretch (suc k) w slot later
  together k later =
      rw (
        set-set w.records slot (instruction_made r) later,
        one_then w.clock.time k,
        one_then w.clock.steps k,
        one_then w.present.used k,
      )

  -- a stretch that goes on after one step
  one_first : (k : ℕ) (later : Record) → w.clock.steps < STEP_LIMIT → next w ≡ Some (Run slot)
      → w.present.used < w.pace.slice → (instruction r).end ≡ Went
      → IsStretch k (after_stretch 1 w slot (instruction_made r))
      (after_stretch k (after_stretch 1 w slot (instruction_made r)) slot later)
      → IsStretch (suc k) w (after_stretch (suc k) w slot later)
  unfolding round
  one_first k later below chosen u e rest =
      let there = after_stretch 1 w slot (instruction_made r) in
      let label = turn_label slot w.clock.time (quiet_told r) in
      let first : round (suc k) w ≡ told_first (label ∷ []) (round k there)
      = ap (on_choice (stays w) (λ c. runs_on (round k) (stepped w c))) chosen
      ∙ ap (runs_on (round k)) (one_step below u e) in
      record {
        reached = sym (together k later) ∙ rest.reached ∙ sym (ap (λ (q : Ran). q.world) first);
        turns = ap (λ (q : Ran). length q.labels) first ∙ ap suc rest.turns;
        quiet = subst (λ (q : Ran). All IsQuietTurn q.labels) (sym first)
            (All-cons IsQuietTurn label (round k there).labels (refl, refl, refl, refl, refl) rest.quiet);
        prints = ap (λ (q : Ran). printed q.labels) first ∙ rest.prints;
        time = refl;
        steps = refl;
      }

no_stretch : (w : World) → IsStretch 0 w w
unfolding round
no_stretch w = record {
  reached = refl;
  turns = refl;
  quiet = All-nil IsQuietTurn;
  prints = refl;
  time = sym (none_more w.clock.time);
  steps = sym (none_more w.clock.steps);
}

pub none_is_stretch : NoneIsStretch
none_is_stretch w v e = subst (λ (x : World). IsStretch 0 w x) (sym e) (no_stretch w)

-- the present slot's turns
present_stretch : (k slot : ℕ) (w : World) (r : Record) → w.clock.steps + k ≤ STEP_LIMIT → w.present.slot ≡ Some slot
    → slice_get w.records slot ≡ Some r → r.process.state ≡ Running → r.process.held ≡ false
    → w.present.used + k ≤ w.pace.slice → AllGo k r
    → IsNextOnTheWay k w slot r → IsStretch k w (after_stretch k w slot (after_instructions k r))
unfolding after_instructions
present_stretch zero slot w r limit p at runs free u go chosen =
    subst (IsStretch 0 w) (sym (none_made w slot r p at runs free)) (no_stretch w)
present_stretch (suc k) slot w r limit p at runs free u go chosen =
    let there = after_stretch 1 w slot (instruction_made r) in
    one_first w slot r p at runs free k (after_instructions k (instruction_made r)) (omega (arith, limit))
    (ap next (sym (none_made w slot r p at runs free)) ∙ chosen 0 (omega arith))
    (omega (arith, u)) (go 0 (omega arith))
    (present_stretch k slot there (instruction_made r) (omega (arith, limit)) refl
    (slice_get-set_same w.records slot (instruction_made r) (slice_get_within w.records slot r at)) runs free
    (omega (arith, u))
    (λ j h. go (suc j) (omega (arith, h)))
    (λ j h. ap next (together w slot r p at runs free j (after_instructions j (instruction_made r)))
    ∙ chosen (suc j) (omega (arith, h))))

-- instructions leave the process running
runs_still : (k : ℕ) (r : Record) → (after_instructions k r).process.state ≡ r.process.state
unfolding after_instructions
runs_still zero r = refl
runs_still (suc k) r = runs_still k (instruction_made r)

-- and not held
free_still : (k : ℕ) (r : Record) → (after_instructions k r).process.held ≡ r.process.held
unfolding after_instructions
free_still zero r = refl
free_still (suc k) r = free_still k (instruction_made r)

pub present_is_next_on_the_way : PresentIsNextOnTheWay
present_is_next_on_the_way k slot w r p at runs free u lets none j h =
    let later = after_instructions j r in
    goes_on_next (after_stretch j w slot later) slot later refl
    (slice_get-set_same w.records slot later (slice_get_within w.records slot r at)) (runs_still j r ∙ runs)
    (free_still j r ∙ free) (none j h)
    (omega (arith, u, h)) (lets j h)

-- a slot that has the next turn uses one turn of its slice by it, whether it is the present one already or not
uses_one : (o : Option ℕ) (used slice slot : ℕ) → used_after o used slice slot - 1 < slice
    → used_after (Some slot) (used_after o used slice slot - 1) slice slot ≡ used_after o used slice slot
uses_one o used slice slot u = begins ∙ one_more o
  where
    begins : used_after (Some slot) (used_after o used slice slot - 1) slice slot ≡ used_after o used slice slot - 1 + 1
    begins = grind (arith, nat_tests)

    one_more : (o : Option ℕ) → used_after o used slice slot - 1 + 1 ≡ used_after o used slice slot
    one_more None = refl
    one_more (Some present) =
        cond_both ((present == slot) && nat_lt used slice) (used + 1) 1 (λ n. n - 1 + 1 ≡ n) (λ e. omega arith)
        (λ e. refl)

-- so both worlds go on in the same way
same_round : (n slot : ℕ) (w : World) (r : Record) → w.clock.steps < STEP_LIMIT → next w ≡ Some (Run slot)
    → next (at_turn w slot) ≡ Some (Run slot) → slice_get w.records slot ≡ Some r
    → (at_turn w slot).present.used < w.pace.slice → round (suc n) (at_turn w slot) ≡ round (suc n) w
unfolding round carried_out
same_round n slot w r below f g at u =
    let can = turn_is_ready w slot f in
    rw (
      g,
      f,
      stepped_ready (at_turn w slot) (Run slot) (run_ready (at_turn w slot) slot can below),
      stepped_ready w (Run slot) (run_ready w slot can below),
      at,
      uses_one w.present.slot w.present.used w.pace.slice slot u,
    )

pub round_is_stretch : RoundIsStretch
unfolding after_instructions
round_is_stretch zero slot w r some limit f at runs u go chosen = absurd (omega (arith, some))
round_is_stretch (suc n) slot w r some limit f at runs u go chosen =
    let free = turn_is_free w slot r at f in
    let first : next (at_turn w slot) ≡ Some (Run slot) =
    ap next (sym (none_made (at_turn w slot) slot r refl at runs free)) ∙ chosen 0 (omega arith) in
    let left : (at_turn w slot).present.used < w.pace.slice = omega (arith, u) in
    let s = present_stretch (suc n) slot (at_turn w slot) r limit refl at runs free u go chosen in
    let same = same_round n slot w r (omega (arith, limit)) f first at left in
    record {
      reached = s.reached ∙ ap (λ (q : Ran). q.world) same;
      turns = sym (ap (λ (q : Ran). length q.labels) same) ∙ s.turns;
      quiet = subst (λ (q : Ran). All IsQuietTurn q.labels) same s.quiet;
      prints = sym (ap (λ (q : Ran). printed q.labels) same) ∙ s.prints;
      time = s.time;
      steps = s.steps;
    }

-- a run that stops at once
stops : (m : ℕ) (w : World) → next w ≡ None → round m w ≡ stays w
unfolding round
stops zero w f = refl
stops (suc m) w f = ap (on_choice (stays w) (λ c. runs_on (round m) (stepped w c))) f

-- a run in two parts
pub rounds_join : RoundsJoin
unfolding round
rounds_join zero m n w e = let same : n ≡ m = omega (arith, e) in ap (λ (j : ℕ). round j w) same
rounds_join (suc k) m n w e =
    let more : n ≡ suc (k + m) = omega (arith, e) in
    rw more (elim (cases_option (next w)) [
      | inl none ↦ rw none (sym (stops m w none))
      | inr c ↦
          let s = stepped w c.0 in
          rw c.1 (ap (told_first s.labels) (rounds_join k m (k + m) s.after refl)
          ∙ ap (λ (ls : List Label). record { world = (round m (round k s.after).world).world; labels = ls })
          (sym (append_assoc s.labels (round k s.after).labels (round m (round k s.after).world).labels)))
    ])

-- a stretch after another
pub stretches_join : StretchesJoin
stretches_join k m n w v u e first second =
    let there : v ≡ (round k w).world = first.reached in
    let whole : round n w ≡ told_first (round k w).labels (round m v) =
    rounds_join k m n w e ∙ ap (λ (x : World). told_first (round k w).labels (round m x)) (sym there) in
    let labels : (round n w).labels ≡ (round k w).labels ++ (round m v).labels = ap (λ (q : Ran). q.labels) whole in
    record {
      reached = second.reached ∙ sym (ap (λ (q : Ran). q.world) whole);
      turns = ap length labels ∙ length-append (round k w).labels (round m v).labels
          ∙ ap₂ (λ (a b : ℕ). a + b) first.turns second.turns ∙ sym e;
      quiet = subst (λ (ls : List Label). All IsQuietTurn ls) (sym labels)
          (All-append IsQuietTurn (round k w).labels (round m v).labels first.quiet second.quiet);
      prints = ap printed labels ∙ flat_map-append _ (round k w).labels (round m v).labels
          ∙ ap₂ (λ (a b : List ℕ). a ++ b) first.prints second.prints;
      time = second.time ∙ ap (λ (t : ℕ). t + m) first.time ∙ omega (arith, e);
      steps = second.steps ∙ ap (λ (t : ℕ). t + m) first.steps ∙ omega (arith, e);
    }
