-- A run on its way: after i of n steps the text of the steps done stands behind what was gathered, and the rest of the
-- run is that from here (`RunsOn`). One step more, a quiet stretch more and a write each keep it; each exit (nothing
-- left, all made, a write that failed) takes from it the text, what is kept and the last world.
use Rattle.std.proofs.Common.{◌≡◌, ℕ, zero, suc, ◌+◌, ◌-◌, ◌*◌, ◌^◌, ◌<◌, ◌≤◌, List, [], ◌∷◌}
use Rattle.std.proofs.Common.{◌++◌, slice_get, Option, None, Some, refl, sym, ap, subst, ◌∙◌, arith}
use Rattle.std.proofs.Common.{append_assoc, append-nil, Result, add-one}
use Rattle.std.proofs.lemmas.Grind.{flat_map-append}
use Rattle.std.specs.List.{flat_map}
use Rattle.tk_base.specs.declared.limits.TheConstants.{PRINT_LIMIT}
use Rattle.tk_base.specs.declared.process.Choice.{Choice}
use Rattle.tk_base.specs.declared.process.Choice.TheVariants.{Run, Device, Pass}
use Rattle.tk_outside.specs.Sink.{SinkFacts}
use Rattle.tk_outside.specs.Writes.{WroteAll, WrotePart, Writes}
use Rattle.tk_outside.specs.declared.failed.Failed.{Failed}
use Rattle.gathered_output.specs.Laws.{PutsCompose}
use Rattle.gathered_output.specs.Puts.{PutBehind}
use Rattle.process_record.specs.declared.emit.Emit.{Emit}
use Rattle.kernel_model.specs.Record.{Record}
use Rattle.kernel_model.specs.Laws.{DevicesAnswerOne}
use Rattle.kernel_model.specs.World.{DeviceStep, Stepped, World, after, carried_out, device_step_of, done, labels, ran}
use Rattle.kernel_model.specs.Shown.{shown_by}
use Rattle.kernel_model.specs.Stretch.{IsStretch, RoundsJoin}
use Rattle.kernel_model.specs.Run.{Ran, next, round, printed, stays}
use Rattle.tock_cli.proofs.Runs.{of_stepped, printed_in, printed-round, round-stop, round-step, round-zero}
use Rattle.tock_cli.proofs.Runs.{round-more, steps-plus, steps-stop, steps-step, steps-zero}
use Rattle.kernel_model.proofs.Labels.{shown_by-printed}
use Rattle.tock_cli.proofs.RunWriter.{nothing_told, passed_on-steps, told_on-step, told_text-step}
use Rattle.run_text.specs.declared.mode.Mode.{Mode}
use Rattle.run_text.specs.declared.mode.Mode.TheVariants.{Boot}
use Rattle.tock_cli.specs.declared.teller.RunWriter.{RunWriter}
use Rattle.run_text.specs.RunText.{IsWorldOf}
use Rattle.run_text.specs.Parts.{Step, step_of, steps}
use Rattle.tock_cli.specs.RunWriter.{counted_bytes, passed_on, step_text, steps_text, telling_of, told_on, told_text}

-- After i steps of a run of n steps, from a world to another: what the mode tells of the steps done is put behind what
-- was gathered before, what it needs of them is kept, and the run goes on as the rest of it would from there.
pub record RunsOn {K : Type 0} (tells : K → SinkFacts) (mode : Mode) (n i : ℕ) (from here : World) (old now : K)
    (before gathered : List ℕ) (telling : RunWriter) : Type 0 where
  pub done : List Step
  pub wrote : PutBehind tells old now before gathered (steps_text mode done)
  pub kept : telling ≡ telling_of mode here (printed_in done)
  pub few : counted_bytes telling ≤ PRINT_LIMIT * i
  pub goes : steps n from ≡ done ++ steps (n - i) here
  pub leads : (round n from).world ≡ (round (n - i) here).world
  pub came : here ≡ (round i from).world
  pub steps_made : here.clock.steps ≤ from.clock.steps + i

-- a step counts once at most
steps-carried_out : (w : World) (c : Choice) → (carried_out w c).after.clock.steps ≤ w.clock.steps + 1
unfolding carried_out
steps-carried_out w (Run slot) = of_record (slice_get w.records slot)
  where
    of_record : (o : Option Record) → (ran w slot o).after.clock.steps ≤ w.clock.steps + 1
    of_record None = omega arith
    of_record (Some r) = omega arith
steps-carried_out w (Device device) = of_deed (device_step_of w device)
  where
    of_deed : (o : Option DeviceStep) → (done w o).after.clock.steps ≤ w.clock.steps + 1
    of_deed None = omega arith
    of_deed (Some deed) = omega arith
steps-carried_out w (Pass ticks) = omega arith

steps-after : (w : World) (c : Choice) → (after w c).clock.steps ≤ w.clock.steps + 1
steps-after w c =
    of_stepped (λ (s : Stepped). s.after.clock.steps ≤ w.clock.steps + 1) w c (omega arith) (steps-carried_out w c)

-- one step more
flat_map-more : (f : Step → List ℕ) (done : List Step) (step : Step)
    → flat_map f (done ++ step ∷ []) ≡ flat_map f done ++ f step
flat_map-more f done step =
    flat_map-append f done (step ∷ []) ∙ ap (λ (t : List ℕ). flat_map f done ++ t) (append-nil (f step))

module _ {K : Type 0} {tells : K → SinkFacts} {mode : Mode} {n i : ℕ} {from here : World} {old now : K}
    {before gathered : List ℕ} {telling : RunWriter}
    (r : RunsOn tells mode n i from here old now before gathered telling) where
  -- one choice fewer is left
  fewer : i < n → n - i ≡ suc (n - (i + 1))
  fewer h = omega arith

  -- the steps of the run, around the next one
  around : (c : Choice) → i < n → next here ≡ Some c
      → steps n from ≡ r.done ++ step_of here c ∷ steps (n - (i + 1)) (after here c)
  around c h e =
      r.goes ∙ rw (fewer h, steps-step (n - (i + 1)) here c e) refl

  -- where the rest of the run leads
  leads_on : (c : Choice) → i < n → next here ≡ Some c
      → (round n from).world ≡ (round (n - (i + 1)) (after here c)).world
  leads_on c h e =
      r.leads ∙ rw (fewer h, round-step (n - (i + 1)) here c e) refl

  -- the world after a step is one of the run
  came_on : (c : Choice) → next here ≡ Some c → after here c ≡ (round (suc i) from).world
  came_on c e = rw r.came (sym (round-more i from c (rw r.came at e)))

  -- what is counted has room for another step
  pub room : i < n → n < 2 ^ 32 → counted_bytes telling + PRINT_LIMIT < 2 ^ 64
  room h k = omega (arith, r.few)

  -- one step more
  module _ {c : Choice} {then : World} {later : K} {more : List ℕ} {step : Emit} {kept : RunWriter} where
    pub one_more : PutsCompose tells → DevicesAnswerOne → i < n → next here ≡ Some c → then ≡ after here c
        → step ≡ shown_by (labels here c) → PutBehind tells now later gathered more (told_text telling step)
        → kept ≡ told_on telling then step → counted_bytes kept ≤ counted_bytes telling + PRINT_LIMIT
        → RunsOn tells mode n (i + 1) from then old later before more kept
    one_more law one h e f s w k l =
        let bytes : step.printed.items ≡ printed (labels here c) = rw s (shown_by-printed (labels here c)) in
        let told = rw (told_text-step one mode here c (printed_in r.done) telling step r.kept s) at w in
        record {
          done = r.done ++ step_of here c ∷ [];
          wrote = rw (flat_map-more (step_text mode) r.done (step_of here c)) (law.put_then_put r.wrote told);
          kept = rw (flat_map-more (λ (x : Step). printed x.labels) r.done (step_of here c)) (k
              ∙ told_on-step mode here then (printed_in r.done) (printed (labels here c)) telling step r.kept bytes);
          few = omega (arith, r.few, l);
          goes = around c h e ∙ rw (f, append_assoc) refl;
          leads = leads_on c h e ∙ rw f refl;
          came = rw add-one (f ∙ came_on c e);
          steps_made = omega (arith, r.steps_made, ap (λ (v : World). v.clock.steps) f, steps-after here c);
        }

  -- a quiet stretch more
  ran_on : RoundsJoin → (k j : ℕ) (then : World) (kept : RunWriter) → k ≤ n - i → j ≡ i + k → IsStretch k here then
      → kept ≡ passed_on telling then → RunsOn tells mode n j from then old now before gathered kept
  ran_on law k j then kept h e s p = record {
    done = r.done ++ steps k here;
    wrote = subst (λ (text : List ℕ). PutBehind tells old now before gathered text) (sym same_text) r.wrote;
    kept = passed.0 ∙ ap (telling_of mode then) (sym same_printed);
    few = omega (arith, passed.1, r.few, e);
    goes = r.goes ∙ ap (λ (ss : List Step). r.done ++ ss)
        (steps-plus k (n - j) (n - i) here left ∙ ap (λ (v : World). steps k here ++ steps (n - j) v) (sym s.reached))
        ∙ sym (append_assoc r.done (steps k here) (steps (n - j) then));
    leads = r.leads ∙ ap (λ (q : Ran). q.world) (law k (n - j) (n - i) here left)
        ∙ ap (λ (v : World). (round (n - j) v).world) (sym s.reached);
    came = s.reached ∙ ap (λ (v : World). (round k v).world) r.came
        ∙ sym (ap (λ (q : Ran). q.world) (law i k j from e));
    steps_made = omega (arith, r.steps_made, s.steps, e);
  }
    where
      left : n - i ≡ k + (n - j)
      left = omega (arith, h, e)

      passed : (kept ≡ telling_of mode then (printed_in r.done)) × (counted_bytes kept ≡ counted_bytes telling)
      passed = passed_on-steps mode here then (printed_in r.done) telling kept r.kept p

      same_text : steps_text mode (r.done ++ steps k here) ≡ steps_text mode r.done
      same_text = flat_map-append (step_text mode) r.done (steps k here)
          ∙ ap (λ (t : List ℕ). steps_text mode r.done ++ t) (nothing_told mode k here then s)
          ∙ append-nil (steps_text mode r.done)

      same_printed : printed_in (r.done ++ steps k here) ≡ printed_in r.done
      same_printed = flat_map-append (λ (x : Step). printed x.labels) r.done (steps k here)
          ∙ ap (λ (t : List ℕ). printed_in r.done ++ t) (sym (printed-round k here) ∙ s.prints)
          ∙ append-nil (printed_in r.done)

  -- with the quiet stretch that comes before a step, which is still to be made
  pub stretched : {k : ℕ} {then : World} {kept : RunWriter} → RoundsJoin → i + k < n → IsStretch k here then
      → kept ≡ passed_on telling then
      → (i + k < n) × RunsOn tells mode n (i + k) from then old now before gathered kept
  stretched {k} {then} {kept} law left s p = (left, ran_on law k (i + k) then kept (omega (arith, left)) refl s p)

  -- so many steps, told otherwise
  pub made_so : (j : ℕ) → i ≡ j → RunsOn tells mode n j from here old now before gathered telling
  made_so j e = rw (← e) r

  -- what is gathered was written
  pub flushed : PutsCompose tells → (later : K) (after : List ℕ) → WroteAll tells now later gathered → after ≡ []
      → RunsOn tells mode n i from here old later before after telling
  flushed law later after w none = record {
    done = r.done;
    wrote = subst (λ (xs : List ℕ). PutBehind tells old later before xs (steps_text mode r.done)) (sym none)
        (law.put_then_flushed r.wrote w);
    kept = r.kept;
    few = r.few;
    goes = r.goes;
    leads = r.leads;
    came = r.came;
    steps_made = r.steps_made;
  }

  -- a part of what is gathered was written
  pub unflushed : PutsCompose tells → (later : K) → WrotePart tells now later gathered
      → WrotePart tells old later (before ++ steps_text mode (steps n from))
  unflushed law later w =
      rw (r.goes, flat_map-append (step_text mode) r.done (steps (n - i) here))
      (law.put_then_unflushed (steps_text mode (steps (n - i) here)) r.wrote w)

  -- a write that failed in a step
  module _ {c : Choice} {later : K} {step : Emit} where
    pub part : PutsCompose tells → DevicesAnswerOne → i < n → next here ≡ Some c → step ≡ shown_by (labels here c)
        → WrotePart tells now later (gathered ++ told_text telling step)
        → WrotePart tells old later (before ++ steps_text mode (steps n from))
    part law one h e s w =
        let rest : List Step = steps (n - (i + 1)) (after here c) in
        rw (around c h e, flat_map-append (step_text mode) r.done (step_of here c ∷ rest))
        (law.put_then_part (step_text mode (step_of here c)) (steps_text mode rest) r.wrote
        (rw (told_text-step one mode here c (printed_in r.done) telling step r.kept s) at w))

  -- a world of the run
  module _ {c : Choice} {then : World} where
    pub world_on : i < n → next here ≡ Some c → then ≡ after here c → IsWorldOf n from then
    world_on h e f = record { steps = suc i; within = omega arith; reached = f ∙ came_on c e }

  -- this world is one, too
  pub world_here : i ≤ n → IsWorldOf n from here
  world_here h = record { steps = i; within = h; reached = r.came }

  -- the whole run was made
  pub record IsWhole : Type 0 where
    pub text : PutBehind tells old now before gathered (steps_text mode (steps n from))
    pub kept_is : telling ≡ telling_of mode (round n from).world (printed (round n from).labels)
    pub last : here ≡ (round n from).world

  stopped : steps (n - i) here ≡ [] → round (n - i) here ≡ stays here → IsWhole
  stopped none e =
      let last : here ≡ (round n from).world = rw (r.leads, e) refl in
      let all : steps n from ≡ r.done = r.goes ∙ rw (none, append-nil r.done) refl in
      record {
        text = rw all r.wrote;
        kept_is = rw (printed-round n from, all, ← last) r.kept;
        last = last;
      }

  -- nothing is left to do
  pub over : next here ≡ None → IsWhole
  over e = stopped (steps-stop (n - i) here e) (round-stop (n - i) here e)

  -- all steps were made
  pub made : n ≤ i → IsWhole
  made h =
      let none : n - i ≡ zero = omega arith in
      stopped (rw none (steps-zero here)) (rw none (round-zero here))

-- a run that begins
pub begins : {K : Type 0} (tells : K → SinkFacts) (mode : Mode) (n : ℕ) (from : World) (old : K) (before : List ℕ)
    (telling : RunWriter) → PutsCompose tells → telling ≡ telling_of mode from []
    → RunsOn tells mode n 0 from from old old before before telling
begins tells mode n from old before telling law t =
    let whole : n ≡ n - 0 = omega arith in
    record {
      done = [];
      wrote = law.put_nothing old before;
      kept = t;
      few = rw t (nothing mode);
      goes = ap (λ (k : ℕ). steps k from) whole;
      leads = ap (λ (k : ℕ). (round k from).world) whole;
      came = rw (round-zero from) refl;
      steps_made = omega arith;
    }
  where
    nothing : (m : Mode) → counted_bytes (telling_of m from []) ≤ 0
    nothing Boot = omega arith
    nothing m = omega arith

-- what was put behind nothing is written, and nothing else
pub put_and_flushed : {K : Type 0} {tells : K → SinkFacts} {a b : K} {gathered text : List ℕ} → PutsCompose tells
    → (c : K) (r : Result (Unit {0}) Failed) → PutBehind tells a b [] gathered text → Writes tells b c gathered r
    → Writes tells a c text r
put_and_flushed {gathered = gathered} {text = text} law c r p w =
    rw (append-nil text) at (law.put_then_writes c [] r p (rw (append-nil gathered) w))
