-- A board that goes on to a time. Whether a step ends within it is seen before the step is made (`within-run` and its
-- like), and k quiet steps may be made at once, since none of them ends later than all do and nothing is told of them:
-- an induction on k (`leap`). The loop keeps `GoesTo`: what was told so far was written, and from here it goes on as
-- from the beginning.
use Rattle.std.proofs.lemmas.Bool.{and_from, cases_lt, cond_both, le-leb, le-ltb, lt-ltb}
use Rattle.std.proofs.Common.{◌≡◌, ℕ, zero, suc, ◌+◌, ◌-◌, ◌<◌, ◌≤◌, nat_lt, nat_le, ◌==◌, min, Bool}
use Rattle.std.proofs.Common.{true, false, List, [], ◌∷◌, ◌++◌, length, slice_get, Option, None, Some, is_some}
use Rattle.std.proofs.Common.{All, inl, inr}
use Rattle.std.proofs.Common.{refl, sym, ap, ap₂, ◌∙◌, arith, append_assoc, append-nil}
use Rattle.std.proofs.lemmas.Bool.{false≢true}
use Rattle.std.proofs.lemmas.Bool.Decides.{nat_tests}
use Rattle.std.proofs.lemmas.List.Elements.{All-cons, All-head, All-nil, All-tail}
use Rattle.tk_base.specs.declared.limits.TheConstants.{STEP_LIMIT}
use Rattle.tk_base.specs.declared.process.Choice.{Choice}
use Rattle.tk_base.specs.declared.process.Choice.TheVariants.{Run, Device, Pass}
use Rattle.tk_base.specs.declared.process.Dev.{Dev}
use Rattle.tk_outside.specs.Sink.{SinkFacts}
use Rattle.tk_outside.specs.Writes.{WroteAll, WrotePart}
use Rattle.tk_outside.specs.Laws.{WritesCompose}
use Rattle.process_record.specs.declared.emit.Emit.{Emit}
use Rattle.board_report.specs.Trace.{lines_of_step, trace_text}
use Rattle.kernel_model.specs.Record.{Record}
use Rattle.kernel_model.specs.Turn.{Act, Event}
use Rattle.kernel_model.specs.Turn.{is_turn}
use Rattle.kernel_model.specs.World.{DeviceStep, Label, Stepped, World, after, carried_out, device_step_of, done}
use Rattle.kernel_model.specs.World.{is_ready, labels, ran}
use Rattle.kernel_model.specs.Named.{can_run}
use Rattle.kernel_model.specs.Run.{next, printed, round}
use Rattle.kernel_model.specs.Shown.{act_shown, shown_by}
use Rattle.kernel_model.specs.Stretch.{IsQuietTurn, IsStretch}
use Rattle.kernel_model.proofs.Labels.{shown_by-printed}
use Rattle.kernel_model.proofs.Places.{may_where_ready, of_stepped, stepped_ready}
use Rattle.tock_cli.proofs.Runs.{round-step}
use Rattle.board_views.specs.declared.times.Reach.{Reach}
use Rattle.board_views.specs.Stops.{within}
use Rattle.board_views.specs.Times.{choice_within, is_within, only_within, to_time, told_if, told_reaching, told_text}
use Rattle.board_views.specs.Times.{told_to, uncalled_text, world_reached}
use Rattle.board_views.proofs.Stretches.{lead-step, lead-stop, lead-zero}

-- so many ticks later it is not past a time that is as many ticks ahead
in_time : (ticks now time : ℕ) → now < time → nat_le ticks (time - now) ≡ nat_le (now + ticks) time
in_time ticks now time h = grind (arith, nat_tests)

-- when a step ends that may be made
run_ends : (w : World) (slot : ℕ) → is_ready w (Run slot) ≡ true → (after w (Run slot)).clock.time ≡ w.clock.time + 1
unfolding carried_out
run_ends w slot ready =
    rw (after, stepped_ready w (Run slot) ready) (by_record (slice_get w.records slot) (may_where_ready w slot ready))
  where
    by_record : (o : Option Record) → can_run o ≡ true → (ran w slot o).after.clock.time ≡ w.clock.time + 1
    by_record None can = absurd (cc)
    by_record (Some r) can = refl

device_ends : (w : World) (device : Dev) → (after w (Device device)).clock.time ≡ w.clock.time
unfolding carried_out
device_ends w device =
    of_stepped (λ (s : Stepped). s.after.clock.time ≡ w.clock.time) w (Device device) refl
    (λ ready. by_deed (device_step_of w device))
  where
    by_deed : (o : Option DeviceStep) → (done w o).after.clock.time ≡ w.clock.time
    by_deed None = refl
    by_deed (Some deed) = refl

pub pass_ends : (w : World) (ticks : ℕ) → is_ready w (Pass ticks) ≡ true
    → (after w (Pass ticks)).clock.time ≡ w.clock.time + ticks
unfolding carried_out
pass_ends w ticks ready = rw (after, stepped_ready w (Pass ticks) ready)

-- so whether a step is within a time is seen before it is made
pub late_choice : (time : ℕ) (w : World) (c : Choice) → time ≤ w.clock.time → false ≡ is_within time w c
late_choice time w c h = rw (le-ltb w.clock.time time h)

pub within-run : (time : ℕ) (w : World) (slot : ℕ) → is_ready w (Run slot) ≡ true → w.clock.time < time
    → true ≡ is_within time w (Run slot)
within-run time w slot ready h =
    rw (lt-ltb w.clock.time time h, run_ends w slot ready, le-leb (w.clock.time + 1) time (omega arith))

pub within-device : (time : ℕ) (w : World) (device : Dev) → w.clock.time < time
    → true ≡ is_within time w (Device device)
within-device time w device h =
    rw (lt-ltb w.clock.time time h, device_ends w device, le-leb w.clock.time time (omega arith))

pub within-pass : (time : ℕ) (w : World) (ticks : ℕ) → is_ready w (Pass ticks) ≡ true → w.clock.time < time
    → nat_le ticks (time - w.clock.time) ≡ is_within time w (Pass ticks)
within-pass time w ticks ready h =
    rw (in_time ticks w.clock.time time h, lt-ltb w.clock.time time h, pass_ends w ticks ready)

-- time never goes back, and no step is taken back
pub record IsOn (w v : World) : Type 0 where
  pub time : w.clock.time ≤ v.clock.time
  pub steps : w.clock.steps ≤ v.clock.steps

stays_on : (w : World) → IsOn w w
stays_on w = record { time = omega arith; steps = omega arith }

made_on : (w : World) (c : Choice) → IsOn w (carried_out w c).after
unfolding carried_out
made_on w (Run slot) = by_record (slice_get w.records slot)
  where
    by_record : (o : Option Record) → IsOn w (ran w slot o).after
    by_record None = stays_on w
    by_record (Some r) = record { time = omega arith; steps = omega arith }
made_on w (Device device) = by_deed (device_step_of w device)
  where
    by_deed : (o : Option DeviceStep) → IsOn w (done w o).after
    by_deed None = stays_on w
    by_deed (Some deed) = record { time = omega arith; steps = omega arith }
made_on w (Pass ticks) = record { time = omega arith; steps = omega arith }

pub step_on : (w : World) (c : Choice) → IsOn w (after w c)
step_on w c = of_stepped (λ (s : Stepped). IsOn w s.after) w c (stays_on w) (λ ready. made_on w c)

joins_on : (w v u : World) → IsOn w v → IsOn v u → IsOn w u
joins_on w v u h k = record { time = omega (arith, h.time, k.time); steps = omega (arith, h.steps, k.steps) }

pub run_on : (k : ℕ) (w : World) → IsOn w (round k w).world
run_on zero w = rw (lead-zero w) (stays_on w)
run_on (suc k) w = by_next (next w) refl (λ c. run_on k (after w c))
  where
    by_next : (o : Option Choice) → next w ≡ o → ((c : Choice) → IsOn (after w c) (round k (after w c)).world)
        → IsOn w (round (suc k) w).world
    by_next None e later = rw (lead-stop (suc k) w e) (stays_on w)
    by_next (Some c) e later = rw (lead-step k w c e) (joins_on w (after w c) _ (step_on w c) (later c))

-- where no choice is left, or the limit of steps is reached, or the next step comes too late, none is within the time
none_where : (time : ℕ) (w : World) → only_within time w (next w) ≡ None → choice_within time w ≡ None
none_where time w none =
    cond_both (nat_lt w.clock.steps STEP_LIMIT) (next w) None (λ (o : Option Choice). only_within time w o ≡ None)
    (λ may. none) (λ no. refl)

pub none-over : (time : ℕ) (w : World) → next w ≡ None → choice_within time w ≡ None
none-over time w e = none_where time w (rw e)

pub none-limit : (time : ℕ) (w : World) → STEP_LIMIT ≤ w.clock.steps → choice_within time w ≡ None
none-limit time w h = rw (le-ltb w.clock.steps STEP_LIMIT h)

pub none-late : (time : ℕ) (w : World) (c : Choice) → next w ≡ Some c → is_within time w c ≡ false
    → choice_within time w ≡ None
none-late time w c e l = none_where time w (rw (e, l))

pub none-begins_late : (time : ℕ) (w : World) → time ≤ w.clock.time → choice_within time w ≡ None
none-begins_late time w h = none_where time w (by_next (next w))
  where
    by_next : (o : Option Choice) → only_within time w o ≡ None
    by_next None = refl
    by_next (Some c) = rw (← late_choice time w c h)

-- and where it is, it is the next one
pub one-within : (time : ℕ) (w : World) (c : Choice) → next w ≡ Some c → w.clock.steps < STEP_LIMIT
    → is_within time w c ≡ true → choice_within time w ≡ Some c
one-within time w c e h i = rw (lt-ltb w.clock.steps STEP_LIMIT h, e, i)

-- a board that goes no further, and one that makes a step
pub to_time-none : (n time : ℕ) (w : World) → choice_within time w ≡ None → to_time n time w ≡ w
unfolding to_time
to_time-none zero time w e = refl
to_time-none (suc n) time w e = rw e

pub to_time-step : (n time : ℕ) (w : World) (c : Choice) → choice_within time w ≡ Some c
    → to_time (suc n) time w ≡ to_time n time (after w c)
unfolding to_time
to_time-step n time w c e = rw e

told_to-none : (n time : ℕ) (w : World) → choice_within time w ≡ None → told_to n time w ≡ []
unfolding told_to
told_to-none zero time w e = refl
told_to-none (suc n) time w e = rw e

told_to-step : (n time : ℕ) (w : World) (c : Choice) → choice_within time w ≡ Some c
    → told_to (suc n) time w ≡ told_text w c ++ told_to n time (after w c)
unfolding told_to
told_to-step n time w c e = rw e

-- quiet turns print nothing, and nothing is told of them
quiet_prints : (ls : List Label) → All IsQuietTurn ls → printed ls ≡ []
quiet_prints [] all = refl
quiet_prints (label ∷ ls) all =
    ap₂ (λ (a b : List ℕ). a ++ b) (All-head IsQuietTurn label ls all).1
    (quiet_prints ls (All-tail IsQuietTurn label ls all))

turn_is_no_act : (slot : ℕ) (event : Event) → is_turn event ≡ true → act_shown slot event ≡ None
turn_is_no_act slot (Act verb) is = absurd (cc)
turn_is_no_act slot _ is = refl

quiet_tells : (time : ℕ) (ls : List Label) → All IsQuietTurn ls → uncalled_text time (shown_by ls) ≡ []
unfolding trace_text shown_by
quiet_tells time [] all = refl
quiet_tells time (label ∷ ls) all =
    let quiet = All-head IsQuietTurn label ls all in
    rw (
      quiet.0,
      turn_is_no_act label.slot label.event quiet.0,
      quiet.4,
      quiet.1,
      shown_by-printed ls,
      quiet_prints ls (All-tail IsQuietTurn label ls all),
    )

-- nothing is told of a step that shows no denial, no act and nothing printed
none_is : {X : Type 0} (o : Option X) → is_some o ≡ false → o ≡ None
none_is None e = refl
none_is (Some x) e = absurd (false≢true (sym e))

pub tells_nothing : (step : Emit) → is_some step.denial ≡ false → is_some step.act ≡ false
    → (length step.printed.items == 0) ≡ true → (time : ℕ) → uncalled_text time step ≡ []
unfolding trace_text
tells_nothing step d a p time = by_slot step.slot
  where
    by_slot : (o : Option ℕ) → lines_of_step time o (record step { made = None }) ≡ []
    by_slot None = refl
    by_slot (Some slot) = rw (none_is step.denial d, none_is step.act a, p)

both_parts : {X : Type 0} (P : X → Type 0) (xs ys : List X) → All P (xs ++ ys) → All P xs × All P ys
both_parts P [] ys all = (All-nil P, all)
both_parts P (x ∷ xs) ys all =
    let rest = both_parts P xs ys (All-tail P x (xs ++ ys) all) in
    (All-cons P x xs (All-head P x (xs ++ ys) all) rest.0, rest.1)

-- A board that makes so many steps, of which none ends later than it is before the time: it goes on as from there.
module _ {time : ℕ} {v : World} (early : v.clock.time < time) (few : v.clock.steps < STEP_LIMIT) where
  -- the first of them is within the time
  first_within : (k : ℕ) (w : World) (c : Choice) → next w ≡ Some c → v ≡ (round k (after w c)).world
      → choice_within time w ≡ Some c
  first_within k w c e there =
      let one = step_on w c in
      let rest : IsOn (after w c) v = rw there (run_on k (after w c)) in
      one-within time w c e (omega (arith, one.steps, rest.steps, few))
      (and_from _ _ (lt-ltb w.clock.time time (omega (arith, one.time, rest.time, early)))
      (le-leb (after w c).clock.time time (omega (arith, rest.time, early))))

  leap : (k m n : ℕ) (w : World) → m ≡ k + n → v ≡ (round k w).world → All IsQuietTurn (round k w).labels
      → (to_time m time w ≡ to_time n time v) × (told_to m time w ≡ told_to n time v)
  leap zero m n w e r all = let same : m ≡ n = omega arith in rw (same, r, lead-zero w) (refl, refl)
  leap (suc k) zero n w e r all = absurd (omega arith)
  leap (suc k) (suc m) n w e r all = by_next (next w) refl (λ c. leap k m n (after w c) (omega arith))
    where
      by_next : (o : Option Choice) → next w ≡ o
          → ((c : Choice) → v ≡ (round k (after w c)).world → All IsQuietTurn (round k (after w c)).labels
          → (to_time m time (after w c) ≡ to_time n time v) × (told_to m time (after w c) ≡ told_to n time v))
          → (to_time (suc m) time w ≡ to_time n time v) × (told_to (suc m) time w ≡ told_to n time v)
      by_next None f later =
          let none = none-over time w f in
          rw (
            r,
            lead-stop (suc k) w f,
            to_time-none (suc m) time w none,
            to_time-none n time w none,
            told_to-none (suc m) time w none,
            told_to-none n time w none,
          ) (refl, refl)
      by_next (Some c) f later =
          let there : v ≡ (round k (after w c)).world = r ∙ lead-step k w c f in
          let first = first_within k w c f there in
          let parts = both_parts IsQuietTurn (labels w c) _ (rw (round-step k w c f) at all) in
          let rest = later c there parts.1 in (
            to_time-step m time w c first ∙ rest.0,
            rw (told_to-step m time w c first, quiet_tells w.clock.time (labels w c) parts.0) rest.1,
          )

-- With so many steps left: what was told so far was written, and it goes on as from the beginning.
pub record GoesTo {K : Type 0} (tells : K → SinkFacts) (reach : Reach) (left : ℕ) (from here : World) (old now : K)
    : Type 0 where
  pub done : List ℕ
  pub wrote : WroteAll tells old now done
  pub leads : world_reached reach from ≡ to_time left reach.time here
  pub lines : told_reaching reach from ≡ done ++ told_if reach.told (told_to left reach.time here)

-- what is told of none
untold : (told : Bool) → told_if told [] ≡ []
untold true = refl
untold false = refl

-- of a step, and then of others
told_both : (told : Bool) (a b : List ℕ) → told_if told (a ++ b) ≡ told_if told a ++ told_if told b
told_both true a b = refl
told_both false a b = refl

module _ {K : Type 0} {tells : K → SinkFacts} (law : WritesCompose tells) where
  pub begins : (reach : Reach) (w : World) (a : K) → GoesTo tells reach reach.most w w a a
  begins reach w a = record { done = []; wrote = law.wrote_nothing a; leads = refl; lines = refl }

  module _ {reach : Reach} {left : ℕ} {from here : World} {old now : K}
      (r : GoesTo tells reach left from here old now) where
    -- with a quiet stretch more
    pub stretched : (k : ℕ) (then : World) → k < min (within here left) (reach.time - here.clock.time)
        → IsStretch k here then → GoesTo tells reach (left - k) from then old now
    stretched k then h s =
        let early : then.clock.time < reach.time = omega (arith, h, s.time) in
        let few : then.clock.steps < STEP_LIMIT = omega (arith, h, s.steps) in
        let led = leap early few k left (left - k) here (omega (arith, h)) s.reached s.quiet in
        record { done = r.done; wrote = r.wrote; leads = r.leads ∙ led.0; lines = rw (← led.1) r.lines }

    -- it goes no further
    ended : to_time left reach.time here ≡ here → told_to left reach.time here ≡ []
        → (here ≡ world_reached reach from) × WroteAll tells old now (told_reaching reach from)
    ended w t = (sym (r.leads ∙ w), rw (r.lines, t, untold reach.told, append-nil r.done) r.wrote)

    pub stopped : choice_within reach.time here ≡ None
        → (here ≡ world_reached reach from) × WroteAll tells old now (told_reaching reach from)
    stopped e = ended (to_time-none left reach.time here e) (told_to-none left reach.time here e)

    pub none_left : left ≡ zero
        → (here ≡ world_reached reach from) × WroteAll tells old now (told_reaching reach from)
    unfolding to_time told_to
    none_left e = ended (rw e) (rw e)

    -- no turn is within the time, or within the limit of steps
    pub no_turn : (part : ℕ) → part ≡ min (within here left) (reach.time - here.clock.time) → part ≡ 0
        → (here ≡ world_reached reach from) × WroteAll tells old now (told_reaching reach from)
    no_turn part e z = elim (cases_lt 0 left) [
      | inl some ↦ elim (cases_lt here.clock.time reach.time) [
        | inl ahead ↦ stopped (none-limit reach.time here (omega arith))
        | inr late ↦ stopped (none-begins_late reach.time here late)
      ]
      | inr none ↦ none_left (omega arith)
    ]

    -- one step more
    module _ (c : Choice) (h : 0 < left) (e : next here ≡ Some c) (few : here.clock.steps < STEP_LIMIT)
        (i : is_within reach.time here c ≡ true) where
      one : left ≡ suc (left - 1)
      one = omega arith

      chosen : choice_within reach.time here ≡ Some c
      chosen = one-within reach.time here c e few i

      around : told_reaching reach from ≡ r.done ++ (told_if reach.told (told_text here c)
          ++ told_if reach.told (told_to (left - 1) reach.time (after here c)))
      around =
          let all = ap (λ (n : ℕ). told_to n reach.time here) one ∙ told_to-step (left - 1) reach.time here c chosen in
          rw (r.lines, all, told_both reach.told (told_text here c))

      pub part : (later : K) → WrotePart tells now later (told_if reach.told (told_text here c))
          → WrotePart tells old later (told_reaching reach from)
      part later w =
          rw around (law.all_then_part r.wrote (law.part_of_more
          (told_if reach.told (told_to (left - 1) reach.time (after here c))) w))

      pub more : (then : World) (later : K) (n : ℕ) → then ≡ after here c → n ≡ left - 1
          → WroteAll tells now later (told_if reach.told (told_text here c))
          → GoesTo tells reach n from then old later
      more then later n f k w = record {
        done = r.done ++ told_if reach.told (told_text here c);
        wrote = law.all_then_all r.wrote w;
        leads = rw (k, f, ← to_time-step (left - 1) reach.time here c chosen, ← one) r.leads;
        lines = rw (k, f, append_assoc) around;
      }
