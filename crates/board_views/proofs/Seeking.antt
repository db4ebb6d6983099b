-- A board that goes on to a goal, and one that is asked for the last place of its way. The loops keep 'from here, with
-- so many steps left, it comes to where it would have come from the beginning' (`SearchesOn`, `FindsOn`). That it
-- passes no place at which it should stop is an induction on the steps left, one step put before those that follow.
use mathlib.Core.Bool.{or-false, or-true}
use Rattle.std.proofs.lemmas.Bool.Decides.{nat_tests}
use Rattle.std.proofs.lemmas.Option.{none-some, same_Some}
use Rattle.std.proofs.Common.{◌≡◌, ◌⊎◌, inl, inr, ℕ, zero, suc, ◌-◌, ◌<◌, ◌≤◌, nat_lt, ◌||◌, Bool, true, false, cond}
use Rattle.std.proofs.Common.{List, Option, None, Some, option_and_then, unwrap_or}
use Rattle.std.proofs.Common.{refl, sym, ap, ◌∙◌, arith}
use Rattle.std.proofs.lemmas.Bool.{cases_Bool, cases_lt, le-ltb, lt-ltb}
use Rattle.tk_base.specs.declared.limits.TheConstants.{STEP_LIMIT}
use Rattle.tk_base.specs.declared.process.Choice.{Choice}
use Rattle.process_record.specs.declared.emit.Emit.{Emit}
use Rattle.kernel_model.specs.Shown.{shown_by}
use Rattle.kernel_model.specs.World.{World, after, labels}
use Rattle.kernel_model.specs.Run.{next, round}
use Rattle.kernel_model.specs.Parts.{on_choice}
use Rattle.board_views.specs.declared.goal.Goal.{Goal}
use Rattle.board_views.specs.declared.going.Stop.{Stop}
use Rattle.board_views.specs.declared.searches.Found.{Found}
use Rattle.board_views.specs.Goals.{before_stop, changed_at, or_else, step_stop, stop_after, watched_bytes}
use Rattle.board_views.specs.Searches.{PassesNothing, Reached, by_choice, choice_in, finds, after_one_step}
use Rattle.board_views.specs.Searches.{halts}
use Rattle.board_views.specs.Searches.{kept_after, last_before, last_stop, search, search_step, seen_after}
use Rattle.board_views.specs.Searches.{seen_before, stop_ahead, stop_before}
use Rattle.board_views.specs.Searches.{until, until_goal}
use Rattle.board_views.specs.Stops.{stop_at}
use Rattle.board_views.proofs.Stretches.{lead-step, lead-zero}

-- a choice that may be made is the next one
pub chosen_is_next : (w : World) (c : Choice) → choice_in w ≡ Some c → next w ≡ Some c
chosen_is_next w c e = elim (cases_Bool (nat_lt w.clock.steps STEP_LIMIT)) [
  | inl may ↦ rw may at e
  | inr none ↦ let over = rw none at e in absurd (cc)
]

pub few_where : (w : World) (c : Choice) → choice_in w ≡ Some c → w.clock.steps < STEP_LIMIT
few_where w c e = elim (cases_lt w.clock.steps STEP_LIMIT) [
  | inl few ↦ few
  | inr over ↦ let none = rw (le-ltb w.clock.steps STEP_LIMIT over) at e in absurd (cc)
]

-- where no choice may be made, and where one is
until-halt : (n : ℕ) (goal : Goal) (kept : List ℕ) (begun : Bool) (w : World) → choice_in w ≡ None
    → until n goal kept begun w ≡ halts w
unfolding until
until-halt zero goal kept begun w e = refl
until-halt (suc n) goal kept begun w e = rw e

until-step : (n : ℕ) (goal : Goal) (kept : List ℕ) (begun : Bool) (w : World) (c : Choice) → choice_in w ≡ Some c
    → until (suc n) goal kept begun w ≡ by_choice (until n goal kept true) goal kept begun w c
unfolding until
until-step n goal kept begun w c e = rw e

-- With so many steps left: it comes to where it would have come from the beginning.
pub record SearchesOn (most : ℕ) (goal : Goal) (kept : List ℕ) (left : ℕ) (begun : Bool) (from here : World)
    : Type 0 where
  pub goes : until most goal kept false from ≡ until left goal kept begun here

pub begins : (most : ℕ) (goal : Goal) (kept : List ℕ) (w : World) → SearchesOn most goal kept most false w w
begins most goal kept w = record { goes = refl }

module _ {most : ℕ} {goal : Goal} {kept : List ℕ} {left : ℕ} {begun : Bool} {from here : World}
    (r : SearchesOn most goal kept left begun from here) where
  -- nothing is left to do, or no more step may be made
  pub halted : choice_in here ≡ None → (stop : Stop) → stop ≡ stop_at here
      → until most goal kept false from ≡ record { world = here; stop = stop }
  halted e stop s = rw (r.goes, until-halt left goal kept begun here e, s)

  pub none_left : left ≡ zero → (stop : Stop) → stop ≡ stop_at here
      → until most goal kept false from ≡ record { world = here; stop = stop }
  unfolding until
  none_left e stop s = rw (r.goes, e, s)

  module _ (c : Choice) (h : 0 < left) (e : choice_in here ≡ Some c) where
    chosen : until most goal kept false from ≡ by_choice (until (left - 1) goal kept true) goal kept begun here c
    chosen =
        let one : left ≡ suc (left - 1) = omega arith in
        r.goes ∙ ap (λ (n : ℕ). until n goal kept begun here) one ∙ until-step (left - 1) goal kept begun here c e

    pub before : (stop : Stop) → stop_before goal begun here c ≡ Some stop
        → until most goal kept false from ≡ record { world = here; stop = stop }
    before stop s = rw (chosen, s)

    module _ (s : stop_before goal begun here c ≡ None) (then : World) (f : then ≡ after here c) (shown : Emit)
        (g : shown ≡ shown_by (labels here c)) (o : Option Stop) (k : o ≡ stop_after goal kept then c shown) where
      -- what was asked of the step is what stops the goal
      asked : step_stop goal kept here c ≡ o
      asked = rw (k, f, g)

      pub stopped : (stop : Stop) → o ≡ Some stop
          → until most goal kept false from ≡ record { world = then; stop = stop }
      stopped stop q = rw (f, chosen, s, asked, q)

      pub more : o ≡ None → SearchesOn most goal kept (left - 1) true from then
      more q = record { goes = rw (f, chosen, s, asked, q) }

-- what stops it before the next step, which may be the first one where it has begun
abbrev next_stop_by : ℕ → Goal → Bool → World → ℕ → Option Stop
next_stop_by n goal begun from made =
    cond (nat_lt made n) (stop_ahead goal (begun || nat_lt 0 made) (round made from).world) None

abbrev first_stop : ℕ → Goal → List ℕ → Bool → World → ℕ → Option Stop
first_stop n goal kept begun from made = or_else (last_stop goal kept from made) (next_stop_by n goal begun from made)

-- why it stopped, likewise
record Stopped (n : ℕ) (goal : Goal) (kept : List ℕ) (begun : Bool) (from : World) (made : ℕ) (stop : Stop)
    : Type 0 where
  why : stop ≡ unwrap_or (first_stop n goal kept begun from made) (stop_at (round made from).world)
  over : first_stop n goal kept begun from made ≡ None → (made ≡ n) ⊎ (choice_in (round made from).world ≡ None)

-- tests of numbers, each one more
more_left : (n : ℕ) → nat_lt zero (suc n) ≡ true
more_left n = lt-ltb zero (suc n) (omega arith)

same_left : (m n : ℕ) → nat_lt (suc m) (suc n) ≡ nat_lt m n
same_left m n = grind (arith, nat_tests)

module _ (goal : Goal) (kept : List ℕ) (begun : Bool) (w : World) where
  -- before the first step, by the choice that may be made
  ahead : (n : ℕ) (o : Option Choice) → choice_in w ≡ o
      → first_stop (suc n) goal kept begun w zero ≡ option_and_then (stop_before goal begun w) o
  ahead n o e = rw (more_left n, lead-zero w, or-false begun, e)

  -- no steps might be made
  why_none : Stopped zero goal kept begun w zero (stop_at w)
  why_none = record { why = rw (lead-zero w); over = λ none. inl refl }

  -- no step is left
  why_over : (n : ℕ) → choice_in w ≡ None → Stopped (suc n) goal kept begun w zero (stop_at w)
  why_over n e =
      record { why = rw (ahead n None e, lead-zero w); over = λ none. inr (rw (lead-zero w, e)) }

  -- it stops before the first one
  why_before : (n : ℕ) (c : Choice) (stop : Stop) → choice_in w ≡ Some c → stop_before goal begun w c ≡ Some stop
      → Stopped (suc n) goal kept begun w zero stop
  why_before n c stop e s =
      let this = ahead n (Some c) e ∙ s in
      record { why = rw this; over = λ none. absurd (none-some stop (sym none ∙ this)) }

-- it passes nothing; the first step may be before a place at which it stops, unless it has begun
record Passes (n : ℕ) (goal : Goal) (kept : List ℕ) (begun : Bool) (from : World) (r : Reached) : Type 0 where
  made : ℕ
  within : made ≤ n
  reached : r.world ≡ (round made from).world
  before : (i : ℕ) (choice : Choice) → (i ≡ 0 → begun ≡ true) → i < made → next (round i from).world ≡ Some choice
      → before_stop goal (round i from).world choice ≡ None
  after_step : (i : ℕ) (choice : Choice) → suc i < made → next (round i from).world ≡ Some choice
      → step_stop goal kept (round i from).world choice ≡ None
  stopped : Stopped n goal kept begun from made r.stop

-- no step is made
stays_there : (n : ℕ) (goal : Goal) (kept : List ℕ) (begun : Bool) (w : World) (stop : Stop)
    → Stopped n goal kept begun w zero stop → Passes n goal kept begun w (record { world = w; stop = stop })
stays_there n goal kept begun w stop s = record {
  made = zero;
  within = omega arith;
  reached = sym (lead-zero w);
  before = λ i choice b l e. absurd (omega (arith, l));
  after_step = λ i choice l e. absurd (omega (arith, l));
  stopped = s;
}

-- one step, and then those after it
module _ (n : ℕ) (goal : Goal) (kept : List ℕ) (begun : Bool) (w : World) (c : Choice) (e : next w ≡ Some c)
    (s : stop_before goal begun w c ≡ None) where
  same_choice : (d : Choice) → next (round zero w).world ≡ Some d → c ≡ d
  same_choice d f = same_Some c d (sym e ∙ rw (lead-zero w) at f)

  at_first : (d : Choice) → begun ≡ true → next (round zero w).world ≡ Some d
      → before_stop goal (round zero w).world d ≡ None
  at_first d b f = rw (lead-zero w, ← same_choice d f) (rw b at s)

  -- what stops it after this step
  in_first : last_stop goal kept w 1 ≡ step_stop goal kept w c
  in_first = rw (lead-zero w, e)

  makes : (stop : Stop) → step_stop goal kept w c ≡ Some stop
      → Passes (suc n) goal kept begun w (record { world = after w c; stop = stop })
  makes stop t = record {
    made = 1;
    within = omega arith;
    reached = sym (lead-step zero w c e ∙ lead-zero (after w c));
    before = first;
    after_step = λ i choice l f. absurd (omega (arith, l));
    stopped = record { why = rw this; over = λ none. absurd (none-some stop (sym none ∙ this)) };
  }
    where
      first : (i : ℕ) (d : Choice) → (i ≡ 0 → begun ≡ true) → i < 1 → next (round i w).world ≡ Some d
          → before_stop goal (round i w).world d ≡ None
      first zero d b l f = at_first d (b refl) f
      first (suc i) d b l f = absurd (omega (arith, l))

      this : first_stop (suc n) goal kept begun w 1 ≡ Some stop
      this = rw (in_first, t)

  -- what stops it after more steps is what stops it after those that follow this one
  last_on : (m : ℕ) → step_stop goal kept w c ≡ None
      → last_stop goal kept w (suc m) ≡ last_stop goal kept (after w c) m
  last_on zero t = in_first ∙ t
  last_on (suc i) t = rw (lead-step i w c e)

  next_on : (m : ℕ) → next_stop_by (suc n) goal begun w (suc m) ≡ next_stop_by n goal true (after w c) m
  next_on m = rw (same_left m n, lead-step m w c e, more_left m, or-true begun)

  first_on : (m : ℕ) → step_stop goal kept w c ≡ None
      → first_stop (suc n) goal kept begun w (suc m) ≡ first_stop n goal kept true (after w c) m
  first_on m t = rw (last_on m t, next_on m)

  stops_on : (m : ℕ) (stop : Stop) → step_stop goal kept w c ≡ None → Stopped n goal kept true (after w c) m stop
      → Stopped (suc n) goal kept begun w (suc m) stop
  stops_on m stop t p = record {
    why = rw (first_on m t, lead-step m w c e) p.why;
    over = λ none. elim (p.over (sym (first_on m t) ∙ none)) [
      | inl all ↦ inl (ap suc all)
      | inr over ↦ inr (rw (lead-step m w c e) over)
    ];
  }

  goes_further : (r : Reached) → step_stop goal kept w c ≡ None → Passes n goal kept true (after w c) r
      → Passes (suc n) goal kept begun w r
  goes_further r t p = record {
    made = suc p.made;
    within = omega (arith, p.within);
    reached = p.reached ∙ sym (lead-step p.made w c e);
    before = before;
    after_step = after_step;
    stopped = stops_on p.made r.stop t p.stopped;
  }
    where
      before : (i : ℕ) (d : Choice) → (i ≡ 0 → begun ≡ true) → i < suc p.made → next (round i w).world ≡ Some d
          → before_stop goal (round i w).world d ≡ None
      before zero d b l f = at_first d (b refl) f
      before (suc i) d b l f =
          rw (lead-step i w c e) (p.before i d (λ z. refl) (omega (arith, l)) (rw (lead-step i w c e) at f))

      after_step : (i : ℕ) (d : Choice) → suc i < suc p.made → next (round i w).world ≡ Some d
          → step_stop goal kept (round i w).world d ≡ None
      after_step zero d l f = rw (lead-zero w, ← same_choice d f) t
      after_step (suc i) d l f =
          rw (lead-step i w c e) (p.after_step i d (omega (arith, l)) (rw (lead-step i w c e) at f))

passing : (n : ℕ) (goal : Goal) (kept : List ℕ) (begun : Bool) (w : World)
    → Passes n goal kept begun w (until n goal kept begun w)
unfolding until
passing zero goal kept begun w = stays_there zero goal kept begun w (stop_at w) (why_none goal kept begun w)
passing (suc n) goal kept begun w = by_next (choice_in w) refl (λ v. passing n goal kept true v)
  where
    by_stops : (c : Choice) → choice_in w ≡ Some c
        → Passes n goal kept true (after w c) (until n goal kept true (after w c))
        → (before step : Option Stop) → stop_before goal begun w c ≡ before → step_stop goal kept w c ≡ step
        → Passes (suc n) goal kept begun w
        (after_one_step (after_one_step (until n goal kept true (after w c)) (after w c) step) w before)
    by_stops c e later None None s t =
        goes_further n goal kept begun w c (chosen_is_next w c e) s _ t later
    by_stops c e later None (Some stop) s t = makes n goal kept begun w c (chosen_is_next w c e) s stop t
    by_stops c e later (Some stop) step s t =
        stays_there (suc n) goal kept begun w stop (why_before goal kept begun w n c stop e s)

    by_next : (o : Option Choice) → choice_in w ≡ o
        → ((v : World) → Passes n goal kept true v (until n goal kept true v))
        → Passes (suc n) goal kept begun w
        (on_choice (halts w) (by_choice (until n goal kept true) goal kept begun w) o)
    by_next None e later = stays_there (suc n) goal kept begun w (stop_at w) (why_over goal kept begun w n e)
    by_next (Some c) e later = by_stops c e (later (after w c)) _ _ refl refl

pub passes_nothing : (n : ℕ) (goal : Goal) (w : World)
    → PassesNothing n goal (watched_bytes w goal.watched.items) w (until_goal n goal w)
passes_nothing n goal w =
    let p = passing n goal (watched_bytes w goal.watched.items) false w in
    record {
      made = p.made;
      within = p.within;
      reached = p.reached;
      before = λ i choice h l e. p.before i choice (λ z. absurd (omega (arith, h, z))) l e;
      after_step = p.after_step;
      stopped = record { why = p.stopped.why; over = p.stopped.over };
    }

-- The search for the last place: where no choice may be made, and where one is.
pub search-halt : (n : ℕ) (goal : Goal) (kept : List ℕ) (found : Option Found) (w : World) → choice_in w ≡ None
    → search n goal kept found w ≡ finds w found
unfolding search
search-halt zero goal kept found w e = refl
search-halt (suc n) goal kept found w e = rw e

pub search-step : (n : ℕ) (goal : Goal) (kept : List ℕ) (found : Option Found) (w : World) (c : Choice)
    → choice_in w ≡ Some c → search (suc n) goal kept found w ≡ search_step (search n goal) goal kept found w c
unfolding search
search-step n goal kept found w c e = rw e

-- With so many steps left: it finds what it would have found from the beginning.
pub record FindsOn (most : ℕ) (goal : Goal) (left : ℕ) (kept : List ℕ) (found : Option Found) (from here : World)
    : Type 0 where
  pub goes : last_before most goal from ≡ search left goal kept found here

pub starts : (most : ℕ) (goal : Goal) (kept : List ℕ) (w : World) → kept ≡ watched_bytes w goal.watched.items
    → FindsOn most goal most kept None w w
starts most goal kept w e = record { goes = rw e }

module _ {most : ℕ} {goal : Goal} {left : ℕ} {kept : List ℕ} {found : Option Found} {from here : World}
    (r : FindsOn most goal left kept found from here) where
  pub ended : choice_in here ≡ None → last_before most goal from ≡ finds here found
  ended e = r.goes ∙ search-halt left goal kept found here e

  pub all_made : left ≡ zero → last_before most goal from ≡ finds here found
  unfolding search
  all_made e = rw (r.goes, e)

  -- one step more, with what was found before and after it
  pub found_more : (c : Choice) (then : World) (first last : Option Found) (changed : Option ℕ) (now : List ℕ)
      → 0 < left → choice_in here ≡ Some c → then ≡ after here c
      → first ≡ seen_before found here.clock.steps (before_stop goal here c)
      → changed ≡ changed_at then kept goal.watched.items
      → last ≡ seen_after first here.clock.steps changed → now ≡ kept_after goal then kept changed
      → FindsOn most goal (left - 1) now last from then
  found_more c then first last changed now h e f b d a k =
      let one : left ≡ suc (left - 1) = omega arith in
      record {
        goes = rw (k, a, b, d, f) (r.goes ∙ ap (λ (n : ℕ). search n goal kept found here) one
            ∙ search-step (left - 1) goal kept found here c e);
      }
