-- That what is found is the last place of a run at which a goal stops it: by induction on the steps that may be made.
-- What is found from here on is what the rest of the run finds, with this step's place as what had been found
-- (`LastOr`), and a place of the rest is one of the run, a step later.
use Rattle.std.proofs.lemmas.Bool.{cases_Bool}
use Rattle.std.proofs.lemmas.Option.{none-some, same_Some}
use Rattle.std.proofs.Common.{◌≡◌, ◌⊎◌, inl, inr, ℕ, zero, suc, nat_lt, ◌&&◌, Bool, List}
use Rattle.std.proofs.Common.{Option, None, Some, option_map, refl, sym, ap, ◌∙◌, arith}
use Rattle.std.specs.Option.{option_or}
use Rattle.tk_base.specs.declared.limits.TheConstants.{STEP_LIMIT}
use Rattle.tk_base.specs.declared.process.Choice.{Choice}
use Rattle.kernel_model.specs.World.{World, after, may_be_made}
use Rattle.kernel_model.specs.Run.{next, round}
use Rattle.board_views.specs.declared.goal.Goal.{Goal}
use Rattle.board_views.specs.declared.going.Stop.{Stop}
use Rattle.board_views.specs.declared.searches.Found.{Found}
use Rattle.board_views.specs.declared.going.Stop.TheVariants.{Changed}
use Rattle.board_views.specs.Goals.{before_stop, changed_at, or_else, watched_bytes}
use Rattle.board_views.specs.Searches.{IsLastFound, IsLastPlace, NoneStops, Searched, choice_in, finds, kept_after}
use Rattle.board_views.specs.Searches.{kept_at, last_before, place_at, place_of, search, seen_after}
use Rattle.board_views.specs.Searches.{seen_before}
use Rattle.board_views.proofs.Seeking.{chosen_is_next}
use Rattle.board_views.proofs.Stretches.{lead-step, lead-stop, lead-unready, lead-zero}

-- where no step may be made, none is
no_more : (n : ℕ) (w : World) → choice_in w ≡ None → (round n w).world ≡ w
no_more n w e = by_next (next w) refl
  where
    by_next : (o : Option Choice) → next w ≡ o → (round n w).world ≡ w
    by_next None f = lead-stop n w f
    by_next (Some c) f = elim (cases_Bool (nat_lt w.clock.steps STEP_LIMIT)) [
      | inl may ↦ let both = rw (may, f) at e in absurd (cc)
      | inr b ↦ lead-unready n w c f (ap (λ (x : Bool). x && may_be_made w c) b)
    ]

-- so nothing stops a goal from there on
none_there : (n : ℕ) (goal : Goal) (kept : List ℕ) (w : World) → choice_in w ≡ None → NoneStops goal kept w 0 n
none_there n goal kept w e i h l = rw (no_more i w e, e)

-- What was found once steps were made: what had been, where none of them stops the goal; or the last place where one
-- does.
abbrev LastOr : ℕ → Goal → List ℕ → World → Option Found → Option Found → Type 0
LastOr n goal kept w before found =
    ((found ≡ before) × NoneStops goal kept w 0 n)
    ⊎ ((place : Found) × (found ≡ Some place) × IsLastPlace n goal kept w place)

-- the place of a step that changed a watched byte, or before which something stops a goal
abbrev place_by : ℕ → Option ℕ → Option Stop → Option Found
place_by steps changed before =
    option_map (λ stop. record { steps = steps; stop = stop }) (or_else (option_map Changed changed) before)

-- one step, and then those after it
module _ (n : ℕ) (goal : Goal) (kept : List ℕ) (w : World) (c : Choice) (e : choice_in w ≡ Some c) where
  -- what is kept after the step, and what was found once it was made
  abbrev later : List ℕ
  later = kept_after goal (after w c) kept (changed_at (after w c) kept goal.watched.items)

  abbrev now_found : Option Found → Option Found
  now_found found =
      seen_after (seen_before found w.clock.steps (before_stop goal w c)) w.clock.steps
      (changed_at (after w c) kept goal.watched.items)

  leads : (i : ℕ) → (round (suc i) w).world ≡ (round i (after w c)).world
  leads i = lead-step i w c (chosen_is_next w c e)

  kept_on : (i : ℕ) → kept_at goal kept w (suc i) ≡ kept_at goal later (after w c) i
  unfolding kept_at
  kept_on zero = rw (leads zero, lead-zero (after w c))
  kept_on (suc i) = rw (← kept_on i, ← leads (suc i))

  place_on : (i : ℕ) → place_at goal kept w (suc i) ≡ place_at goal later (after w c) i
  place_on i = rw (kept_on i, leads i)

  place_first : place_at goal kept w zero ≡ place_of goal kept w c
  unfolding kept_at
  place_first = rw (lead-zero w, e)

  -- what is found is the place of this step, or what had been
  is_now : (found : Option Found) → now_found found ≡ option_or (place_of goal kept w c) found
  is_now found = by_both (changed_at (after w c) kept goal.watched.items) (before_stop goal w c)
    where
      by_both : (changed : Option ℕ) (before : Option Stop)
          → seen_after (seen_before found w.clock.steps before) w.clock.steps changed
          ≡ option_or (place_by w.clock.steps changed before) found
      by_both (Some at) before = refl
      by_both None (Some stop) = refl
      by_both None None = refl

  none_after : (first : ℕ) → NoneStops goal later (after w c) first n → NoneStops goal kept w (suc first) (suc n)
  none_after first none zero h l = absurd (omega (arith, h))
  none_after first none (suc i) h l = place_on i ∙ none i (omega (arith, h)) (omega (arith, l))

  -- a later step is the last one
  later_place : (place : Found) → IsLastPlace n goal later (after w c) place → IsLastPlace (suc n) goal kept w place
  later_place place p = record {
    made = suc p.made;
    within = omega (arith, p.within);
    stops = place_on p.made ∙ p.stops;
    none_later = none_after (suc p.made) p.none_later;
  }

  -- this one is, or none
  this_or_none : (o : Option Found) → place_of goal kept w c ≡ o → (before found : Option Found)
      → found ≡ now_found before → NoneStops goal later (after w c) 0 n → LastOr (suc n) goal kept w before found
  this_or_none None f before found g none = inl (g ∙ rw (is_now before, f), all)
    where
      all : NoneStops goal kept w 0 (suc n)
      all zero h l = place_first ∙ f
      all (suc i) h l = none_after 0 none (suc i) (omega arith) l
  this_or_none (Some place) f before found g none =
      inr (
        place,
        g ∙ rw (is_now before, f),
        record {
          made = zero;
          within = omega arith;
          stops = place_first ∙ f;
          none_later = none_after 0 none;
        },
      )

  found_on : (before found : Option Found) → LastOr n goal later (after w c) (now_found before) found
      → LastOr (suc n) goal kept w before found
  found_on before found (inl none) = this_or_none (place_of goal kept w c) refl before found none.0 none.1
  found_on before found (inr last) = inr (last.0, last.1, later_place last.0 last.2)

-- where a search comes to, and what it finds
record Finds (n : ℕ) (goal : Goal) (kept : List ℕ) (w : World) (before : Option Found) (r : Searched) : Type 0 where
  reached : r.world ≡ (round n w).world
  last : LastOr n goal kept w before r.found

finding : (n : ℕ) (goal : Goal) (kept : List ℕ) (before : Option Found) (w : World)
    → Finds n goal kept w before (search n goal kept before w)
unfolding search
finding zero goal kept before w =
    record { reached = sym (lead-zero w); last = inl (refl, λ i h l. absurd (omega (arith, l))) }
finding (suc n) goal kept before w = by_next (choice_in w) refl (λ kept before v. finding n goal kept before v)
  where
    by_next : (o : Option Choice) → choice_in w ≡ o
        → ((kept : List ℕ) (before : Option Found) (v : World)
        → Finds n goal kept v before (search n goal kept before v))
        → Finds (suc n) goal kept w before (search (suc n) goal kept before w)
    by_next None e on = rw e (record {
      reached = sym (no_more (suc n) w e);
      last = inl (refl, none_there (suc n) goal kept w e);
    })
    by_next (Some c) e on =
        let f = on (later n goal kept w c e) (now_found n goal kept w c e before) (after w c) in
        rw e (record {
          reached = f.reached ∙ sym (leads n goal kept w c e n);
          last = found_on n goal kept w c e before _ f.last;
        })

-- from the start of a search on, where nothing was found yet
module _ (n : ℕ) (goal : Goal) (w v : World) (found : Option Found) (e : last_before n goal w ≡ finds v found) where
  found_all : Finds n goal (watched_bytes w goal.watched.items) w None (finds v found)
  found_all = rw (← e) (finding n goal (watched_bytes w goal.watched.items) None w)

  pub last_led : v ≡ (round n w).world
  last_led = found_all.reached

  pub last_found : IsLastFound n goal (watched_bytes w goal.watched.items) w found
  last_found = by_found found found_all.last
    where
      by_found : (found : Option Found) → LastOr n goal (watched_bytes w goal.watched.items) w None found
          → IsLastFound n goal (watched_bytes w goal.watched.items) w found
      by_found None (inl none) = none.1
      by_found (Some place) (inr last) = rw (same_Some place last.0 last.1) last.2
      by_found None (inr last) = absurd (none-some last.0 last.1)
      by_found (Some place) (inl none) = absurd (none-some place (sym none.0))
