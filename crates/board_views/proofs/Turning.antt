-- A board that goes on until a process had so many turns. As many steps may be made at once as turns are wanted still,
-- since each gives one turn at most (`leap`, by induction on them); the loop keeps that from here it comes to the same
-- world (`TurnsOn`). That this is the first world with so many turns is an induction on the steps left.
use Rattle.std.proofs.Common.{◌≡◌, ◌⊎◌, inl, inr, ℕ, zero, suc, ◌+◌, ◌-◌, ◌<◌, ◌≤◌, nat_le, min}
use Rattle.std.proofs.Common.{Option, None, Some, refl, sym, ap, ◌∙◌, arith}
use Rattle.std.proofs.lemmas.Bool.{cond_both, le-leb, leb-false, leb-true, lt-leb}
use Rattle.tk_base.specs.declared.process.Choice.{Choice}
use Rattle.kernel_model.specs.World.{World, after}
use Rattle.kernel_model.specs.Run.{next, round}
use Rattle.board_views.specs.Stops.{IsFirstWithTurns, turns_of, until_turns}
use Rattle.board_views.proofs.Stretches.{lead-step, lead-stop, lead-zero}
use Rattle.board_views.proofs.TurnCounts.{one_turn}

-- as many turns were had, or no steps are left
turned-none : (n slot turns : ℕ) (w : World) → min n (turns - turns_of w slot) ≡ 0 → until_turns n slot turns w ≡ w
unfolding until_turns
turned-none zero slot turns w z = refl
turned-none (suc n) slot turns w z = rw (le-leb turns (turns_of w slot) (omega arith))

-- fewer were had
turned-more : (n slot turns : ℕ) (w : World) → turns_of w slot < turns
    → until_turns (suc n) slot turns w ≡ until_turns n slot turns (round 1 w).world
unfolding until_turns
turned-more n slot turns w h = rw (lt-leb turns (turns_of w slot) h)

turned-over : (n slot turns : ℕ) (w : World) → next w ≡ None → until_turns n slot turns w ≡ w
unfolding until_turns
turned-over zero slot turns w e = refl
turned-over (suc n) slot turns w e =
    cond_both (nat_le turns (turns_of w slot)) w (until_turns n slot turns (round 1 w).world) (λ v. v ≡ w) (λ had. refl)
    (λ fewer. rw (lead-stop 1 w e) (turned-over n slot turns w e))

-- a step first, and then so many
one_then : (k : ℕ) (w : World) → (round k (round 1 w).world).world ≡ (round (suc k) w).world
one_then k w = by_next (next w) refl
  where
    by_next : (o : Option Choice) → next w ≡ o → (round k (round 1 w).world).world ≡ (round (suc k) w).world
    by_next None e = rw (lead-stop 1 w e, lead-stop k w e, lead-stop (suc k) w e)
    by_next (Some c) e = rw (lead-step zero w c e, lead-zero (after w c), lead-step k w c e)

-- As many steps may be made at once as turns are wanted still: each gives one at most, so that before the last of them
-- as many were not had.
leap : (k m n slot turns : ℕ) (w : World) → m ≡ k + n → k ≤ turns - turns_of w slot
    → until_turns m slot turns w ≡ until_turns n slot turns (round k w).world
leap zero m n slot turns w e h = let same : m ≡ n = omega arith in rw (same, lead-zero w)
leap (suc k) zero n slot turns w e h = absurd (omega arith)
leap (suc k) (suc m) n slot turns w e h =
    let one = one_turn w slot in
    turned-more m slot turns w (omega (arith, h))
    ∙ leap k m n slot turns (round 1 w).world (omega arith) (omega (arith, h, one))
    ∙ ap (until_turns n slot turns) (one_then k w)

-- With so many steps left it goes on as from the beginning.
pub record TurnsOn (most slot turns left : ℕ) (from here : World) : Type 0 where
  pub leads : until_turns most slot turns from ≡ until_turns left slot turns here

pub begins : (most slot turns : ℕ) (w : World) → TurnsOn most slot turns most w w
begins most slot turns w = record { leads = refl }

module _ {most slot turns left : ℕ} {from here : World} (r : TurnsOn most slot turns left from here) where
  -- as many turns were had
  pub had : (k : ℕ) → k ≡ min left (turns - turns_of here slot) → k ≡ 0 → here ≡ until_turns most slot turns from
  had k e z = sym (r.leads ∙ turned-none left slot turns here (sym e ∙ z))

  -- nothing is left to do
  pub over : next here ≡ None → here ≡ until_turns most slot turns from
  over e = sym (r.leads ∙ turned-over left slot turns here e)

  -- no steps are left
  pub none_left : left ≡ 0 → here ≡ until_turns most slot turns from
  none_left z = had (min left (turns - turns_of here slot)) refl (omega arith)

  -- so many steps more
  pub more_steps : (k : ℕ) (then : World) → k ≡ min left (turns - turns_of here slot) → 0 < k
      → then ≡ (round k here).world → TurnsOn most slot turns (left - k) from then
  more_steps k then e h f = record {
    leads = r.leads ∙ leap k left (left - k) slot turns here (omega (arith, e)) (omega (arith, e))
        ∙ ap (until_turns (left - k) slot turns) (sym f);
  }

-- The world that it comes to is the first one in which as many were had: as they were at first, or after one step and
-- then more.
comes_at_once : (n slot turns : ℕ) (w : World) → (turns ≤ turns_of w slot) ⊎ (zero ≡ n)
    → IsFirstWithTurns n slot turns w w
comes_at_once n slot turns w h = record {
  made = zero;
  few = omega arith;
  reached = sym (lead-zero w);
  none_before = λ i l. absurd (omega (arith, l));
  ended = h;
}

comes_later : (n slot turns : ℕ) (w v : World) → turns_of w slot < turns
    → IsFirstWithTurns n slot turns (round 1 w).world v → IsFirstWithTurns (suc n) slot turns w v
comes_later n slot turns w v h f = record {
  made = suc f.made;
  few = omega (arith, f.few);
  reached = f.reached ∙ one_then f.made w;
  none_before = before;
  ended = elim f.ended [ inl has ↦ inl has | inr all ↦ inr (ap suc all) ];
}
  where
    before : (i : ℕ) → i < suc f.made → turns_of (round i w).world slot < turns
    before zero l = rw (lead-zero w) h
    before (suc i) l = rw (one_then i w) at (f.none_before i (omega (arith, l)))

comes_first : (n slot turns : ℕ) (w : World) → IsFirstWithTurns n slot turns w (until_turns n slot turns w)
unfolding until_turns
comes_first zero slot turns w = comes_at_once zero slot turns w (inr refl)
comes_first (suc n) slot turns w =
    cond_both (nat_le turns (turns_of w slot)) w _ (IsFirstWithTurns (suc n) slot turns w)
    (λ e. comes_at_once (suc n) slot turns w (inl (leb-true turns (turns_of w slot) e)))
    (λ e. comes_later n slot turns w _ (leb-false turns (turns_of w slot) e)
    (comes_first n slot turns (round 1 w).world))

pub first_with_turns : (n slot turns : ℕ) (w v : World) → v ≡ until_turns n slot turns w
    → IsFirstWithTurns n slot turns w v
first_with_turns n slot turns w v e = rw e (comes_first n slot turns w)
