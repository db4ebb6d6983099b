-- A board that goes on.
use Rattle.std.proofs.Common.{◌≡◌, ℕ, zero, suc, ◌+◌, ◌-◌, ◌<◌, ◌≤◌, Bool, true, false, [], None, Some}
use Rattle.std.proofs.Common.{refl, sym, ◌∙◌, arith}
use Rattle.tk_base.specs.declared.process.Choice.{Choice}
use Rattle.kernel_model.specs.World.{World, after, is_ready, stepped}
use Rattle.kernel_model.specs.Run.{next, round}
use Rattle.run_text.specs.RunText.{trace_lines}
use Rattle.kernel_model.specs.Stretch.{IsStretch, RoundsJoin}

-- where a run leads that stops at once, and one that makes a step
pub lead-stop : (n : ℕ) (w : World) → next w ≡ None → (round n w).world ≡ w
unfolding round
lead-stop zero w e = refl
lead-stop (suc n) w e = rw e

pub lead-step : (n : ℕ) (w : World) (c : Choice) → next w ≡ Some c
    → (round (suc n) w).world ≡ (round n (after w c)).world
unfolding round
lead-step n w c e = rw e

pub lead-zero : (w : World) → (round zero w).world ≡ w
unfolding round
lead-zero w = refl

-- a choice that is not ready changes nothing
unready : (w : World) (c : Choice) → is_ready w c ≡ false → after w c ≡ w
unfolding stepped
unready w c e = rw (after, e)

-- a test that is not true is false
pub unready_if_refused : (b : Bool) → (b ≡ true → false ≡ true) → b ≡ false
unready_if_refused true e = sym (e refl)
unready_if_refused false e = refl

-- nor does a run whose next choice is not ready
pub lead-unready : (n : ℕ) (w : World) (c : Choice) → next w ≡ Some c → is_ready w c ≡ false → (round n w).world ≡ w
lead-unready zero w c e u = lead-zero w
lead-unready (suc n) w c e u = rw (lead-step n w c e, unready w c u) (lead-unready n w c e u)

-- a number that is another, which is 0
pub zero_if : (n k : ℕ) → n ≡ k → n ≡ 0 → k ≡ zero
zero_if n k e z = omega (arith, e, z)

-- no steps lead nowhere, and have no lines
pub lead-none : (n : ℕ) (w : World) → n ≡ zero → w ≡ (round n w).world
lead-none n w e = rw (e, lead-zero w)

pub traced-none : (n : ℕ) (w : World) → n ≡ zero → [] ≡ trace_lines n w
unfolding trace_lines
traced-none n w e = rw e

-- After i steps of a run of n steps: it goes on as the rest of it would from here.
pub record GoesOnTo (n i : ℕ) (from here : World) : Type 0 where
  pub leads : (round n from).world ≡ (round (n - i) here).world

pub begins : (n : ℕ) (w : World) → GoesOnTo n 0 w w
begins n w = let whole : n - 0 ≡ n = omega arith in record { leads = rw whole }

module _ {n i : ℕ} {from here : World} (r : GoesOnTo n i from here) where
  -- with a quiet stretch more
  pub stretched : {k : ℕ} {then : World} → RoundsJoin → k ≤ n - i → IsStretch k here then
      → (j : ℕ) → j ≡ i + k → GoesOnTo n j from then
  stretched {k} {then} law h s j e =
      let left : n - i ≡ k + (n - j) = omega arith in
      record { leads = r.leads ∙ rw (law k (n - j) (n - i) here left, s.reached) }

  -- nothing is left to do
  pub over : next here ≡ None → here ≡ (round n from).world
  over e = sym (r.leads ∙ lead-stop (n - i) here e)

  -- the next choice may not be made
  pub stuck : (c : Choice) → next here ≡ Some c → is_ready here c ≡ false → here ≡ (round n from).world
  stuck c e u = sym (r.leads ∙ lead-unready (n - i) here c e u)

  -- all steps were made
  pub made : n ≤ i → here ≡ (round n from).world
  made h = let none : n - i ≡ zero = omega arith in rw (r.leads, none, lead-zero here)

  -- one step more
  pub one_more : (c : Choice) (then : World) → i < n → next here ≡ Some c → then ≡ after here c
      → (j : ℕ) → j ≡ i + 1 → GoesOnTo n j from then
  one_more c then h e f j k =
      let fewer : n - i ≡ suc (n - j) = omega arith in
      record { leads = rw (r.leads, fewer, lead-step (n - j) here c e, f) }
