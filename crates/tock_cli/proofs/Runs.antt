-- Runs by the round robin, step by step.
use Rattle.std.proofs.Common.{◌≡◌, ℕ, zero, suc, ◌+◌, List, [], ◌∷◌, ◌++◌, Option, None, Some}
use Rattle.std.proofs.Common.{refl, ap, arith}
use Rattle.std.proofs.lemmas.Bool.{cond_both}
use Rattle.std.proofs.lemmas.Grind.{flat_map-append}
use Rattle.std.specs.List.{flat_map}
use Rattle.tk_base.specs.declared.process.Choice.{Choice}
use Rattle.kernel_model.specs.World.{World, Stepped, after, carried_out, is_ready}
use Rattle.kernel_model.specs.World.{labels, stepped, unmade}
use Rattle.kernel_model.specs.Run.{next, round, stays, runs_on, printed}
use Rattle.kernel_model.specs.Parts.{on_choice}
use Rattle.kernel_model.specs.Parts.{told_first}
use Rattle.run_text.specs.Parts.{Step, step_of, steps}

-- what holds where nothing is made, and of what a choice comes to where it is ready, holds of a step
pub of_stepped : (P : Stepped → Type 0) (w : World) (c : Choice) → P (unmade w) → P (carried_out w c) → P (stepped w c)
unfolding stepped
of_stepped P w c none made = cond_both (is_ready w c) (carried_out w c) (unmade w) P (λ _. made) (λ _. none)

-- what is next, or that nothing is
pub by_next : {P : Type 0} (o : Option Choice) → (o ≡ None → P) → ((c : Choice) → o ≡ Some c → P) → P
by_next None none some = none refl
by_next (Some c) none some = some c refl

-- a run that stops at once
pub round-stop : (n : ℕ) (w : World) → next w ≡ None → round n w ≡ stays w
unfolding round
round-stop zero w e = refl
round-stop (suc n) w e = ap (on_choice (stays w) (λ choice. runs_on (round n) (stepped w choice))) e

-- a run that makes a step
pub round-step : (n : ℕ) (w : World) (c : Choice) → next w ≡ Some c
    → round (suc n) w ≡ told_first (labels w c) (round n (after w c))
unfolding round
round-step n w c e = ap (on_choice (stays w) (λ choice. runs_on (round n) (stepped w choice))) e

pub round-zero : (w : World) → round zero w ≡ stays w
unfolding round
round-zero w = refl

-- a run of i steps that can go on makes one step more
pub round-more : (i : ℕ) (w : World) (c : Choice) → next (round i w).world ≡ Some c
    → (round (suc i) w).world ≡ after (round i w).world c
round-more zero w c e =
    rw (round-zero w) (rw (round-step zero w c (rw (round-zero w) at e), round-zero (after w c)) refl)
round-more (suc i) w c e =
    by_next (next w) (λ f.
    let stopped : (round (suc i) w).world ≡ w = rw (round-stop (suc i) w f) refl in
    let none : next (round (suc i) w).world ≡ None = rw stopped f in
    cc) (λ d f.
    rw (round-step (suc i) w d f, round-step i w d f)
    (round-more i (after w d) c (rw (round-step i w d f) at e)))

-- the bytes that steps printed
abbrev pub printed_in : List Step → List ℕ
printed_in steps = flat_map (λ step. printed step.labels) steps

pub steps-stop : (n : ℕ) (w : World) → next w ≡ None → steps n w ≡ []
unfolding steps
steps-stop zero w e = refl
steps-stop (suc n) w e = ap (on_choice [] (λ choice. step_of w choice ∷ steps n (after w choice))) e

pub steps-step : (n : ℕ) (w : World) (c : Choice) → next w ≡ Some c
    → steps (suc n) w ≡ step_of w c ∷ steps n (after w c)
unfolding steps
steps-step n w c e = ap (on_choice [] (λ choice. step_of w choice ∷ steps n (after w choice))) e

pub steps-zero : (w : World) → steps zero w ≡ []
unfolding steps
steps-zero w = refl

-- the steps of a run are those of its front, and then those of the rest
pub steps-plus : (k m n : ℕ) (w : World) → n ≡ k + m → steps n w ≡ steps k w ++ steps m (round k w).world
steps-plus zero m n w e =
    let same : n ≡ m = omega arith in
    rw (same, steps-zero w, round-zero w) refl
steps-plus (suc k) m n w e =
    let one : n ≡ suc (k + m) = omega arith in
    rw one (by_next (next w) (λ f.
    rw (steps-stop (suc (k + m)) w f, steps-stop (suc k) w f, round-stop (suc k) w f, steps-stop m w f) refl) (λ c f.
    rw (
      steps-step (k + m) w c f,
      steps-step k w c f,
      round-step k w c f,
      steps-plus k m (k + m) (after w c) refl,
    ) refl))

-- what a run prints is what its steps print
pub printed-round : (n : ℕ) (w : World) → printed (round n w).labels ≡ printed_in (steps n w)
printed-round zero w = rw (round-zero w, steps-zero w) refl
printed-round (suc n) w =
    by_next (next w) (λ e. rw (round-stop (suc n) w e, steps-stop (suc n) w e) refl) (λ c e.
    rw (round-step n w c e, steps-step n w c e, ← printed-round n (after w c)) (flat_map-append _ (labels w c) _))
