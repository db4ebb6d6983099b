-- A process that lives is not stale in its life.
use Rattle.std.proofs.Common.{◌≡◌, ℕ, ◌==◌, ◌&&◌, not, Bool, true, false, refl, ap, ◌∙◌, eqb-true, eq-eqb}
use Rattle.process_model.specs.Own.{Own}
use Rattle.process_seat.specs.Visits.{is_stale}

both : (a b : Bool) → not (a && b) ≡ false → (a ≡ true) × (b ≡ true)
both true true e = (refl, refl)
both true false e = cc
both false b e = cc

-- one that is not stale lives, in that life
pub lives_so : (own : Own) (life : ℕ) → is_stale life own ≡ false → (own.lives ≡ true) × (own.life ≡ life)
lives_so own life fresh =
    let t = both own.lives (own.life == life) fresh in (t.0, eqb-true own.life life t.1)

-- one that lives is not stale in its present life
pub lives_on : (own : Own) → own.lives ≡ true → is_stale own.life own ≡ false
lives_on own lives =
    ap (λ (b : Bool). not (b && own.life == own.life)) lives ∙ ap not (eq-eqb own.life own.life refl)
