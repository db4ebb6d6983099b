-- What holds of each row of a table holds of the one that is found.
use Rattle.std.proofs.Common.{◌≡◌, ℕ, ◌==◌, Bool, true, List, [], ◌∷◌, find, Option, None, Some}
use Rattle.std.proofs.Common.{unwrap_or, subst, refl, eqb-true}
use Rattle.std.specs.Option.{option_map}
use Rattle.tk_base.specs.declared.call.CallRule.TheVariants.{NoCommand}
use Rattle.grant_values.specs.declared.drivers.Driver.{Driver}
use Rattle.grant_values.specs.Drivers.{driver_of, drivers, number_of_driver}
use Rattle.process_model.specs.Own.{Own}
use Rattle.driver_model.specs.Commands.{Commanded, by_number, refusing}
use Rattle.driver_model.specs.Drivers.{CommandHandler, handler_by, handler_of}
use Rattle.std.proofs.lemmas.Bool.{cases_Bool, cond_both}
use Rattle.std.proofs.lemmas.Option.{same_Some}
use Rattle.std.proofs.Common.{inl, inr, ◌⊎◌}

unfoldable pub Each : {X : Type 0} → (X → Type 0) → List (ℕ × X) → Type 0
Each P [] = Unit {0}
Each P (row ∷ rows) = P row.1 × Each P rows

-- the same of each row that has a number
unfoldable pub EachAt : {X : Type 0} → ℕ → (X → Type 0) → List (ℕ × X) → Type 0
EachAt number P [] = Unit {0}
EachAt number P (row ∷ rows) = ((row.0 == number) ≡ true → P row.1) × EachAt number P rows

each_at : {X : Type 0} (P : X → Type 0) (rows : List (ℕ × X)) (number : ℕ) → Each P rows → EachAt number P rows
unfolding Each EachAt
each_at P [] number each = tt
each_at P (row ∷ rows) number each = (λ is. each.0, each_at P rows number each.1)

-- a row found by its number, where there is one
if_found : {X : Type 0} (P : X → Type 0) (Q : Option (ℕ × X) → Type 0) (rows : List (ℕ × X)) (number : ℕ)
    → EachAt number P rows → Q None → ((row : ℕ × X) → P row.1 → Q (Some row))
    → Q (find (λ (row : ℕ × X). row.0 == number) rows)
unfolding EachAt
if_found P Q [] number each none some = none
if_found P Q (row ∷ rows) number each none some =
    cond_both (row.0 == number) _ _ Q (λ is. some row (each.0 is)) (λ e. if_found P Q rows number each.1 none some)

-- an option is none, or something
pub cases_Option : {X : Type 0} (o : Option X) → (o ≡ None) ⊎ ((x : X) × (o ≡ Some x))
cases_Option None = inl refl
cases_Option (Some x) = inr (x, refl)

-- what is found passes the test
pub found_passes : {X : Type 0} (p : X → Bool) (xs : List X) (x : X) → find p xs ≡ Some x → p x ≡ true
found_passes p [] x e = cc
found_passes p (y ∷ ys) x e =
    elim (cases_Bool (p y)) [
      | inl f ↦ rw (← same_Some y x (rw f at e)) f
      | inr f ↦ found_passes p ys x (rw f at e)
    ]

-- what comes of a command, where its number may not be there
pub commanded_at : (P : Commanded → Type 0) (own : Own) (rows : List (ℕ × Commanded)) (number : ℕ)
    → P (refusing NoCommand own) → EachAt number P rows → P (by_number (λ o. rows) number own)
commanded_at P own rows number none each =
    if_found P (λ row. P (unwrap_or (option_map (λ r. r.1) row) (refusing NoCommand own))) rows number each none
    (λ row here. here)

pub commanded : (P : Commanded → Type 0) (own : Own) (rows : List (ℕ × Commanded)) (number : ℕ)
    → P (refusing NoCommand own) → Each P rows → P (by_number (λ o. rows) number own)
commanded P own rows number none each = commanded_at P own rows number none (each_at P rows number each)

-- a driver that takes commands, which has that number
pub taken : (P : CommandHandler → Type 0) (driver : ℕ) (taker : CommandHandler) → handler_of driver ≡ Some taker
    → ((d : Driver) → number_of_driver d ≡ driver → P (handler_by d)) → P taker
taken P driver taker is each = by_driver (driver_of driver) refl is
  where
    by_driver : (d : Option Driver) → driver_of driver ≡ d → option_map handler_by d ≡ Some taker → P taker
    by_driver None there e = absurd (cc)
    by_driver (Some d) there e = let same : handler_by d ≡ taker = cc in
        subst P same (each d (eqb-true _ driver (found_passes (λ x. number_of_driver x == driver) drivers d there)))
