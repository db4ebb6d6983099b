-- A value that is kept again.
use Rattle.std.proofs.Common.{◌≡◌, ℕ, ◌==◌, Bool, true, false, cond, List, [], ◌∷◌, Some, refl, ap, sym}
use Rattle.std.specs.Option.{option_map}
use Rattle.grant_values.specs.Values.{KeptValue}
use Rattle.grant_model.specs.Grants.{Grant, grant_of, with_grant, with_value}

-- it changes nothing
pub kept_still : (driver : ℕ) (value : KeptValue) (gs : List Grant)
    → option_map (λ g. g.value) (grant_of driver gs) ≡ Some value → with_grant driver (with_value value) gs ≡ gs
kept_still driver value [] is = refl
kept_still driver value (g ∷ gs) is = by_test (g.driver == driver) is (kept_still driver value gs)
  where
    by_test : (b : Bool) → option_map (λ g. g.value) (cond b (Some g) (grant_of driver gs)) ≡ Some value
        → (option_map (λ g. g.value) (grant_of driver gs) ≡ Some value → with_grant driver (with_value value) gs ≡ gs)
        → cond b (with_value value g ∷ gs) (g ∷ with_grant driver (with_value value) gs) ≡ g ∷ gs
    by_test true e later = let same : g.value ≡ value = cc in
        ap (λ v. record g { value = v } ∷ gs) (sym same)
    by_test false e later = ap (λ xs. g ∷ xs) (later e)
