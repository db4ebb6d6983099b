-- The mask that a process keeps.
use Rattle.std.proofs.Common.{◌≡◌, ℕ, ◌%◌, ◌^◌, ◌==◌, Bool, true, false, cond, List, [], ◌∷◌, None, Some, option_map}
use Rattle.std.proofs.Common.{refl, ap}
use Rattle.std.proofs.Math.Nat.{zero-div}
use Rattle.tk_base.specs.Bits.{has_bit}
use Rattle.grant_values.specs.Values.{KeptValue}
use Rattle.grant_model.specs.Grants.{Grant, grant_of, with_grant, with_value}

-- no bit of 0 is 1
pub no_bit : (n : ℕ) → has_bit 0 n ≡ false
no_bit n = ap (λ (k : ℕ). k % 2 == 1) (zero-div (2 ^ n))

-- where no value is kept none is put
pub none_put : (driver : ℕ) (value : KeptValue) (gs : List Grant)
    → option_map (λ g. g.value) (grant_of driver gs) ≡ None → with_grant driver (with_value value) gs ≡ gs
none_put driver value [] none = refl
none_put driver value (g ∷ gs) none = by_test (g.driver == driver) none (none_put driver value gs)
  where
    by_test : (b : Bool) → option_map (λ g. g.value) (cond b (Some g) (grant_of driver gs)) ≡ None
        → (option_map (λ g. g.value) (grant_of driver gs) ≡ None → with_grant driver (with_value value) gs ≡ gs)
        → cond b (with_value value g ∷ gs) (g ∷ with_grant driver (with_value value) gs) ≡ g ∷ gs
    by_test true e later = cc
    by_test false e later = ap (λ xs. g ∷ xs) (later e)
