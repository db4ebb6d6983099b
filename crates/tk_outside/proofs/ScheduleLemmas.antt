-- Where no failing call is still to come, the next call does not fail.
use Rattle.std.proofs.Common.{◌≡◌, ℕ, ◌+◌, ◌≤◌, List, [], ◌∷◌, Bool, true, false, ◌||◌, refl, arith, nat_lt, nat_eq}
use Rattle.std.specs.List.{list_any}
use Rattle.std.proofs.lemmas.Bool.Decides.{nat_tests}

or_left : (a b : Bool) → (a || b) ≡ false → a ≡ false
or_left false b e = refl
or_left true b e = e

or_right : (a b : Bool) → (a || b) ≡ false → b ≡ false
or_right false b e = e
or_right true b e = cc

or_none : (a b : Bool) → a ≡ false → b ≡ false → (a || b) ≡ false
or_none a b p q = rw (p, q)

test_above : (n m f : ℕ) → n ≤ m → nat_lt n f ≡ false → nat_lt m f ≡ false
test_above n m f h e = grind (arith, nat_tests)

test_next : (n f : ℕ) → nat_lt n f ≡ false → nat_eq f (n + 1) ≡ false
test_next n f e = grind (arith, nat_tests)

pub none_above : (n m : ℕ) (fs : List ℕ) → n ≤ m → list_any (λ f. nat_lt n f) fs ≡ false
    → list_any (λ f. nat_lt m f) fs ≡ false
none_above n m [] h e = refl
none_above n m (f ∷ fs) h e =
    or_none _ _ (test_above n m f h (or_left _ _ e)) (none_above n m fs h (or_right (nat_lt n f) _ e))

pub none_next : (n : ℕ) (fs : List ℕ) → list_any (λ f. nat_lt n f) fs ≡ false
    → list_any (λ f. nat_eq f (n + 1)) fs ≡ false
none_next n [] e = refl
none_next n (f ∷ fs) e = or_none _ _ (test_next n f (or_left _ _ e)) (none_next n fs (or_right (nat_lt n f) _ e))
