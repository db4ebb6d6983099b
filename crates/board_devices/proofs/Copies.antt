-- Copies of one value.
use Rattle.std.proofs.Common.{◌≡◌, ℕ, zero, suc, ◌+◌, List, [], ◌∷◌, ◌++◌, drop, map, replicate, slice_index_or}
use Rattle.std.proofs.Common.{slice_set, take}
use Rattle.std.proofs.Common.{◌<◌, length, ap, refl, ◌∙◌, arith}

-- one copy more
pub replicate-push : {X : Type 0} (n : ℕ) (x : X) → replicate n x ++ x ∷ [] ≡ replicate (n + 1) x
replicate-push zero x = refl
replicate-push (suc n) x =
    let next : suc (n + 1) ≡ suc n + 1 = omega arith in
    ap (λ xs. x ∷ xs) (replicate-push n x) ∙ ap (λ (k : ℕ). replicate k x) next

-- a list of which the elements before a place were changed, once that at the place is too
changed_at : {X : Type 0} (f : X → X) (xs : List X) (i : ℕ) (d : X) → i < length xs
    → slice_set (map f (take i xs) ++ drop i xs) i (f (slice_index_or (map f (take i xs) ++ drop i xs) i d))
    ≡ map f (take (suc i) xs) ++ drop (suc i) xs
changed_at f [] i d below = absurd (omega (arith, below))
changed_at f (y ∷ ys) zero d below = refl
changed_at f (y ∷ ys) (suc i) d below = ap (λ zs. f y ∷ zs) (changed_at f ys i d (omega (arith, below)))

pub changed_up_to : {X : Type 0} (f : X → X) (xs : List X) (i : ℕ) (d : X) → i < length xs
    → slice_set (map f (take i xs) ++ drop i xs) i (f (slice_index_or (map f (take i xs) ++ drop i xs) i d))
    ≡ map f (take (i + 1) xs) ++ drop (i + 1) xs
changed_up_to f xs i d below =
    let next : suc i ≡ i + 1 = omega arith in
    changed_at f xs i d below ∙ ap (λ (n : ℕ). map f (take n xs) ++ drop n xs) next
