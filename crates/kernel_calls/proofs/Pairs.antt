-- Two lists side by side.
use Rattle.std.proofs.Common.{◌≡◌, ℕ, zero, suc, List, [], ◌∷◌, ◌++◌, length, slice_get, slice_set, get_or, map, All}
use Rattle.std.proofs.Common.{Some, refl, ap, subst, ◌∙◌, arith}
use Rattle.std.specs.Option.{option_map}
use Rattle.std.specs.List.{zip}

-- a pair at a place is replaced by replacing both
pub zip-set : {X Y : Type 0} (xs : List X) (ys : List Y) (i : ℕ) (x : X) (y : Y)
    → zip (slice_set xs i x) (slice_set ys i y) ≡ slice_set (zip xs ys) i (x, y)
zip-set [] ys i x y = refl
zip-set (a ∷ xs) (b ∷ ys) (suc i) x y = ap (λ zs. (a, b) ∷ zs) (zip-set xs ys i x y)
zip-set (a ∷ xs) [] zero x y = refl
zip-set (a ∷ xs) [] (suc i) x y = refl
zip-set (a ∷ xs) (b ∷ ys) zero x y = refl

-- the pair at a place
pub zip-get : {X Y : Type 0} (xs : List X) (ys : List Y) (i : ℕ) (x : X) (y : Y) → slice_get xs i ≡ Some x
    → slice_get ys i ≡ Some y → slice_get (zip xs ys) i ≡ Some (x, y)
zip-get [] ys i x y e f = cc
zip-get (a ∷ xs) [] i x y e f = cc
zip-get (a ∷ xs) (b ∷ ys) zero x y e f = cc
zip-get (a ∷ xs) (b ∷ ys) (suc i) x y e f = zip-get xs ys i x y e f

-- one more pair at the end
pub zip-more : {X Y : Type 0} (xs : List X) (ys : List Y) (x : X) (y : Y) → length ys ≡ length xs
    → zip (xs ++ x ∷ []) (ys ++ y ∷ []) ≡ zip xs ys ++ (x, y) ∷ []
zip-more [] [] x y e = refl
zip-more [] (b ∷ ys) x y e = cc
zip-more (a ∷ xs) [] x y e = cc
zip-more (a ∷ xs) (b ∷ ys) x y e = ap (λ zs. (a, b) ∷ zs) (zip-more xs ys x y (omega (arith, e)))

-- what is read of the first of each pair
pub map-firsts : {X Y Z : Type 0} (f : X × Y → Z) (g : X → Z) (xs : List X) (ys : List Y) → ((p : X × Y) → f p ≡ g p.0)
    → length ys ≡ length xs → map f (zip xs ys) ≡ map g xs
map-firsts f g [] ys same n = refl
map-firsts f g (x ∷ xs) [] same n = cc
map-firsts f g (x ∷ xs) (y ∷ ys) same n =
    ap (λ z. z ∷ map f (zip xs ys)) (same (x, y)) ∙ ap (λ zs. g x ∷ zs) (map-firsts f g xs ys same (omega (arith, n)))

pub get-firsts : {X Y : Type 0} (xs : List X) (ys : List Y) (i : ℕ) → length ys ≡ length xs
    → slice_get xs i ≡ option_map (λ (p : X × Y). p.0) (slice_get (zip xs ys) i)
get-firsts [] ys i n = refl
get-firsts (x ∷ xs) [] i n = cc
get-firsts (x ∷ xs) (y ∷ ys) zero n = refl
get-firsts (x ∷ xs) (y ∷ ys) (suc i) n = get-firsts xs ys i (omega (arith, n))

-- the pair at a place, or the default
pub get_or-zip : {X Y : Type 0} (xs : List X) (ys : List Y) (i : ℕ) (d : X) (e : Y) → length ys ≡ length xs
    → get_or (zip xs ys) i (d, e) ≡ (get_or xs i d, get_or ys i e)
get_or-zip [] [] i d e n = refl
get_or-zip [] (y ∷ ys) i d e n = cc
get_or-zip (x ∷ xs) [] i d e n = cc
get_or-zip (x ∷ xs) (y ∷ ys) zero d e n = refl
get_or-zip (x ∷ xs) (y ∷ ys) (suc i) d e n = get_or-zip xs ys i d e (omega (arith, n))

pub length-firsts : {X Y : Type 0} (xs : List X) (ys : List Y) → length ys ≡ length xs → length (zip xs ys) ≡ length xs
length-firsts [] ys n = refl
length-firsts (x ∷ xs) [] n = cc
length-firsts (x ∷ xs) (y ∷ ys) n = ap suc (length-firsts xs ys (omega (arith, n)))

-- what holds of the first of each pair
pub all-firsts : {X Y : Type 0} (P : X × Y → Type 0) (Q : X → Type 0) (xs : List X) (ys : List Y) (e : Y)
    → length ys ≡ length xs → ((p : X × Y) → P p → Q p.0) → All P (zip xs ys) → All Q xs
all-firsts P Q xs ys e n so all i d h =
    subst (λ (p : _ × _). Q p.0) (get_or-zip xs ys i d e n)
    (so _ (all i (d, e) (omega (arith, h, length-firsts xs ys n))))
