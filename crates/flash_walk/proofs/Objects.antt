-- What is known of the objects of a flash image.
use Rattle.std.proofs.Common.{◌≡◌, ℕ, zero, suc, ◌+◌, ◌-◌, ◌%◌, ◌≤◌, Bool, true, false, not, ◌||◌, ◌==◌, nat_lt, cond}
use Rattle.std.proofs.Common.{List, [], ◌∷◌, length, All, refl, arith}
use Rattle.std.proofs.lemmas.Bool.Decides.{nat_tests}
use Rattle.std.proofs.lemmas.List.Elements.{All-nil, All-cons, All-weaker}
use Rattle.tk_base.specs.declared.limits.TheConstants.{OBJECT_LIMIT}
use Rattle.flash_walk.specs.declared.found.Found.{Found}
use Rattle.flash_walk.specs.Image.{size_at, ends_at, found_at, objects_from, objects, IsObject}
use Rattle.flash_walk.specs.Laws.{HasItsSize}

-- an object that was found, and where its size stands
record IsFound (flash : List ℕ) (f : Found) : Type 0 where
  object : IsObject flash f
  size : HasItsSize flash f

-- the sizes of an object, where one stands
record IsSized (left size : ℕ) : Type 0 where
  large : 16 ≤ size
  aligned : size % 4 ≡ 0
  within : size ≤ left

sized_where_one_stands : (left size : ℕ) (v : Bool)
    → (nat_lt left 16 || v || nat_lt size 16 || not (size % 4 == 0) || nat_lt left size) ≡ false → IsSized left size
sized_where_one_stands left size v h =
    record { large = grind (arith, nat_tests); aligned = grind (arith, nat_tests); within = grind (arith, nat_tests) }

found_at-found : (flash : List ℕ) (at : ℕ) → at % 4 ≡ 0 → IsSized (length flash - at) (size_at flash at)
    → IsFound flash (found_at flash at)
unfolding found_at
found_at-found flash at h s = record {
  object = record { large = s.large; within = omega arith; aligned = h; judged = refl };
  size = refl;
}

all_of_cond : (P : Found → Type 0) (b : Bool) (x : Found) (xs : List Found) → (b ≡ false → P x) → (b ≡ false → All P xs)
    → All P (cond b [] (x ∷ xs))
all_of_cond P true x xs p ps = All-nil P
all_of_cond P false x xs p ps = All-cons P x xs (p refl) (ps refl)

objects_from-found : (n : ℕ) (flash : List ℕ) (at : ℕ) → at % 4 ≡ 0 → All (IsFound flash) (objects_from n flash at)
unfolding objects_from
objects_from-found zero flash at h = All-nil (IsFound flash)
objects_from-found (suc n) flash at h =
    let sized : ends_at flash at ≡ false
    → IsSized (length flash - at) (size_at flash at) =
    sized_where_one_stands (length flash - at) (size_at flash at) _ in
    all_of_cond (IsFound flash) (ends_at flash at) (found_at flash at) (objects_from n flash (at + size_at flash at))
    (λ e. found_at-found flash at h (sized e))
    (λ e. objects_from-found n flash (at + size_at flash at)
    (let s : IsSized (length flash - at) (size_at flash at) = sized e in omega arith))

-- all objects of a flash image lie in it
pub objects-objects : (flash : List ℕ) → All (IsObject flash) (objects flash)
objects-objects flash =
    All-weaker (IsFound flash) (IsObject flash) (λ f h. h.object) (objects flash)
    (objects_from-found OBJECT_LIMIT flash 0 refl)

-- all objects of a flash image have their sizes
pub objects-sized : (flash : List ℕ) → All (HasItsSize flash) (objects flash)
objects-sized flash =
    All-weaker (IsFound flash) (HasItsSize flash) (λ f h. h.size) (objects flash)
    (objects_from-found OBJECT_LIMIT flash 0 refl)

length_cond : (b : Bool) (n : ℕ) (x : Found) (xs : List Found) → length xs ≤ n → length (cond b [] (x ∷ xs)) ≤ suc n
length_cond true n x xs h = omega arith
length_cond false n x xs h = omega arith

length-objects_from : (n : ℕ) (flash : List ℕ) (at : ℕ) → length (objects_from n flash at) ≤ n
unfolding objects_from
length-objects_from zero flash at = omega arith
length-objects_from (suc n) flash at =
    length_cond (ends_at flash at) n (found_at flash at) _ (length-objects_from n flash (at + size_at flash at))

-- there are no more than are found at most
pub length-objects : (flash : List ℕ) → length (objects flash) ≤ OBJECT_LIMIT
length-objects flash = length-objects_from OBJECT_LIMIT flash 0
