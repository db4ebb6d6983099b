-- One step of a walk over the objects of a flash image.
use Rattle.std.proofs.Common.{◌≡◌, ℕ, zero, suc, ◌+◌, ◌-◌, ◌<◌, ◌≤◌, Bool, true, false, cond, List, [], ◌∷◌, ◌++◌, Some}
use Rattle.std.proofs.Common.{None, refl, sym, ap, ◌∙◌, append_assoc, arith}
use Rattle.std.proofs.lemmas.Grind.{common_steps}
use Rattle.flash_walk.specs.declared.found.Found.{Found}
use Rattle.flash_walk.specs.Image.{ends_at, found_at, size_at, objects_from}

none_of_cond : (b : Bool) (x : Found) → None ≡ cond b None (Some x) → b ≡ true
none_of_cond true x e = refl
none_of_cond false x e = cc

some_of_cond : (b : Bool) (x o : Found) → Some o ≡ cond b None (Some x) → (b ≡ false) × (o ≡ x)
some_of_cond true x o e = cc
some_of_cond false x o e = (refl, cc)

-- nothing is left where the walk ends
objects_from-end : (n : ℕ) (flash : List ℕ) (at : ℕ) → ends_at flash at ≡ true → objects_from n flash at ≡ []
unfolding objects_from
objects_from-end zero flash at h = refl
objects_from-end (suc n) flash at h =
    ap (λ b. cond b [] (found_at flash at ∷ objects_from n flash (at + size_at flash at))) h

-- where it does not, the object comes first
objects_from-suc : (n : ℕ) (flash : List ℕ) (at : ℕ) → ends_at flash at ≡ false
    → objects_from (suc n) flash at ≡ found_at flash at ∷ objects_from n flash (at + size_at flash at)
unfolding objects_from
objects_from-suc n flash at h = ap (λ b. cond b [] (found_at flash at ∷ objects_from n flash (at + size_at flash at))) h

size-found_at : (flash : List ℕ) (at : ℕ) → (found_at flash at).size ≡ size_at flash at
unfolding found_at
size-found_at flash at = refl

-- what a walk has found where it ends
pub whole_at_end : (whole items : List Found) (n : ℕ) (flash : List ℕ) (at : ℕ)
    → items ++ objects_from n flash at ≡ whole → None ≡ cond (ends_at flash at) None (Some (found_at flash at))
    → items ≡ whole
whole_at_end whole items n flash at left e =
    let none = objects_from-end n flash at (none_of_cond _ _ e) in grind (arith, common_steps)

-- what is left behind the object at its place
pub whole_after_one : (whole items : List Found) (most k : ℕ) (flash : List ℕ) (at : ℕ) (o : Found) → k < most
    → items ++ objects_from (most - k) flash at ≡ whole
    → Some o ≡ cond (ends_at flash at) None (Some (found_at flash at))
    → (items ++ o ∷ []) ++ objects_from (most - (k + 1)) flash (at + o.size) ≡ whole
whole_after_one whole items most k flash at o h left e =
    let parts = some_of_cond (ends_at flash at) (found_at flash at) o e in
    let one : most - k ≡ suc (most - (k + 1)) = omega arith in
    let next : at + size_at flash at ≡ at + o.size =
    ap (λ (n : ℕ). at + n) (sym (size-found_at flash at) ∙ ap (λ (f : Found). f.size) (sym parts.1)) in
    append_assoc items (o ∷ []) _
    ∙ ap (λ (f : Found). items ++ f ∷ objects_from (most - (k + 1)) flash (at + o.size)) parts.1
    ∙ ap (λ (p : ℕ). items ++ found_at flash at ∷ objects_from (most - (k + 1)) flash p) (sym next)
    ∙ ap (λ (xs : List Found). items ++ xs)
    (sym (ap (λ n. objects_from n flash at) one ∙ objects_from-suc (most - (k + 1)) flash at parts.0))
    ∙ left

-- a walk that has found as many as it may has found all
pub whole_when_full : (whole items : List Found) (most k : ℕ) (flash : List ℕ) (at : ℕ) → most ≤ k
    → items ++ objects_from (most - k) flash at ≡ whole → items ≡ whole
unfolding objects_from
whole_when_full whole items most k flash at h left =
    let none : most - k ≡ 0 = omega arith in
    let gone : objects_from (most - k) flash at ≡ [] = ap (λ n. objects_from n flash at) none in
    grind (arith, common_steps)
