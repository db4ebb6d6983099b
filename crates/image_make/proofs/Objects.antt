-- The objects of an image, one after another.
use Rattle.std.proofs.Common.{◌≡◌, ℕ, suc, ◌+◌, List, ◌++◌, append_assoc, append-nil, ap, ◌∙◌}
use Rattle.image_make.specs.Generator.{object_of, soak_objects}
use Rattle.image_make.specs.Parts.{fourth}

objects-suc : (n m k x : ℕ) → n ≡ suc m → soak_objects n k x ≡ object_of k x ++ soak_objects m (k + 1) (fourth x)
unfolding soak_objects
objects-suc n m k x e = ap (λ (j : ℕ). soak_objects j k x) e

-- one object more, from the next four draws
pub objects-more : (n m k x last : ℕ) (before flash : List ℕ) → n ≡ suc m → last ≡ fourth x
    → flash ≡ before ++ object_of k x → flash ++ soak_objects m (k + 1) last ≡ before ++ soak_objects n k x
objects-more n m k x last before flash e l h =
    cc (objects-suc n m k x e, append_assoc before (object_of k x) (soak_objects m (k + 1) last))

-- no object more
pub objects-none : (n k x : ℕ) (flash : List ℕ) → n ≡ 0 → flash ++ soak_objects n k x ≡ flash
unfolding soak_objects
objects-none n k x flash e = ap (λ (j : ℕ). flash ++ soak_objects j k x) e ∙ append-nil flash
