-- The first slot with an alarm that is due, and what folds over the slots.
use Rattle.std.proofs.Common.{◌≡◌, ℕ, zero, suc, ◌+◌, ◌-◌, ◌<◌, ◌≤◌, Bool, true, false, find, fold, None, Some, refl}
use Rattle.std.proofs.Common.{sym, arith}
use Rattle.std.specs.List.{range_with_len}

passes_first : (p : ℕ → Bool) (from n m : ℕ) → n ≡ suc m → p from ≡ false
    → find p (range_with_len from n) ≡ find p (range_with_len (from + 1) m)
passes_first p from n m e f = rw (e, f) refl

-- a slot without one is passed
pub passed : (p : ℕ → Bool) (slot to : ℕ) → slot < to → p slot ≡ false
    → find p (range_with_len (slot + 1) (to - (slot + 1))) ≡ find p (range_with_len slot (to - slot))
passed p slot to h f = sym (passes_first p slot (to - slot) (to - (slot + 1)) (omega arith) f)

here : (p : ℕ → Bool) (slot n m : ℕ) → n ≡ suc m → p slot ≡ true → find p (range_with_len slot n) ≡ Some slot
here p slot n m e f = rw (e, f) refl

-- a slot with one is the first
pub found : (p : ℕ → Bool) (slot to : ℕ) → slot < to → p slot ≡ true
    → find p (range_with_len slot (to - slot)) ≡ Some slot
found p slot to h f = here p slot (to - slot) (to - (slot + 1)) (omega arith) f

no_more : (p : ℕ → Bool) (slot n : ℕ) → n ≡ zero → find p (range_with_len slot n) ≡ None
no_more p slot n e = rw (e) refl

-- past the last slot there is none
pub none_left : (p : ℕ → Bool) (slot to : ℕ) → to ≤ slot → find p (range_with_len slot (to - slot)) ≡ None
none_left p slot to h = no_more p slot (to - slot) (omega arith)

folds_first : {A : Type 0} (f : A → ℕ → A) (so_far : A) (from n m : ℕ) → n ≡ suc m
    → fold f (f so_far from) (range_with_len (from + 1) m) ≡ fold f so_far (range_with_len from n)
folds_first f so_far from n m e = rw (e) refl

-- a slot is folded in
pub folded : {A : Type 0} (f : A → ℕ → A) (so_far : A) (slot to : ℕ) → slot < to
    → fold f (f so_far slot) (range_with_len (slot + 1) (to - (slot + 1)))
    ≡ fold f so_far (range_with_len slot (to - slot))
folded f so_far slot to h = folds_first f so_far slot (to - slot) (to - (slot + 1)) (omega arith)

no_fold : {A : Type 0} (f : A → ℕ → A) (so_far : A) (slot n : ℕ) → n ≡ zero
    → so_far ≡ fold f so_far (range_with_len slot n)
no_fold f so_far slot n e = rw (e) refl

-- past the last slot all are
pub all_folded : {A : Type 0} (f : A → ℕ → A) (so_far : A) (slot to : ℕ) → to ≤ slot
    → so_far ≡ fold f so_far (range_with_len slot (to - slot))
all_folded f so_far slot to h = no_fold f so_far slot (to - slot) (omega arith)
