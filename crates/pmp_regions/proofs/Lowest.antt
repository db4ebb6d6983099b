-- A search from entry 0 on finds the lowest entry that matches.
use Rattle.std.proofs.Common.{◌≡◌, ℕ, zero, suc, ◌+◌, ◌<◌, ◌≤◌, List, [], ◌∷◌, Bool, true, false, None, Some, refl}
use Rattle.std.proofs.Common.{arith}
use Rattle.std.specs.List.{find}
use Rattle.tk_base.specs.declared.access.Width.{Width}
use Rattle.pmp_regions.specs.declared.Entry.{Entry}
use Rattle.pmp_regions.specs.Check.{matches_any, deciding}

-- so many numbers from one on
abbrev from : ℕ → ℕ → List ℕ
from n zero = []
from n (suc k) = n ∷ from (suc n) k

find_from : (p : ℕ → Bool) (n k i : ℕ) → n ≤ i → i < n + k → ((j : ℕ) → n ≤ j → j < i → p j ≡ false) → p i ≡ true
    → find p (from n k) ≡ Some i
find_from p n zero i low high below here = absurd (omega arith)
find_from p n (suc k) i low high below here = grind (arith, find_from p (suc n) k i, below n)

find_none : (p : ℕ → Bool) (n k : ℕ) → ((j : ℕ) → n ≤ j → j < n + k → p j ≡ false) → find p (from n k) ≡ None
find_none p n zero below = refl
find_none p n (suc k) below = grind (arith, find_none p (suc n) k, below n)

-- no entry below one matches
abbrev pub NoneBelow : List Entry → ℕ → Width → ℕ → Type 0
NoneBelow pmp at width n = (k : ℕ) → k < n → matches_any pmp k at width ≡ false

pub deciding_first : (pmp : List Entry) (at : ℕ) (width : Width) (i : ℕ) → i < 8 → NoneBelow pmp at width i
    → matches_any pmp i at width ≡ true → deciding pmp at width ≡ Some i
unfolding deciding
deciding_first pmp at width i high below here =
    find_from (λ k. matches_any pmp k at width) 0 8 i (omega arith) (omega arith) (λ j _ h. below j h) here

pub deciding_none : (pmp : List Entry) (at : ℕ) (width : Width) → NoneBelow pmp at width 8
    → deciding pmp at width ≡ None
unfolding deciding
deciding_none pmp at width below = find_none (λ k. matches_any pmp k at width) 0 8 (λ j _ h. below j h)
