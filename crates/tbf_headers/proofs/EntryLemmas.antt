-- Walking over the entries of Permissions one by one.
use Rattle.std.proofs.Common.{◌≡◌, ℕ, suc, ◌+◌, ◌-◌, ◌<◌, ◌≤◌, Bool, true, false, List, ◌∷◌, refl, arith}
use Rattle.std.specs.List.{list_any}
use Rattle.tbf_headers.specs.Permissions.{Entry, entry_at, entries_from}

-- the entry that a walk stands at, and those that are left
pub entries_from-step : (n : ℕ) (content : List ℕ) (k : ℕ) → k < n
    → entries_from (n - k) content k ≡ entry_at content k ∷ entries_from (n - (k + 1)) content (k + 1)
unfolding entries_from
entries_from-step n content k h =
    let one : n - k ≡ suc (n - (k + 1)) = omega arith in
    rw one refl

-- a walk that stands at an entry that passes has found one
pub any_here : (test : Entry → Bool) (n : ℕ) (content : List ℕ) (k : ℕ) → k < n → test (entry_at content k) ≡ true
    → list_any test (entries_from (n - k) content k) ≡ true
any_here test n content k h t = rw (entries_from-step n content k h, t) refl

-- it goes on past one that does not
pub any_later : (test : Entry → Bool) (n : ℕ) (content : List ℕ) (k : ℕ) → k < n → test (entry_at content k) ≡ false
    → list_any test (entries_from (n - k) content k) ≡ list_any test (entries_from (n - (k + 1)) content (k + 1))
any_later test n content k h t = rw (entries_from-step n content k h, t) refl

-- none is left at the end
pub any_none : (test : Entry → Bool) (n : ℕ) (content : List ℕ) (k : ℕ) → n ≤ k
    → list_any test (entries_from (n - k) content k) ≡ false
unfolding entries_from
any_none test n content k h =
    let none : n - k ≡ 0 = omega arith in
    rw none refl
