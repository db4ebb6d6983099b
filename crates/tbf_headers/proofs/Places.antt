-- Walking over the places of TLVs one by one.
use Rattle.std.proofs.Common.{◌≡◌, ℕ, zero, suc, ◌+◌, ◌-◌, ◌*◌, ◌<◌, ◌≤◌, ◌==◌, Bool, true, false, cond, ◌⊎◌, List, []}
use Rattle.std.proofs.Common.{◌∷◌, length, take, drop, subst, Option, Some, None, bit_xor, inl, inr, refl, sym, ap, ◌∙◌}
use Rattle.std.proofs.Common.{arith}
use Rattle.std.specs.List.{find}
use Rattle.std.proofs.lemmas.Bool.{le-leb, lt-leb, cases_lt, eqb-true, eqb-false, ltb-false, or_parts, and_cases}
use Rattle.std.proofs.lemmas.Grind.{common_steps}
use Rattle.std.proofs.Math.Numerals.{add-one}
use Rattle.tbf_headers.specs.Numbers.{half, word_at, xor_of_words}
use Rattle.tbf_headers.specs.Tlv.{length_at, least_length, is_bad, first_of, tlv_places}
use Rattle.tbf_headers.specs.Parts.{type_at, is_of_type, first_bad}
use Rattle.tbf_headers.specs.Tlv.{tlv_places_from}
use Rattle.tbf_headers.specs.Parts.{place_after}

-- one word more under the checksum
pub xor_of_words-more : (k : ℕ) (header : List ℕ)
    → xor_of_words (k + 1) header ≡ bit_xor (xor_of_words k header) (cond (k == 3) 0 (word_at header (4 * k)))
xor_of_words-more k header = rw add-one refl

-- no place is at the header's end or past it
pub places_from-end : (n : ℕ) (header : List ℕ) (at : ℕ) → length header ≤ at → tlv_places_from n header at ≡ []
unfolding tlv_places_from
places_from-end zero header at h = refl
places_from-end (suc n) header at h =
    rw (le-leb (length header) at h) refl

-- a place before the end is the first
pub places_from-suc : (n : ℕ) (header : List ℕ) (at : ℕ) → at < length header
    → tlv_places_from (suc n) header at ≡ at ∷ tlv_places_from n header (place_after header at)
unfolding tlv_places_from
places_from-suc n header at h =
    rw (lt-leb (length header) at h) refl

-- any number that suffices gives the same places
pub places_from-enough : (n m : ℕ) (header : List ℕ) (at : ℕ) → length header ≤ at + n → length header ≤ at + m
    → tlv_places_from n header at ≡ tlv_places_from m header at
places_from-enough zero m header at a b =
    places_from-end zero header at (omega arith) ∙ sym (places_from-end m header at (omega arith))
places_from-enough (suc n) zero header at a b =
    places_from-end (suc n) header at (omega arith) ∙ sym (places_from-end zero header at (omega arith))
places_from-enough (suc n) (suc m) header at a b =
    elim (cases_lt at (length header)) [
      | inl h ↦
          rw (
            places_from-suc n header at h,
            places_from-suc m header at h,
            places_from-enough n m header (place_after header at) (omega arith) (omega arith),
          ) refl
      | inr h ↦ places_from-end (suc n) header at h ∙ sym (places_from-end (suc m) header at h)
    ]

-- the place that a walk stands at, and those that are left
pub places_from-step : (header : List ℕ) (at next : ℕ) → at < length header → next ≡ place_after header at
    → tlv_places_from (length header - at) header at ≡ at ∷ tlv_places_from (length header - next) header next
places_from-step header at next h e =
    let one : length header - at ≡ suc (length header - at - 1) = omega arith in
    rw (
      one,
      places_from-suc (length header - at - 1) header at h,
      places_from-enough (length header - at - 1) (length header - next) header (place_after header at) (omega arith)
          (omega arith),
      e,
    ) refl

-- a walk that stands at a place that passes has found the first
pub find_here : (test : ℕ → Bool) (header : List ℕ) (at : ℕ) → at < length header → test at ≡ true
    → find test (tlv_places_from (length header - at) header at) ≡ Some at
find_here test header at h t =
    rw (places_from-step header at (place_after header at) h refl, t) refl

-- it goes on past one that does not
pub find_later : (test : ℕ → Bool) (header : List ℕ) (at next : ℕ) → at < length header → next ≡ place_after header at
    → test at ≡ false
    → find test (tlv_places_from (length header - at) header at)
    ≡ find test (tlv_places_from (length header - next) header next)
find_later test header at next h e t =
    rw (places_from-step header at next h e, t) refl

-- it ends at the header's end
pub find_none : (test : ℕ → Bool) (header : List ℕ) (n at : ℕ) → length header ≤ at
    → find test (tlv_places_from n header at) ≡ None
find_none test header n at h = rw (places_from-end n header at h) refl

none_of_cond : (b : Bool) (x : ℕ) (r : Option ℕ) → cond b (Some x) r ≡ None → (b ≡ false) × (r ≡ None)
none_of_cond true x r e = cc
none_of_cond false x r e = (refl, e)

some_of_cond : (b : Bool) (x at : ℕ) (r : Option ℕ) → cond b (Some x) r ≡ Some at
    → ((b ≡ true) × (x ≡ at)) ⊎ (r ≡ Some at)
some_of_cond true x at r e = inl (refl, cc)
some_of_cond false x at r e = inr e

-- what is found passes the test
pub find_passes : (q : ℕ → Bool) (xs : List ℕ) (at : ℕ) → find q xs ≡ Some at → q at ≡ true
find_passes q [] at some = cc
find_passes q (x ∷ xs) at some =
    elim (some_of_cond (q x) x at (find q xs) some) [
      | inl w ↦ ap q (sym w.1) ∙ w.0
      | inr w ↦ find_passes q xs at w
    ]

-- and fails each test that nothing passes
pub find_fails : (p q : ℕ → Bool) (xs : List ℕ) (at : ℕ) → find p xs ≡ None → find q xs ≡ Some at → p at ≡ false
find_fails p q [] at none some = cc
find_fails p q (x ∷ xs) at none some =
    let failed = none_of_cond (p x) x (find p xs) none in
    elim (some_of_cond (q x) x at (find q xs) some) [
      | inl w ↦ ap p (sym w.1) ∙ failed.0
      | inr w ↦ find_fails p q xs at failed.1 w
    ]

-- what is known of the first TLV of a type where none is bad
pub record IsGood (kind : ℕ) (header : List ℕ) (at : ℕ) : Type 0 where
  pub fits : at + 4 + length_at header at ≤ length header
  pub long : least_length kind ≤ length_at header at
  pub counted : kind ≡ 6 → 2 + 16 * half header (at + 4) ≤ length_at header at

pub IsGood-first : (kind : ℕ) (header : List ℕ) (at : ℕ) → first_bad header ≡ None → first_of kind header ≡ Some at
    → IsGood kind header at
IsGood-first kind header at none some =
    let same : type_at header at ≡ kind =
    eqb-true _ _ (find_passes (is_of_type kind header) (tlv_places header) at some) in
    let parts = or_parts _ _ (find_fails (is_bad header) (is_of_type kind header) (tlv_places header) at none some) in
    let sizes = or_parts _ _ parts.0 in
    record {
      fits = ltb-false _ _ sizes.0;
      long = subst (λ (t : ℕ). least_length t ≤ length_at header at) same (ltb-false _ _ sizes.1);
      counted = λ six. elim (and_cases _ _ parts.1) [
        | inl h ↦ absurd (eqb-false _ _ h (same ∙ six))
        | inr h ↦ ltb-false _ _ h
      ];
    }

-- a number at the start of a part
pub half-part : (xs : List ℕ) (a n : ℕ) → 2 ≤ n → half (take n (drop a xs)) 0 ≡ half xs a
half-part xs a n h = grind (arith, common_steps)

pub length-part : (xs : List ℕ) (a n : ℕ) → a + n ≤ length xs → length (take n (drop a xs)) ≡ n
length-part xs a n h = grind (arith, common_steps)

pub ruleset words_more = (xor_of_words-more)
