-- What a change before the elements of a header leaves of them.
use Rattle.std.proofs.Common.{◌≡◌, ℕ, zero, suc, ◌+◌, ◌-◌, ◌*◌, ◌/◌, ◌≤◌, ◌==◌, Bool, true, false, cond, ◌⊎◌}
use Rattle.std.proofs.Common.{inl, inr, List, length, slice_range, Option, Some, None, option_map}
use Rattle.std.proofs.Common.{refl, ap, ◌∙◌, ◌<◌, arith}
use Rattle.std.specs.List.{find}
use Rattle.std.proofs.lemmas.Bool.{cases_lt, cases_eq, eq-eqb}
use Rattle.tbf_headers.specs.Numbers.{word_at, xor_of_words, checksum}
use Rattle.tbf_headers.specs.Tlv.{length_at, is_bad, first_of, content, tlv_places_from}
use Rattle.tbf_headers.specs.Parts.{is_of_type, first_bad}
use Rattle.tbf_headers.specs.Parts.{place_after}
use Rattle.std.proofs.lemmas.Option.{none-some}
use Rattle.tbf_headers.proofs.Places.{places_from-suc, places_from-end}
use Rattle.image_make.proofs.Likeness.{IsLike, half_above, word_above, word_below, range_above}

pub place_after_like : (b : ℕ) (h g : List ℕ) (at : ℕ) → IsLike 0 b h g → b ≤ at → place_after g at ≡ place_after h at
place_after_like b h g at l from = rw (half_above (at + 2) l (omega arith)) refl

pub places_from_like : (b n : ℕ) (h g : List ℕ) (at : ℕ) → IsLike 0 b h g → b ≤ at
    → tlv_places_from n g at ≡ tlv_places_from n h at
unfolding tlv_places_from
places_from_like b zero h g at l from = refl
places_from_like b (suc n) h g at l from =
    rw (l.size, place_after_like b h g at l from, places_from_like b n h g (place_after h at) l (omega arith)) refl

pub is_bad_like : (b : ℕ) (h g : List ℕ) (at : ℕ) → IsLike 0 b h g → b ≤ at → is_bad g at ≡ is_bad h at
is_bad_like b h g at l from =
    cc (l.size, half_above at l from, half_above (at + 2) l (omega arith), half_above (at + 4) l (omega arith))

-- the first element that passes a test, or one behind it
pub some_of_cond : {A : Type 0} (b : Bool) (x p : A) (r : Option A) → cond b (Some x) r ≡ Some p
    → (x ≡ p) ⊎ (r ≡ Some p)
some_of_cond true x p r e = inl (cc)
some_of_cond false x p r e = inr e

-- the first place that passes a test, or one behind it
pub first_or_later : (n : ℕ) (t : ℕ → Bool) (h : List ℕ) (at p : ℕ) → find t (tlv_places_from (suc n) h at) ≡ Some p
    → (at < length h) × ((at ≡ p) ⊎ (find t (tlv_places_from n h (place_after h at)) ≡ Some p))
first_or_later n t h at p e =
    elim (cases_lt at (length h)) [
      | inr past ↦ absurd (none-some p (rw (places_from-end (suc n) h at past) at e))
      | inl low ↦ (low, some_of_cond (t at) at p _ (rw (places_from-suc n h at low) at e))
    ]

-- what is found from a place on does not lie before it
pub find_from : (n : ℕ) (t : ℕ → Bool) (h : List ℕ) (at p : ℕ) → find t (tlv_places_from n h at) ≡ Some p → at ≤ p
unfolding tlv_places_from
find_from zero t h at p e = cc
find_from (suc n) t h at p e =
    elim (first_or_later n t h at p e).1 [
      | inl w ↦ omega arith
      | inr w ↦ let rest = find_from n t h (place_after h at) p w in omega arith
    ]

-- tests that agree from a place on find the same
pub find_like : (b n : ℕ) (t u : ℕ → Bool) (h g : List ℕ) (at : ℕ) → IsLike 0 b h g → b ≤ at
    → ((p : ℕ) → b ≤ p → u p ≡ t p) → find u (tlv_places_from n g at) ≡ find t (tlv_places_from n h at)
unfolding tlv_places_from
find_like b n t u h g at l from same = rw (places_from_like b n h g at l from) (find_same n at from)
  where
    find_same : (n : ℕ) (at : ℕ) → b ≤ at → find u (tlv_places_from n h at) ≡ find t (tlv_places_from n h at)
    find_same zero at from = refl
    find_same (suc n) at from =
        elim (cases_lt at (length h)) [
          | inr past ↦ rw (places_from-end (suc n) h at past) refl
          | inl low ↦ rw (places_from-suc n h at low, same at from, find_same n (place_after h at) (omega arith)) refl
        ]

pub first_bad_like : (h g : List ℕ) → IsLike 0 16 h g → first_bad g ≡ first_bad h
first_bad_like h g l =
    rw l.size (find_like 16 (length h - 16) (is_bad h) (is_bad g) h g 16 l (omega arith)
    (λ p from. is_bad_like 16 h g p l from))

first_of_like : (kind : ℕ) (h g : List ℕ) → IsLike 0 16 h g → first_of kind g ≡ first_of kind h
first_of_like kind h g l =
    rw l.size (find_like 16 (length h - 16) (is_of_type kind h) (is_of_type kind g) h g 16 l (omega arith)
    (λ p from. rw (half_above p l from) refl))

pub option_map_same : (F G : ℕ → List ℕ) (o : Option ℕ) → ((p : ℕ) → o ≡ Some p → F p ≡ G p)
    → option_map F o ≡ option_map G o
option_map_same F G None same = refl
option_map_same F G (Some p) same = ap Some (same p refl)

pub content_like : (kind : ℕ) (h g : List ℕ) → IsLike 0 16 h g → content kind g ≡ content kind h
content_like kind h g l =
    ap (option_map (λ at. slice_range g (at + 4) (at + 4 + length_at g at))) (first_of_like kind h g l)
    ∙ option_map_same (λ at. slice_range g (at + 4) (at + 4 + length_at g at))
    (λ at. slice_range h (at + 4) (at + 4 + length_at h at)) (first_of kind h)
    (λ p found.
    let from = find_from (length h - 16) (is_of_type kind h) h 16 p found in
    ap (λ n. slice_range g (p + 4) (p + 4 + n)) (half_above (p + 2) l (omega arith))
    ∙ range_above (p + 4) (p + 4 + length_at h p) l (omega arith))

-- the checksum does not read itself
word_but_third : (k : ℕ) (h g : List ℕ) → IsLike 12 16 h g → cond (k == 3) 0 (word_at g (4 * k))
    ≡ cond (k == 3) 0 (word_at h (4 * k))
word_but_third k h g l =
    elim (cases_eq k 3) [
      | inl e ↦ rw (eq-eqb k 3 e) refl
      | inr e ↦ elim (cases_lt k 3) [
        | inl low ↦ rw (word_below (4 * k) l (omega arith)) refl
        | inr high ↦ rw (word_above (4 * k) l (omega arith)) refl
      ]
    ]

xor_like : (n : ℕ) (h g : List ℕ) → IsLike 12 16 h g → xor_of_words n g ≡ xor_of_words n h
xor_like zero h g l = refl
xor_like (suc n) h g l = rw (xor_like n h g l, word_but_third n h g l) refl

pub checksum_like : (h g : List ℕ) → IsLike 12 16 h g → checksum g ≡ checksum h
checksum_like h g l = rw l.size (xor_like (length h / 4) h g l)
