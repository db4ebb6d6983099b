-- Lists of bytes that are alike but for a range of places: what is read before the range or behind it is the same.
-- Likeness joins and widens, and a number that is put changes its own bytes alone and is read back as it was put, so an
-- edit is made of likenesses, one for each number that it puts.
use Rattle.std.proofs.Common.{◌≡◌, ℕ, ◌+◌, ◌-◌, ◌*◌, ◌/◌, ◌%◌, ◌<◌, ◌≤◌, nat_lt, nat_le, ◌&&◌, min, cond, ◌⊎◌, inl, inr}
use Rattle.std.proofs.Common.{List, length, take, drop, slice_index, slice_range, refl, sym, ap, ◌∙◌, arith, add-zero}
use Rattle.std.proofs.lemmas.Bool.Decides.{nat_tests}
use Rattle.std.proofs.lemmas.Bool.{cases_lt}
use Rattle.std.proofs.lemmas.List.{length-take, length-drop, get_or-take, get_or-drop, get_or_past, ext_get_or}
use Rattle.tk_base.specs.declared.access.Width.{Width}
use Rattle.tk_base.specs.declared.access.Width.TheVariants.{Half, Word}
use Rattle.tk_base.specs.Access.{width_bytes}
use Rattle.tk_base.specs.Bus.{put, byte_of}
use Rattle.tk_base.specs.Laws.{AStoreIsPut}
use Rattle.tbf_headers.specs.Numbers.{half, word_at}

-- ys is xs but for the bytes from a to b
pub record IsLike (a b : ℕ) (xs ys : List ℕ) : Type 0 where
  pub size : length ys ≡ length xs
  pub below : (k : ℕ) → k < a → slice_index ys k ≡ slice_index xs k
  pub above : (k : ℕ) → b ≤ k → slice_index ys k ≡ slice_index xs k

-- numbers whose bytes are the same
pub half_same : (xs ys : List ℕ) (p q : ℕ) → ((k : ℕ) → k < 2 → slice_index ys (q + k) ≡ slice_index xs (p + k))
    → half ys q ≡ half xs p
half_same xs ys p q each = cc (add-zero p, add-zero q, each 0 (omega arith), each 1 (omega arith))

pub word_same : (xs ys : List ℕ) (p q : ℕ) → ((k : ℕ) → k < 4 → slice_index ys (q + k) ≡ slice_index xs (p + k))
    → word_at ys q ≡ word_at xs p
word_same xs ys p q each =
    cc (
      add-zero p,
      add-zero q,
      each 0 (omega arith),
      each 1 (omega arith),
      each 2 (omega arith),
      each 3 (omega arith),
    )

pub half_above : {a b : ℕ} {xs ys : List ℕ} (p : ℕ) → IsLike a b xs ys → b ≤ p → half ys p ≡ half xs p
half_above {xs = xs} {ys = ys} p l h = half_same xs ys p p (λ k small. l.above (p + k) (omega arith))

pub half_below : {a b : ℕ} {xs ys : List ℕ} (p : ℕ) → IsLike a b xs ys → p + 2 ≤ a → half ys p ≡ half xs p
half_below {xs = xs} {ys = ys} p l h = half_same xs ys p p (λ k small. l.below (p + k) (omega arith))

pub word_above : {a b : ℕ} {xs ys : List ℕ} (p : ℕ) → IsLike a b xs ys → b ≤ p → word_at ys p ≡ word_at xs p
word_above {xs = xs} {ys = ys} p l h = word_same xs ys p p (λ k small. l.above (p + k) (omega arith))

pub word_below : {a b : ℕ} {xs ys : List ℕ} (p : ℕ) → IsLike a b xs ys → p + 4 ≤ a → word_at ys p ≡ word_at xs p
word_below {xs = xs} {ys = ys} p l h = word_same xs ys p p (λ k small. l.below (p + k) (omega arith))

-- the same bytes in a range are the same range
pub range_same : (xs ys : List ℕ) (p q r s : ℕ) → min (q - p) (length xs - p) ≡ min (s - r) (length ys - r)
    → ((k : ℕ) → k < s - r → k < length ys - r → slice_index ys (r + k) ≡ slice_index xs (p + k))
    → slice_range ys r s ≡ slice_range xs p q
range_same xs ys p q r s size each =
    let ly : length (slice_range ys r s) ≡ min (s - r) (length ys - r) = simp (length-take, length-drop) in
    let lx : length (slice_range xs p q) ≡ min (q - p) (length xs - p) = simp (length-take, length-drop) in
    ext_get_or 0 (slice_range ys r s) (slice_range xs p q) (omega arith) (λ i h.
    get_or-take (s - r) (drop r ys) i 0 (omega arith) ∙ get_or-drop r ys i 0 ∙ each i (omega arith) (omega arith)
    ∙ sym (get_or-take (q - p) (drop p xs) i 0 (omega arith) ∙ get_or-drop p xs i 0))

pub range_above : {a b : ℕ} {xs ys : List ℕ} (p q : ℕ) → IsLike a b xs ys → b ≤ p
    → slice_range ys p q ≡ slice_range xs p q
range_above {xs = xs} {ys = ys} p q l h =
    range_same xs ys p q p q (rw l.size refl) (λ k low high. l.above (p + k) (omega arith))

pub range_below : {a b : ℕ} {xs ys : List ℕ} (p q : ℕ) → IsLike a b xs ys → q ≤ a
    → slice_range ys p q ≡ slice_range xs p q
range_below {xs = xs} {ys = ys} p q l h =
    range_same xs ys p q p q (rw l.size refl) (λ k low high. l.below (p + k) (omega arith))

taken : (n : ℕ) (xs ys : List ℕ) (k : ℕ) → slice_index ys k ≡ slice_index xs k
    → slice_index (take n ys) k ≡ slice_index (take n xs) k
taken n xs ys k e =
    elim (cases_lt k n) [
      | inl h ↦ get_or-take n ys k 0 h ∙ e ∙ sym (get_or-take n xs k 0 h)
      | inr h ↦ get_or_past (take n ys) k 0 (omega (arith, length-take n ys))
          ∙ sym (get_or_past (take n xs) k 0 (omega (arith, length-take n xs)))
    ]

-- and so are their fronts
pub take_like : {a b : ℕ} {xs ys : List ℕ} (n : ℕ) → IsLike a b xs ys → IsLike a b (take n xs) (take n ys)
take_like {xs = xs} {ys = ys} n l = record {
  size = length-take n ys ∙ ap (λ m. min n m) l.size ∙ sym (length-take n xs);
  below = λ k h. taken n xs ys k (l.below k h);
  above = λ k h. taken n xs ys k (l.above k h);
}

pub like_join : {a b : ℕ} {xs ys zs : List ℕ} → IsLike a b xs ys → IsLike a b ys zs → IsLike a b xs zs
like_join l m = record {
  size = m.size ∙ l.size;
  below = λ k h. m.below k h ∙ l.below k h;
  above = λ k h. m.above k h ∙ l.above k h;
}

pub like_wider : {a b : ℕ} {xs ys : List ℕ} (c d : ℕ) → c ≤ a → b ≤ d → IsLike a b xs ys → IsLike c d xs ys
like_wider c d low high l = record {
  size = l.size;
  below = λ k h. l.below k (omega arith);
  above = λ k h. l.above k (omega arith);
}

outside : (n at k v x : ℕ) → (k < at) ⊎ (at + n ≤ k) → (cond (nat_le at k && nat_lt k (at + n)) v x) ≡ x
outside n at k v x h = grind (arith, nat_tests)

inside : (n at k v x : ℕ) → at ≤ k → k < at + n → (cond (nat_le at k && nat_lt k (at + n)) v x) ≡ v
inside n at k v x low high = grind (arith, nat_tests)

-- a number that is put changes its own bytes alone
pub put_like : AStoreIsPut → (xs : List ℕ) (at : ℕ) (width : Width) (v : ℕ) → at + width_bytes width ≤ length xs
    → IsLike at (at + width_bytes width) xs (put xs at width v)
put_like stores xs at width v h =
    let law = stores xs at width v h in
    record {
      size = law.length;
      below = λ k low. law.each k ∙ outside (width_bytes width) at k _ _ (inl low);
      above = λ k high. law.each k ∙ outside (width_bytes width) at k _ _ (inr high);
    }

put_byte : AStoreIsPut → (xs : List ℕ) (at : ℕ) (width : Width) (v j k : ℕ) → at + width_bytes width ≤ length xs
    → k ≡ at + j → j < width_bytes width → slice_index (put xs at width v) k ≡ byte_of v j
put_byte stores xs at width v j k h e small =
    let law = stores xs at width v h in
    law.each k ∙ inside (width_bytes width) at k _ _ (omega arith) (omega arith)
    ∙ ap (λ i. byte_of v i) (let d : k - at ≡ j = omega arith in d)

four : (v : ℕ) → v < 4294967296
    → v % 256 + 256 * (v / 256 % 256) + 65536 * (v / 65536 % 256) + 16777216 * (v / 16777216 % 256) ≡ v
four v h = omega arith

-- a word is read back
pub word_put : AStoreIsPut → (xs : List ℕ) (at v : ℕ) → at + 4 ≤ length xs → v < 4294967296
    → word_at (put xs at Word v) at ≡ v
word_put stores xs at v h small =
    let b = λ (j : ℕ) (low : j < 4). put_byte stores xs at Word v j (at + j) h refl low in
    let first = rw add-zero at (b 0 (omega arith)) in
    omega (arith, first, b 1 (omega arith), b 2 (omega arith), b 3 (omega arith), four v small)

-- and so is a half
pub half_put : AStoreIsPut → (xs : List ℕ) (at v : ℕ) → at + 2 ≤ length xs → v < 65536 → half (put xs at Half v) at ≡ v
half_put stores xs at v h small =
    let b = λ (j : ℕ) (low : j < 2). put_byte stores xs at Half v j (at + j) h refl low in
    let first = rw add-zero at (b 0 (omega arith)) in
    omega (arith, first, b 1 (omega arith))

-- a number in a front
pub half_take : (n : ℕ) (xs : List ℕ) (p : ℕ) → p + 2 ≤ n → half (take n xs) p ≡ half xs p
half_take n xs p h = half_same xs (take n xs) p p (λ k small. get_or-take n xs (p + k) 0 (omega arith))

-- a range of a front
pub range_take : (n : ℕ) (xs : List ℕ) (p q : ℕ) → q ≤ n → n ≤ length xs
    → slice_range (take n xs) p q ≡ slice_range xs p q
range_take n xs p q h long =
    range_same xs (take n xs) p q p q (omega (arith, length-take n xs))
    (λ k small high. get_or-take n xs (p + k) 0 (omega arith))
