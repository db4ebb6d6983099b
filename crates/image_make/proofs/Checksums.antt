-- The checksum of a header with one word put elsewhere.
use Rattle.std.proofs.Common.{◌≡◌, ℕ, zero, suc, ◌+◌, ◌*◌, ◌/◌, ◌<◌, ◌≤◌, ◌==◌, cond, inl, inr, List, length, bit_xor}
use Rattle.std.proofs.Common.{refl, sym, ap, ◌∙◌, arith}
use Rattle.std.specs.Int.Bits.{xor_self, xor_assoc, xor_zero_l}
use Rattle.std.proofs.lemmas.Nat.{xor_comm}
use Rattle.std.proofs.lemmas.Bool.{cases_lt, ne_eqb, cond-false}
use Rattle.tk_base.specs.declared.access.Width.TheVariants.{Word}
use Rattle.tk_base.specs.Bus.{put}
use Rattle.tk_base.specs.Laws.{AStoreIsPut}
use Rattle.tbf_headers.specs.Numbers.{word_at, xor_of_words}
use Rattle.image_make.specs.Laws.{ChecksumOfPut}
use Rattle.image_make.proofs.Likeness.{IsLike, word_above, word_below, put_like, word_put}

swapped : (a d x : ℕ) → bit_xor (bit_xor a d) x ≡ bit_xor (bit_xor a x) d
swapped a d x = xor_assoc a d x ∙ ap (bit_xor a) (xor_comm d x) ∙ sym (xor_assoc a x d)

cancelled : (a w v : ℕ) → bit_xor a v ≡ bit_xor (bit_xor a w) (bit_xor w v)
cancelled a w v =
    sym (
    xor_assoc a w (bit_xor w v)
    ∙ ap (bit_xor a) (sym (xor_assoc w w v) ∙ ap (λ z. bit_xor z v) (xor_self w) ∙ xor_zero_l v))

xor_before : (n i : ℕ) (h g : List ℕ) → IsLike (4 * i) (4 * i + 4) h g → n ≤ i → xor_of_words n g ≡ xor_of_words n h
xor_before zero i h g l small = refl
xor_before (suc n) i h g l small =
    ap (λ s. bit_xor s (cond (n == 3) 0 (word_at g (4 * n)))) (xor_before n i h g l (omega arith))
    ∙ ap (λ w. bit_xor (xor_of_words n h) (cond (n == 3) 0 w))
    (word_below (4 * n) l (omega arith))

xor_behind : (n i v : ℕ) (h g : List ℕ) → (i ≡ 3 → ⊥) → IsLike (4 * i) (4 * i + 4) h g → word_at g (4 * i) ≡ v → i < n
    → xor_of_words n g ≡ bit_xor (xor_of_words n h) (bit_xor (word_at h (4 * i)) v)
xor_behind zero i v h g other l e large = absurd (omega arith)
xor_behind (suc n) i v h g other l e large =
    elim (cases_lt i n) [
      | inl more ↦
          ap (λ s. bit_xor s (cond (n == 3) 0 (word_at g (4 * n)))) (xor_behind n i v h g other l e more)
          ∙ ap (λ w. bit_xor (bit_xor (xor_of_words n h) (bit_xor (word_at h (4 * i)) v)) (cond (n == 3) 0 w))
          (word_above (4 * n) l (omega arith))
          ∙ swapped (xor_of_words n h) (bit_xor (word_at h (4 * i)) v) (cond (n == 3) 0 (word_at h (4 * n)))
      | inr same ↦
          let here : n ≡ i = omega arith in
          let plain : (x : ℕ) → cond (n == 3) 0 x ≡ x = λ x. cond-false (n == 3) 0 x
          (ne_eqb n 3 (λ three. other (omega arith))) in
          ap (λ s. bit_xor s (cond (n == 3) 0 (word_at g (4 * n)))) (xor_before n i h g l (omega arith))
          ∙ ap (bit_xor (xor_of_words n h)) (plain (word_at g (4 * n)) ∙ ap (λ k. word_at g (4 * k)) here ∙ e)
          ∙ cancelled (xor_of_words n h) (word_at h (4 * i)) v
          ∙ ap (λ w. bit_xor (bit_xor (xor_of_words n h) w) (bit_xor (word_at h (4 * i)) v))
          (sym (plain (word_at h (4 * n)) ∙ ap (λ k. word_at h (4 * k)) here))
    ]

pub checksum_of_put : AStoreIsPut → ChecksumOfPut
checksum_of_put stores h i v other within small =
    let g = put h (4 * i) Word v in
    let l : IsLike (4 * i) (4 * i + 4) h g = put_like stores h (4 * i) Word v within in
    ap (λ n. xor_of_words (n / 4) g) l.size
    ∙ xor_behind (length h / 4) i v h g other l (word_put stores h (4 * i) v within small) (omega arith)
