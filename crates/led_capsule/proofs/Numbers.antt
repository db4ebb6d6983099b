-- The LEDs as one number, one after another.
use Rattle.std.proofs.Common.{◌≡◌, ◌<◌, ◌≤◌, ◌^◌, ◌+◌, ◌*◌, ℕ, zero, suc, Bool, true, false, cond, List, [], ◌∷◌}
use Rattle.std.proofs.Common.{length, take, slice_index_or, refl, sym, ap, ◌∙◌, add-one, arith}
use Rattle.std.proofs.lemmas.List.{take_all}
use Rattle.tk_base.specs.Bits.{bit_of, bits_of}

power : (n : ℕ) → 2 ^ suc n ≡ 2 * 2 ^ n
power n = omega arith

-- one LED more
one_more : (lit : List Bool) (n : ℕ) → n < length lit
    → bits_of (take (suc n) lit) ≡ bits_of (take n lit) + cond (slice_index_or lit n false) (2 ^ n) 0
one_more [] n h = absurd (omega arith)
one_more (on ∷ lit) zero h = first on
  where
    first : (b : Bool) → bit_of b + 2 * 0 ≡ 0 + cond b (2 ^ 0) 0
    first true = refl
    first false = refl
one_more (on ∷ lit) (suc n) h =
    ap (λ (k : ℕ). bit_of on + 2 * k) (one_more lit n (omega (arith, h)))
    ∙ doubled (slice_index_or lit n false) (bit_of on) (bits_of (take n lit))
  where
    doubled : (b : Bool) (x y : ℕ) → x + 2 * (y + cond b (2 ^ n) 0) ≡ x + 2 * y + cond b (2 ^ suc n) 0
    doubled true x y = twice (2 ^ n) (2 ^ suc n) (power n)
      where
        twice : (p q : ℕ) → q ≡ 2 * p → x + 2 * (y + p) ≡ x + 2 * y + q
        twice p q e = omega (arith, e)
    doubled false x y = omega arith

-- and how large they are
few_bits : (lit : List Bool) (n : ℕ) → bits_of (take n lit) < 2 ^ n
few_bits lit zero = omega arith
few_bits [] (suc n) = positive (2 ^ n) (2 ^ suc n) (few_bits [] n) (power n)
  where
    positive : (p q : ℕ) → bits_of (take n []) < p → q ≡ 2 * p → 0 < q
    positive p q h e = omega (arith, h, e)
few_bits (on ∷ lit) (suc n) = twice on (bits_of (take n lit)) (2 ^ n) (2 ^ suc n) (few_bits lit n) (power n)
  where
    twice : (b : Bool) (x p q : ℕ) → x < p → q ≡ 2 * p → bit_of b + 2 * x < q
    twice true x p q h e = omega (arith, h, e)
    twice false x p q h e = omega (arith, h, e)

pub bits_more : (lit : List Bool) (n so_far bit : ℕ) → n < length lit → so_far ≡ bits_of (take n lit)
    → bit ≡ cond (slice_index_or lit n false) (2 ^ n) 0
    → (so_far + bit ≡ bits_of (take (n + 1) lit)) × (so_far + bit < 2 ^ (n + 1))
bits_more lit n so_far bit h is of =
    let sum : so_far + bit ≡ bits_of (take (n + 1) lit) =
    ap (λ (k : ℕ). k + bit) is ∙ ap (λ (k : ℕ). bits_of (take n lit) + k) of ∙ sym (one_more lit n h)
    ∙ ap (λ (k : ℕ). bits_of (take k lit)) (sym (add-one n)) in
    (sum, omega (arith, sum, few_bits lit (n + 1)))

pub bits_all : (lit : List Bool) (n so_far : ℕ) → length lit ≤ n → so_far ≡ bits_of (take n lit)
    → so_far ≡ bits_of lit
bits_all lit n so_far h is = is ∙ ap bits_of (take_all n lit h)
