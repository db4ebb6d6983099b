-- Flags as bits of a number.
use Rattle.std.proofs.Common.{◌≡◌, ◌<◌, ◌≤◌, ℕ, zero, suc, ◌+◌, ◌-◌, ◌*◌, ◌/◌, ◌%◌, ◌^◌, ◌==◌, Bool, true, false, cond}
use Rattle.std.proofs.Common.{[], ◌∷◌, set, refl, ap, sym, ◌∙◌, subst, arith, eq-eqb, ne_eqb, eqb-true, le_refl}
use Rattle.std.proofs.Common.{le_of_suc-le-suc, not-suc-le-zero}
use Rattle.std.proofs.lemmas.Bool.{eqb-false}
use Rattle.std.proofs.lemmas.Nat.{mul-le, shr_split}
use Rattle.std.proofs.lemmas.Nat.Bits.{bit_at-suc, bit_at-zero}
use Rattle.std.proofs.Math.Pow.{shl_exact}
use Rattle.tk_base.specs.Bits.{bit_of, bits_of, has_bit, with_bit, EachFlagIsItsBit, OneBitIsSet, SetWithItsBit}

small : (on : Bool) → bit_of on < 2
small true = omega arith
small false = omega arith

-- the bits of all flags but the first are those of half the number
half : (b r : ℕ) → b < 2 → (b + 2 * r) / 2 ≡ r
half b r s = omega arith

next_bit : (b r n : ℕ) → b < 2 → (b + 2 * r) / 2 ^ suc n % 2 ≡ r / 2 ^ n % 2
next_bit b r n s = bit_at-suc (b + 2 * r) n ∙ ap (λ (m : ℕ). m / 2 ^ n % 2) (half b r s)

quotient : (n : ℕ) → n % 2 ≤ n
quotient n = omega arith

-- a bit at its place is no more than the number
within : (r n : ℕ) → r / 2 ^ n % 2 * 2 ^ n ≤ r
within r n =
    let bit : r / 2 ^ n % 2 * 2 ^ n ≤ r / 2 ^ n * 2 ^ n =
    mul-le (r / 2 ^ n % 2) (2 ^ n) (r / 2 ^ n) (2 ^ n) (quotient (r / 2 ^ n)) (le_refl _) in
    let parts : r / 2 ^ n * 2 ^ n + r % 2 ^ n ≡ r = shr_split r n in
    omega arith

power : (n : ℕ) → 2 ^ suc n ≡ 2 * 2 ^ n
power n = omega arith

joined : (b r q p s v q' p' v' : ℕ) → q' ≡ q → p' ≡ 2 * p → v' ≡ 2 * v → q * p ≤ r → s ≡ r - q * p + v
    → b + 2 * s ≡ b + 2 * r - q' * p' + v'
joined b r q p s v q' p' v' bit place value held is = rw (bit, place, value, is) (shifted b r q p v held)
  where
    shifted : (b r q p v : ℕ) → q * p ≤ r → b + 2 * (r - q * p + v) ≡ b + 2 * r - q * (2 * p) + 2 * v
    shifted b r q p v held = omega arith

one_more : (b r n s : ℕ) (on : Bool) → b < 2 → s ≡ with_bit r n on → b + 2 * s ≡ with_bit (b + 2 * r) (suc n) on
one_more b r n s true low is =
    joined b r (r / 2 ^ n % 2) (2 ^ n) s (2 ^ n) _ _ _ (next_bit b r n low) (power n) (power n) (within r n) is
one_more b r n s false low is =
    joined b r (r / 2 ^ n % 2) (2 ^ n) s 0 _ _ 0 (next_bit b r n low) (power n) refl (within r n) is

first : (x on : Bool) (r : ℕ) → bit_of on + 2 * r ≡ with_bit (bit_of x + 2 * r) 0 on
first true true r = omega arith
first true false r = omega arith
first false true r = omega arith
first false false r = omega arith

pub set_with_its_bit : SetWithItsBit
set_with_its_bit [] n on h = absurd (not-suc-le-zero h)
set_with_its_bit (x ∷ flags) zero on h = first x on (bits_of flags)
set_with_its_bit (x ∷ flags) (suc n) on h =
    one_more (bit_of x) (bits_of flags) n (bits_of (set flags n on)) on (small x) (set_with_its_bit flags n on
    (le_of_suc-le-suc h))

first_is : (x : Bool) (r : ℕ) → x ≡ has_bit (bit_of x + 2 * r) 0
first_is true r = sym (eq-eqb ((1 + 2 * r) / 2 ^ 0 % 2) 1 (omega arith))
first_is false r = sym (ne_eqb ((0 + 2 * r) / 2 ^ 0 % 2) 1 (λ e. omega arith))

pub flag_is : EachFlagIsItsBit
flag_is [] n = ap (λ (bit : ℕ). bit == 1) (sym (bit_at-zero n))
flag_is (x ∷ flags) zero = first_is x (bits_of flags)
flag_is (x ∷ flags) (suc n) =
    flag_is flags n ∙ ap (λ (bit : ℕ). bit == 1) (sym (next_bit (bit_of x) (bits_of flags) n (small x)))

-- the bits past the first are those of half the number
later_bit : (mask n : ℕ) → has_bit mask (suc n) ≡ has_bit (mask / 2) n
later_bit mask n = ap (λ (bit : ℕ). bit == 1) (bit_at-suc mask n)

halves : (mask : ℕ) → mask ≡ mask % 2 + 2 * (mask / 2)
halves mask = omega arith

low : (mask : ℕ) → mask % 2 < 2
low mask = omega arith

-- to set a bit past the first leaves the lowest one, and sets the one before in half the number
turns_later : (mask n : ℕ) (on : Bool) → with_bit mask (suc n) on ≡ mask % 2 + 2 * with_bit (mask / 2) n on
turns_later mask n on =
    ap (λ (l : ℕ). with_bit l (suc n) on) (halves mask)
    ∙ sym (one_more (mask % 2) (mask / 2) n (with_bit (mask / 2) n on) on (low mask) refl)

turns_first : (mask : ℕ) (on : Bool) → with_bit mask 0 on ≡ bit_of on + 2 * (mask / 2)
turns_first mask true = omega arith
turns_first mask false = omega arith

later_of : (b r n : ℕ) → b < 2 → has_bit (b + 2 * r) (suc n) ≡ has_bit r n
later_of b r n s = ap (λ (bit : ℕ). bit == 1) (next_bit b r n s)

first_of : (mask w : ℕ) → (mask % 2 + 2 * w) / 2 ^ 0 % 2 ≡ mask / 2 ^ 0 % 2
first_of mask w = omega arith

itself : (n mask : ℕ) (on : Bool) → has_bit (with_bit mask n on) n ≡ on
itself zero mask on = ap (λ (l : ℕ). has_bit l 0) (turns_first mask on) ∙ sym (first_is on (mask / 2))
itself (suc n) mask on =
    ap (λ (l : ℕ). has_bit l (suc n)) (turns_later mask n on)
    ∙ later_of (mask % 2) (with_bit (mask / 2) n on) n (low mask)
    ∙ itself n (mask / 2) on

others : (n k mask : ℕ) (on : Bool) → (k ≡ n → ⊥) → has_bit (with_bit mask n on) k ≡ has_bit mask k
others zero zero mask on differ = absurd (differ refl)
others zero (suc k) mask on differ =
    ap (λ (l : ℕ). has_bit l (suc k)) (turns_first mask on) ∙ later_of (bit_of on) (mask / 2) k (small on)
    ∙ sym (later_bit mask k)
others (suc n) zero mask on differ =
    ap (λ (l : ℕ). has_bit l 0) (turns_later mask n on)
    ∙ ap (λ (bit : ℕ). bit == 1) (first_of mask (with_bit (mask / 2) n on))
others (suc n) (suc k) mask on differ =
    ap (λ (l : ℕ). has_bit l (suc k)) (turns_later mask n on)
    ∙ later_of (mask % 2) (with_bit (mask / 2) n on) k (low mask)
    ∙ others n k (mask / 2) on (λ e. differ (ap suc e))
    ∙ sym (later_bit mask k)

pub one_bit_is_set : OneBitIsSet
one_bit_is_set mask n k on = by_test (k == n) refl
  where
    by_test : (b : Bool) → (k == n) ≡ b → has_bit (with_bit mask n on) k ≡ cond b on (has_bit mask k)
    by_test true e = subst (λ (m : ℕ). has_bit (with_bit mask n on) m ≡ on) (sym (eqb-true k n e)) (itself n mask on)
    by_test false e = others n k mask on (eqb-false k n e)

-- a bit that is set where others lie in so many keeps them there
pub still_few : (n w mask : ℕ) (on : Bool) → n < w → mask < 2 ^ w → with_bit mask n on < 2 ^ w
still_few n zero mask on below few = absurd (not-suc-le-zero below)
still_few zero (suc w) mask on below few = by_flag on (turns_first mask on)
  where
    by_flag : (flag : Bool) → with_bit mask 0 on ≡ bit_of flag + 2 * (mask / 2) → with_bit mask 0 on < 2 ^ suc w
    by_flag true is = omega (arith, is, few, power w)
    by_flag false is = omega (arith, is, few, power w)
still_few (suc n) (suc w) mask on below few =
    let half_few : mask / 2 < 2 ^ w = omega (arith, few, power w) in
    omega (
      arith,
      turns_later mask n on,
      still_few n w (mask / 2) on (le_of_suc-le-suc below) half_few,
      power w,
      low
          mask,
    )

-- as a word has it, 1 is shifted so far
pub shifted_one : (n : ℕ) → n < 32 → 1 * 2 ^ n % 4294967296 ≡ 2 ^ n
shifted_one n below = shl_exact 1 n 32 (omega arith) (omega (arith, below)) ∙ one (2 ^ n)
  where
    one : (p : ℕ) → 1 * p ≡ p
    one p = omega arith

-- a bit that was 0 is added
pub bit_added : (mask n : ℕ) → has_bit mask n ≡ false → mask + 2 ^ n ≡ with_bit mask n true
bit_added mask n none =
    without (2 ^ n) mask ∙ ap (λ (q : ℕ). mask - q * 2 ^ n + 2 ^ n) (sym (is_zero (mask / 2 ^ n) none))
  where
    is_zero : (q : ℕ) → (q % 2 == 1) ≡ false → q % 2 ≡ 0
    is_zero q e = let apart = eqb-false (q % 2) 1 e in omega (arith, apart)

    without : (p m : ℕ) → m + p ≡ m - 0 * p + p
    without p m = omega arith

-- one that was 1 is taken away
pub bit_taken : (mask n : ℕ) → has_bit mask n ≡ true → (2 ^ n ≤ mask) × (mask - 2 ^ n ≡ with_bit mask n false)
bit_taken mask n one = taken (mask / 2 ^ n % 2) (eqb-true (mask / 2 ^ n % 2) 1 one) (within mask n)
  where
    by_one : (p : ℕ) → 1 * p ≤ mask → (p ≤ mask) × (mask - p ≡ mask - 1 * p + 0)
    by_one p held = (omega (arith, held), omega arith)

    taken : (q : ℕ) → q ≡ 1 → q * 2 ^ n ≤ mask → (2 ^ n ≤ mask) × (mask - 2 ^ n ≡ mask - q * 2 ^ n + 0)
    taken q is held = subst (λ (k : ℕ). k * 2 ^ n ≤ mask → (2 ^ n ≤ mask) × (mask - 2 ^ n ≡ mask - k * 2 ^ n + 0)) (sym
        is)
        (by_one (2 ^ n)) held

-- one that is as it is to be
pub bit_stays : (mask n : ℕ) (on : Bool) → has_bit mask n ≡ on → mask ≡ with_bit mask n on
bit_stays mask n true is =
    let q = bit_value (mask / 2 ^ n % 2) (eqb-true (mask / 2 ^ n % 2) 1 is) (within mask n) in q
  where
    bit_value : (q : ℕ) → q ≡ 1 → q * 2 ^ n ≤ mask → mask ≡ mask - q * 2 ^ n + 2 ^ n
    bit_value q one held =
        subst (λ (k : ℕ). k * 2 ^ n ≤ mask → mask ≡ mask - k * 2 ^ n + 2 ^ n) (sym one) (by_one (2 ^ n)) held
      where
        by_one : (p : ℕ) → 1 * p ≤ mask → mask ≡ mask - 1 * p + p
        by_one p few = omega (arith, few)
bit_stays mask n false is = without (2 ^ n) ∙ ap (λ (q : ℕ). mask - q * 2 ^ n + 0) (sym (is_zero (mask / 2 ^ n) is))
  where
    is_zero : (q : ℕ) → (q % 2 == 1) ≡ false → q % 2 ≡ 0
    is_zero q e = let apart = eqb-false (q % 2) 1 e in omega (arith, apart)

    without : (p : ℕ) → mask ≡ mask - 0 * p + 0
    without p = omega arith

-- as a word has it, a bit that was 0 is added
pub added : (mask n : ℕ) → mask < 2 ^ 32 → n < 32 → has_bit mask n ≡ false
    → (mask + 1 * 2 ^ n % 4294967296 < 2 ^ 32) × (mask + 1 * 2 ^ n % 4294967296 ≡ with_bit mask n true)
added mask n few below none =
    let sum : mask + 1 * 2 ^ n % 4294967296 ≡ with_bit mask n true =
    ap (λ (p : ℕ). mask + p) (shifted_one n below) ∙ bit_added mask n none in
    (subst (λ (s : ℕ). s < 2 ^ 32) (sym sum) (still_few n 32 mask true below few), sum)

-- and one that was 1 is taken away
pub taken_away : (mask n : ℕ) → n < 32 → has_bit mask n ≡ true
    → (1 * 2 ^ n % 4294967296 ≤ mask) × (mask - 1 * 2 ^ n % 4294967296 ≡ with_bit mask n false)
taken_away mask n below one =
    subst (λ (p : ℕ). (p ≤ mask) × (mask - p ≡ with_bit mask n false)) (sym (shifted_one n below)) (bit_taken mask n
    one)
