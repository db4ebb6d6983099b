-- Numbers digit by digit.
use Rattle.std.proofs.lemmas.Bool.Decides.{nat_tests}
use Rattle.std.proofs.lemmas.Grind.{pow_more}
use Rattle.std.proofs.Math.Nat.{pow-le-pow_right}
use Rattle.std.proofs.Common.{◌≡◌, ◌+◌, ◌-◌, ◌*◌, ◌^◌, ◌<◌, ◌≤◌, ℕ, true, List, ◌∷◌, ap, arith}
use Rattle.std.specs.Char.{digit_value, is_ascii_digit}
use Rattle.std.specs.Str.Parse.{digits_value_after}

digit_is : (b : ℕ) → is_ascii_digit b ≡ true → digit_value b ≡ b - 48
digit_is b h = grind (arith, nat_tests)

-- one more digit
pub digit_more : (v b : ℕ) (bytes : List ℕ) → is_ascii_digit b ≡ true
    → digits_value_after 10 v (b ∷ bytes) ≡ digits_value_after 10 (v * 10 + (b - 48)) bytes
digit_more v b bytes h = ap (λ d. digits_value_after 10 (v * 10 + d) bytes) (digit_is b h)

pub below_more : (v b k : ℕ) → is_ascii_digit b ≡ true → v < 10 ^ k → v * 10 + (b - 48) < 10 ^ (k + 1)
below_more v b k h below =
    let last : b - 48 < 10 = grind (arith, nat_tests) in
    omega (arith, pow_more 10 k)

-- at most nine digits
pub below_ten_digits : (v k n : ℕ) → v < 10 ^ k → k < n → n ≤ 10 → v < 1000000000
below_ten_digits v k n below less most =
    let within : k ≤ 9 = omega arith in
    let positive : 0 < 10 = omega arith in
    let top : 10 ^ k ≤ 10 ^ 9 = pow-le-pow_right {n = 10} positive {i = k} {j = 9} within in
    omega arith
