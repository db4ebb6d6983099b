-- An arithmetic shift to the right is the sign extension of the highest bits.
use Rattle.std.proofs.Common.{◌≡◌, ℕ, ◌^◌, ◌<◌, arith}
use Rattle.std.proofs.lemmas.Bool.Decides.{nat_tests}
use Rattle.std.specs.Int.{cast_signed, cast_unsigned, w32, int_shr}
use Rattle.rv32_model.specs.Instructions.{bits_of, sign_extended}

pub shift20 : (w : ℕ) → w < 2 ^ 32
    → cast_unsigned w32 (int_shr (cast_signed w32 w) 20) ≡ sign_extended 12 (bits_of w 20 12)
shift20 w h = grind (arith, nat_tests)

pub shift25 : (w : ℕ) → w < 2 ^ 32
    → cast_unsigned w32 (int_shr (cast_signed w32 w) 25) ≡ sign_extended 7 (bits_of w 25 7)
shift25 w h = grind (arith, nat_tests)

pub shift31 : (w : ℕ) → w < 2 ^ 32
    → cast_unsigned w32 (int_shr (cast_signed w32 w) 31) ≡ sign_extended 1 (bits_of w 31 1)
shift31 w h = grind (arith, nat_tests)

pub ruleset by_shifts = (shift20, shift25, shift31)
