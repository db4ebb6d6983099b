-- Bits of a number, counted from the lowest, which is bit 0: how a mask keeps one flag for each LED and each button.
-- It is this board's own.
use Rattle.std.specs.Prelude.{◌≡◌, ◌<◌, ℕ, ◌+◌, ◌-◌, ◌*◌, ◌/◌, ◌%◌, ◌^◌, ◌==◌, Bool, false, if◌then◌else◌, List, []}
use Rattle.std.specs.Prelude.{◌∷◌}
use Rattle.std.specs.Prelude.{length, slice_index_or, slice_set}

-- a flag as a number
abbrev pub bit_of : Bool → ℕ
bit_of on = if on then 1 else 0

-- flags as one number, bit n for flag n
abbrev pub bits_of : List Bool → ℕ
bits_of [] = 0
bits_of (on ∷ others) = bit_of on + 2 * bits_of others

-- whether a bit of a number is 1
abbrev pub has_bit : ℕ → ℕ → Bool
has_bit mask n = mask / 2 ^ n % 2 == 1

-- a number with one bit 1 or 0
abbrev pub with_bit : ℕ → ℕ → Bool → ℕ
with_bit mask n on = mask - mask / 2 ^ n % 2 * 2 ^ n + (if on then 2 ^ n else 0)

-- each flag of a list is a bit of their number
abbrev pub EachFlagIsItsBit : Type 0
EachFlagIsItsBit = (flags : List Bool) (n : ℕ) → slice_index_or flags n false ≡ has_bit (bits_of flags) n

-- to set a flag of a list is to set its bit of their number
abbrev pub SetWithItsBit : Type 0
SetWithItsBit =
    (flags : List Bool) (n : ℕ) (on : Bool) → n < length flags →
    bits_of (slice_set flags n on) ≡ with_bit (bits_of flags) n on

-- of the bits of a number with one set, that one is as it was set, and all others are as they were
abbrev pub OneBitIsSet : Type 0
OneBitIsSet = (mask n k : ℕ) (on : Bool) → has_bit (with_bit mask n on) k ≡ (if k == n then on else has_bit mask k)
