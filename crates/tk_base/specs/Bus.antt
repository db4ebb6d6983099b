-- Numbers in memory, which are little endian (RISC-V unprivileged manual, "Load and Store Instructions").
use Rattle.std.specs.Prelude.{ℕ, ◌+◌, ◌-◌, ◌*◌, ◌/◌, ◌%◌, ◌^◌, ◌&&◌, nat_le, nat_lt, if◌then◌else◌, List, slice_set}
use Rattle.std.specs.Prelude.{Option, None, Some, Result, Ok, Err}
use Rattle.tk_base.specs.declared.access.Width.{Width}
use Rattle.tk_base.specs.declared.access.Width.TheVariants.{Byte, Half, Word}
use Rattle.tk_base.specs.declared.access.Rule.{Rule}
use Rattle.tk_base.specs.Access.{width_bytes}

-- what an access answers that may be denied
abbrev pub unless_denied : {X : Type 0} → Option Rule → X → Result X Rule
unless_denied None x = Ok x
unless_denied (Some rule) x = Err rule

-- the little-endian number at an address
abbrev pub number_at : (ℕ → ℕ) → ℕ → Width → ℕ
number_at bytes at Byte = bytes at
number_at bytes at Half = bytes at + 256 * bytes (at + 1)
number_at bytes at Word = bytes at + 256 * bytes (at + 1) + 65536 * bytes (at + 2) + 16777216 * bytes (at + 3)

-- byte k of a number, the lowest first
abbrev pub byte_of : ℕ → ℕ → ℕ
byte_of value k = value / 256 ^ k % 256

-- the bytes with the lowest bytes of a value at an address
abbrev pub written : (ℕ → ℕ) → ℕ → Width → ℕ → ℕ → ℕ
written bytes at width value a =
    if nat_le at a && nat_lt a (at + width_bytes width) then byte_of value (a - at) else bytes a

-- a list with the lowest bytes of a value put at a place
abbrev pub put : List ℕ → ℕ → Width → ℕ → List ℕ
put xs at Byte v = slice_set xs at (byte_of v 0)
put xs at Half v = slice_set (slice_set xs at (byte_of v 0)) (at + 1) (byte_of v 1)
put xs at Word v =
    slice_set (slice_set (slice_set (slice_set xs
    at (byte_of v 0)) (at + 1) (byte_of v 1)) (at + 2) (byte_of v 2)) (at + 3) (byte_of v 3)
