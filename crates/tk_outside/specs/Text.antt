-- Text in pieces, and numbers of base 16 in it. The form is this tool's own.
use Rattle.std.specs.Prelude.{ℕ, ◌+◌, ◌/◌, ◌%◌, ◌^◌, List, [], ◌∷◌, suc, zero, nat_lt, if◌then◌else◌, flat_map}
use Rattle.std.specs.Borrow.{Bor}

-- pieces of text, joined
abbrev pub text_of : List (Bor (List ℕ)) → List ℕ
text_of pieces = flat_map (λ p. p.now) pieces

-- the character of a digit below 16, `0` to `9` and then `a` to `f`
abbrev pub hex_glyph : ℕ → ℕ
hex_glyph d = if nat_lt d 10 then 48 + d else 87 + d

-- so many digits of n in base 16, the most significant first: of the last k digits the first
-- counts multiples of 16 ^ (k - 1)
unfoldable pub hex_digits : ℕ → ℕ → List ℕ
hex_digits zero n = []
hex_digits (suc k) n = hex_glyph (n / 16 ^ k % 16) ∷ hex_digits k n
