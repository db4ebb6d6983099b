-- Numbers as the board's texts write them: 1 to 10 ASCII decimal digits, leading zeros permitted, no sign. This form is
-- this board's own.
use Rattle.std.specs.Prelude.{ℕ, Bool, ◌&&◌, nat_le, if◌then◌else◌, List, length, Option, Some, None}
use Rattle.std.specs.Str.{all_ascii_digits}
use Rattle.std.specs.Str.Parse.{digits_value}

-- a number has 1 to 10 decimal digits
abbrev pub is_number : List ℕ → Bool
is_number word = all_ascii_digits word && (nat_le 1 (length word) && nat_le (length word) 10)

-- the number that digits write
abbrev pub number : List ℕ → ℕ
number word = digits_value 10 word

-- the number that a word is, where it is one
abbrev pub number_of : List ℕ → Option ℕ
number_of word = if is_number word then Some (number word) else None

-- the same where it is not above a limit
abbrev pub number_up_to : ℕ → List ℕ → Option ℕ
number_up_to limit word = if is_number word && nat_le (number word) limit then Some (number word) else None
