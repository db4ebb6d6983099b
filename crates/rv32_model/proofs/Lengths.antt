-- The length of an instruction in bytes, by its word.
use Rattle.std.specs.Prelude.{ℕ, ◌%◌, ◌==◌, if◌then◌else◌}

-- low bits 11 mean four bytes
abbrev pub length_of : ℕ → ℕ
length_of word = if word % 4 == 3 then 4 else 2
