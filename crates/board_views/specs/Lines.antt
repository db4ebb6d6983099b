-- The form of a line, which is this tool's own.
use Rattle.std.specs.Prelude.{ℕ, List, ◌++◌, codes, decimal}
use Rattle.std.specs.List.{flat_map}
use Rattle.tk_outside.specs.Text.{hex_digits}
use Rattle.board_report.specs.Words.{newline}

-- a line: how it begins, the rest of it, and its end
unfoldable pub line_text : List ℕ → List ℕ → List ℕ
line_text begin rest = begin ++ (rest ++ newline)

-- a word in eight digits of base 16, after a blank
abbrev pub word_text : ℕ → List ℕ
word_text word = codes " " ++ hex_digits 8 word

-- words
abbrev pub words_text : List ℕ → List ℕ
words_text words = flat_map word_text words

-- a line of a slot: what it tells, the slot, and words
unfoldable pub slot_line : List ℕ → ℕ → List ℕ → List ℕ
slot_line name slot words = name ++ line_text (decimal slot) (words_text words)
