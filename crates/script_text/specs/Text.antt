-- The bytes of a script: its lines, and the words of a line. They are parted by this board's own rule.
use Rattle.std.specs.Prelude.{ℕ, ◌-◌, ◌==◌, not, ◌||◌, if◌then◌else◌, List, [], ◌∷◌, map, filter, length, take}
use Rattle.std.specs.Prelude.{slice_index, slice_index_or}
use Rattle.std.specs.List.{slice_split}

-- a last piece that is empty is no line
abbrev pub without_empty_last : List (List ℕ) → List (List ℕ)
without_empty_last [] = []
without_empty_last (piece ∷ []) = if length piece == 0 then [] else piece ∷ []
without_empty_last (piece ∷ next ∷ more) = piece ∷ without_empty_last (next ∷ more)

-- a line without the one carriage return at its end
abbrev pub without_return : List ℕ → List ℕ
without_return line = if slice_index line (length line - 1) == 13 then take (length line - 1) line else line

-- the lines: the bytes are cut at line feeds
unfoldable pub lines : List ℕ → List (List ℕ)
lines script = map without_return (without_empty_last (slice_split (λ byte. byte == 10) script))

-- the words of a line: what stands between spaces and tabs
unfoldable pub words : List ℕ → List (List ℕ)
words line = filter (λ word. not (length word == 0)) (slice_split (λ byte. byte == 32 || byte == 9) line)

-- the word at a place, which counts from 0
abbrev pub word : List (List ℕ) → ℕ → List ℕ
word ws place = slice_index_or ws place []
