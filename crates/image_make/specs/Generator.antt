-- The files of a soak run: eight applications and a script, from the draws that follow a number. They are this tool's
-- own.
use Rattle.std.specs.Prelude.{ℕ, zero, suc, ◌+◌, ◌*◌, ◌/◌, ◌%◌, ◌^◌, List, [], ◌∷◌, ◌++◌, codes, decimal, flat_map}
use Rattle.std.specs.Int.{to_le_bytes, w32}
use Rattle.tk_outside.specs.Text.{hex_digits}
use Rattle.image_make.specs.Program.{program, header_words}

-- the draw after a draw, or after the number
abbrev pub next_draw : ℕ → ℕ
next_draw x = (x * 1664525 + 1013904223) % 2 ^ 32

-- the number of the application, and four digits of a draw, as a line
unfoldable pub message : ℕ → ℕ → List ℕ
message k d = codes "p" ++ (48 + k) ∷ codes " " ++ hex_digits 4 (d / 2 ^ 16) ++ codes "\n"

-- the bytes of words, each with its lowest byte first
abbrev pub assembled : List ℕ → List ℕ
assembled words = flat_map (to_le_bytes w32) words

-- the object of application k, from the four draws after a draw: for its rounds, its spins, its exit code and its
-- message
unfoldable pub object_of : ℕ → ℕ → List ℕ
object_of k x =
    let d1 = next_draw x in
    let d2 = next_draw d1 in
    let d3 = next_draw d2 in
    assembled (header_words 172) ++ assembled (program (1 + d1 / 2 ^ 22) (1 + d2 / 2 ^ 22) (d3 / 2 ^ 24))
    ++ message k (next_draw d3)

-- so many objects from application k on, after a draw: each takes four
unfoldable pub soak_objects : ℕ → ℕ → ℕ → List ℕ
soak_objects zero k x = []
soak_objects (suc n) k x =
    object_of k x ++ soak_objects n (k + 1) (next_draw (next_draw (next_draw (next_draw x))))

-- the flash image of a number
abbrev pub soak_flash : ℕ → List ℕ
soak_flash number = soak_objects 8 0 (next_draw number)

-- the script of a number: the turns of a slice are drawn
abbrev pub soak_script : ℕ → List ℕ
soak_script number = codes "slice " ++ decimal (1 + next_draw number / 2 ^ 26) ++ codes "\n"
