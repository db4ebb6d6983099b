-- Boards that are kept. The rules are this tool's own.
use Rattle.std.specs.Prelude.{ℕ, ◌==◌, nat_lt, Bool, if◌then◌else◌, List, [], ◌∷◌, ◌++◌, codes, length}
use Rattle.std.specs.Prelude.{slice_get, slice_set}
use Rattle.std.specs.Prelude.{unwrap_or, Option, None, Some}
use Rattle.kernel_model.specs.World.{World}

-- the kept ones with a world at a place: in place of one, or behind the last; none where there is no such place
abbrev pub kept_with : ℕ → World → List World → Option (List World)
kept_with place w kept =
    if nat_lt place (length kept) then Some (slice_set kept place w)
    else (if place == length kept then Some (kept ++ w ∷ []) else None)

abbrev pub kept_after : ℕ → World → List World → List World
kept_after place w kept = unwrap_or (kept_with place w kept) kept

-- the world that is kept at a place, or where none is this one
abbrev pub returned : ℕ → List World → World → World
returned place kept w = unwrap_or (slice_get kept place) w

-- whether there is such a place
abbrev pub found_line : Bool → List ℕ
found_line found = if found then codes "= ok\n" else codes "= none\n"
