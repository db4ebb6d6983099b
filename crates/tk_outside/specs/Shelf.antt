-- What a shelf tells of itself, and what a read moves. It is this tool's own view of files.
use Rattle.std.specs.Prelude.{◌≡◌, ℕ, ◌<◌, ◌≤◌, List, Option, length, take, drop}
use Rattle.std.specs.Io.KnownBytes.{Consumes, IsAtEnd}
use Rattle.tk_outside.specs.Count.{Rose}

-- what a shelf tells
pub record ShelfFacts : Type 1 where
  -- the bytes under each name, where it tells them
  pub bytes : List ℕ → Option (List ℕ)
  -- the names that are sound: beginning and reading them does not fail
  pub is_sound : List ℕ → Type 0
  -- how many faults there were; the count stands still at `2^64 - 1`
  pub faults : ℕ

-- the count of faults of a shelf rose
abbrev pub FaultsRose : {H : Type 0} → (H → ShelfFacts) → H → H → Type 0
FaultsRose tells old new = Rose (tells old).faults (tells new).faults

-- the first n bytes of what is left of a file were moved into the front of a slice
pub record Moves (rest_before rest_after : Option (List ℕ)) (before after : List ℕ) (n : ℕ) : Type 0 where
  -- no more than the slice holds, also where the bytes are not told
  pub within : n ≤ length before
  -- the front of the slice holds what the rest lost
  pub moved : Consumes rest_before rest_after (take n after)
  -- the bytes of the slice past the front stayed
  pub past : drop n after ≡ drop n before
  -- no byte comes only at the end
  pub ended : n ≡ 0 → 0 < length before → IsAtEnd rest_after
