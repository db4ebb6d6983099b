-- What is known of the objects of every flash image (Tock Binary Format, "TBF Header Base": the total size).
use Rattle.std.specs.Prelude.{◌≡◌, ◌≤◌, ℕ, List, length, All}
use Rattle.tk_base.specs.declared.limits.TheConstants.{FLASH_LIMIT, OBJECT_LIMIT}
use Rattle.flash_walk.specs.declared.found.Found.{Found}
use Rattle.flash_walk.specs.Image.{objects, size_at, IsObject}

-- an object has the size that its header says
abbrev pub HasItsSize : List ℕ → Found → Type 0
HasItsSize flash f = f.size ≡ size_at flash f.offset

-- each object of a flash image of at most 1 MiB lies in flash, has the verdict on its own bytes and its header's
-- size, and there are no more than are found at most
pub record ObjectsAreFound : Type 0 where
  pub each : (flash : List ℕ) → length flash ≤ FLASH_LIMIT → All (IsObject flash) (objects flash)
  pub sized : (flash : List ℕ) → length flash ≤ FLASH_LIMIT → All (HasItsSize flash) (objects flash)
  pub few : (flash : List ℕ) → length flash ≤ FLASH_LIMIT → length (objects flash) ≤ OBJECT_LIMIT
