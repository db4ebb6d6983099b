-- The board's own limits.
use Rattle.std.specs.Prelude.{◌≡◌, ◌≤◌, ◌%◌, ℕ}
use Rattle.tk_base.specs.declared.limits.TheConstants.{RAM_LEAST, RAM_LIMIT, RAM_UNIT}

-- so many bytes of RAM a board may have
pub record IsRamSize (size : ℕ) : Type 0 where
  pub least : RAM_LEAST ≤ size
  pub most : size ≤ RAM_LIMIT
  pub multiple : size % RAM_UNIT ≡ 0
