-- What the report says of applications without a place. It is this board's own.
use Rattle.std.specs.Prelude.{ℕ}
use Rattle.tk_base.specs.declared.process.PlaceFault.{PlaceFault}

-- an application that was not placed: the offset of its object in flash, in bytes, and why it has no place
abbrev pub Unplaced : Type 0
Unplaced = ℕ × PlaceFault
