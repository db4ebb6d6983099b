-- Parts of what devices do, by names of their own. Only proofs use this.
use Rattle.std.specs.Prelude.{ℕ, Bool, if◌then◌else◌, [], Option, None, Some}
use Rattle.board_devices.specs.SerialLine.{SerialLine}
use Rattle.board_devices.specs.Arriving.{differs}

-- a serial line that is nowhere
abbrev pub no_line : SerialLine
no_line = record { ring = []; ticks = 0; free = 0 }

-- a button and its state, where it has another one by a mask of pressed buttons
abbrev pub if_differs : ℕ → ℕ × Bool → Option (ℕ × Bool)
if_differs mask edge = if differs mask edge.0 edge.1 then Some edge else None
