-- What the choice in a window rests on, of a world: nothing without time partitions. It is this board's own.
use Rattle.std.specs.Prelude.{ℕ, zero, suc, Option, None, Some}
use Rattle.partition_turns.specs.LanesView.{LanesView}
use Rattle.kernel_model.specs.World.{World}
use Rattle.kernel_laws.specs.Windows.{lanes_in}

-- where a window has so many ticks
abbrev pub lanes_with : World → ℕ → Option LanesView
lanes_with w zero = None
lanes_with w (suc n) = Some (lanes_in w)

-- that of a world
abbrev pub lanes_of : World → Option LanesView
lanes_of w = lanes_with w w.pace.window
