-- What is known of how the instruction of the next turn ends. It is this board's own rule.
use Rattle.std.specs.Prelude.{◌≡◌, ◌≢◌, IfSome, slice_get}
use Rattle.tk_base.specs.declared.process.Choice.{Choice}
use Rattle.tk_base.specs.declared.process.Choice.TheVariants.{Run, Device, Pass}
use Rattle.rv32_model.specs.declared.turn_end.TurnEnd.{TurnEnd}
use Rattle.rv32_model.specs.declared.turn_end.TurnEnd.TheVariants.{Went}
use Rattle.kernel_model.specs.Record.{Record, instruction}
use Rattle.kernel_model.specs.World.{World}

-- of a record's next instruction it is known that it does not go, and how it ends; or nothing is, as of one that goes
abbrev pub EndsSo : TurnEnd → Record → Type 0
EndsSo end r = end ≢ Went → (instruction r).end ≡ end

-- this is known of a choice: of a turn the end of its instruction, and of any other nothing
abbrev pub IsKnownOfChoice : World → TurnEnd → Choice → Type 0
IsKnownOfChoice w end (Run slot) = IfSome (slice_get w.records slot) (EndsSo end)
IsKnownOfChoice w end (Device device) = Unit
IsKnownOfChoice w end (Pass ticks) = Unit
