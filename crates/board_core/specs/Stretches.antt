-- Where a quiet stretch stops. It is this board's own rule.
use Rattle.std.specs.Prelude.{◌≡◌, ◌≢◌, ◌<◌, ℕ, Some, slice_get}
use Rattle.tk_base.specs.declared.limits.TheConstants.{STEP_LIMIT}
use Rattle.tk_base.specs.declared.process.Choice.TheVariants.{Run}
use Rattle.rv32_model.specs.declared.turn_end.TurnEnd.TheVariants.{Went}
use Rattle.process_record.specs.declared.process.State.TheVariants.{Running}
use Rattle.kernel_model.specs.Record.{Record, instruction}
use Rattle.kernel_model.specs.Run.{next}
use Rattle.kernel_model.specs.World.{World}

-- below the limit of steps, where the round robin's next choice is a turn of a process that runs, its instruction does
-- not go
abbrev pub StopsAt : World → Type 0
StopsAt w =
    (slot : ℕ) (before : Record)
    → w.clock.steps < STEP_LIMIT
    → next w ≡ Some (Run slot)
    → slice_get w.records slot ≡ Some before
    → before.process.state ≡ Running
    → (instruction before).end ≢ Went
