-- One step of a write.
use Rattle.std.specs.Prelude.{◌+◌, ◌==◌, if◌then◌else◌, [], ◌∷◌, Option, None, Some}
use Rattle.grant_values.specs.declared.console.WaitingWrite.{WaitingWrite}
use Rattle.process_model.specs.Own.{Own}
use Rattle.driver_model.specs.Steps.{DriverStep, scheduling, silently}
use Rattle.driver_model.specs.Console.{console, portion}

-- what waits of it still; none where no bytes were left
abbrev pub still_waiting : WaitingWrite → Own → Option WaitingWrite
still_waiting write own =
    if portion write own == 0 then None else Some (record write { taken = write.taken + portion write own })

-- the process is told that it completed, where no bytes were left
abbrev pub telling_done : WaitingWrite → Own → DriverStep
telling_done write own =
    if portion write own == 0 then scheduling console 1 (write.taken ∷ 0 ∷ 0 ∷ []) own else silently own
