-- Drivers leave the pairs that a process has handed as they are.
use Rattle.process_model.specs.Pairs.{HandsTheSame}
use Rattle.driver_model.specs.Services.{OfEachService}

-- so does each command, whichever driver takes it, and each answer of a device
abbrev pub DriversLeavePairs : Type 0
DriversLeavePairs = OfEachService HandsTheSame
