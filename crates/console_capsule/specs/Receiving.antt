-- Bytes that came in for a read.
use Rattle.std.specs.Prelude.{ℕ, List, [], ◌∷◌, length}
use Rattle.tk_base.specs.declared.kinds.PairKind.TheVariants.{ReadWrite}
use Rattle.process_model.specs.Own.{Own}
use Rattle.process_model.specs.Served.{with_written}
use Rattle.driver_model.specs.Steps.{DriverStep, scheduling}
use Rattle.driver_model.specs.Console.{console, read_status}

-- a process to the start of whose buffer they were moved
abbrev pub written_input : List ℕ → Own → Own
written_input bytes own = with_written ReadWrite console 1 0 bytes own

-- and that is told of them
abbrev pub taking_in : List ℕ → Own → DriverStep
taking_in bytes own = scheduling console 2 (read_status own ∷ length bytes ∷ 0 ∷ []) (written_input bytes own)
