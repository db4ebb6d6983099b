-- Which processes run. Only proofs use this.
use Rattle.std.specs.Prelude.{Bool, true, false, Option, None, Some}
use Rattle.process_record.specs.declared.process.Process.{Process}
use Rattle.process_record.specs.declared.process.State.{State}
use Rattle.process_record.specs.declared.process.State.TheVariants.{Running, Yielded, Faulted, Terminated}

-- whether a process in a state runs, and whether that in a slot does, if there is one
abbrev pub is_running : State → Bool
is_running Running = true
is_running Yielded = false
is_running Faulted = false
is_running (Terminated code) = false

abbrev pub slot_runs : Option Process → Bool
slot_runs None = false
slot_runs (Some process) = is_running process.state
