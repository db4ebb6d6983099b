-- That no process is held which has ended (TRD 104, "Exit"). When an operator may hold one is this board's own rule.
use Rattle.std.specs.Prelude.{◌≡◌, false}
use Rattle.process_record.specs.Process.{is_alive}
use Rattle.kernel_model.specs.Record.{Record}

-- a process that has ended, so that it is neither Running nor Yielded, is not held
abbrev pub IsFreeOnceEnded : Record → Type 0
IsFreeOnceEnded r = is_alive r.process.state ≡ false → r.process.held ≡ false
