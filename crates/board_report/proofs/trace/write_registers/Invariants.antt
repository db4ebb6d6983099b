use Rattle.std.proofs.Common.{take}
use Rattle.tk_outside.specs.Writes.{WroteAll}
use Rattle.board_report.specs.Trace.{registers_text}
use Rattle.board_report.proofs.trace.write_registers.Given as goal

-- the registers so far were written
abbrev pub invariant-loop-register : goal.invariant-loop-register
invariant-loop-register g l = WroteAll g.K.Sink.tells l.initial.out l.out
    (registers_text (take l.register-index l.registers))
