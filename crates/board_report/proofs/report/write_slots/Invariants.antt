use Rattle.std.proofs.Common.{take}
use Rattle.tk_outside.specs.Writes.{WroteAll}
use Rattle.board_report.specs.Report.{slot_texts}
use Rattle.board_report.proofs.report.write_slots.Given as goal

-- the lines of the slots so far were written
abbrev pub invariant-loop-slot : goal.invariant-loop-slot
invariant-loop-slot g l = WroteAll g.K.Sink.tells l.initial.out l.out (slot_texts 0 (take l.slot l.lines))
