use Rattle.std.proofs.Common.{take}
use Rattle.tk_outside.specs.Writes.{WroteAll}
use Rattle.board_report.specs.Parts.{unplaced_texts}
use Rattle.board_report.proofs.report.write_all_unplaced.Given as goal

-- the lines so far were written
abbrev pub invariant-loop-app : goal.invariant-loop-app
invariant-loop-app g l = WroteAll g.K.Sink.tells l.initial.out l.out (unplaced_texts (take l.app-index l.apps))
