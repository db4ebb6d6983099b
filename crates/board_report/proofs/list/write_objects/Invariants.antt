use Rattle.std.proofs.Common.{take}
use Rattle.tk_outside.specs.Writes.{WroteAll}
use Rattle.board_report.specs.Parts.{object_texts}
use Rattle.board_report.proofs.list.write_objects.Given as goal

-- the lines so far were written
abbrev pub invariant-loop-object : goal.invariant-loop-object
invariant-loop-object g l = WroteAll g.K.Sink.tells l.initial.out l.out
    (object_texts l.flash (take l.object-index l.found))
