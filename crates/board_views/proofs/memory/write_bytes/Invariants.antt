use Rattle.std.proofs.Common.{take}
use Rattle.tk_outside.specs.Writes.{WroteAll}
use Rattle.board_report.specs.Parts.{bytes_text}
use Rattle.board_views.proofs.memory.write_bytes.Given as goal

-- the bytes so far were written
abbrev pub invariant-loop-byte : goal.invariant-loop-byte
invariant-loop-byte g l = WroteAll g.K.Sink.tells l.initial.out l.out (bytes_text (take l.byte-index l.bytes))
