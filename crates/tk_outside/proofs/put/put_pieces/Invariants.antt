use Rattle.std.proofs.Common.{take}
use Rattle.tk_outside.specs.Writes.{WroteAll}
use Rattle.tk_outside.specs.Text.{text_of}
use Rattle.tk_outside.proofs.put.put_pieces.Given as goal

abbrev pub invariant-loop-piece : goal.invariant-loop-piece
invariant-loop-piece g l = WroteAll g.K.Sink.tells l.initial.out l.out (text_of (take l.piece-index l.pieces))
