use Rattle.board_memory.specs.Known.{AreEntries}
use Rattle.board_memory.proofs.flash.decode.Given as goal

abbrev pub invariant-loop-k : goal.invariant-loop-k
invariant-loop-k g l = AreEntries l.bytes l.entries
