use Rattle.std.proofs.Common.{take}
use Rattle.tk_outside.specs.Writes.{WroteAll}
use Rattle.grant_values.specs.Words.{words_of}
use Rattle.board_views.specs.Lines.{words_text}
use Rattle.board_views.proofs.grants.write_words_of.Given as goal

-- the words so far were written
abbrev pub invariant-loop-n : goal.invariant-loop-n
invariant-loop-n g l = WroteAll g.K.Sink.tells l.initial.out l.out (words_text (take l.n (words_of l.bytes)))
