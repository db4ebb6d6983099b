use Rattle.std.proofs.Common.{take}
use Rattle.std.specs.List.{flat_map}
use Rattle.tk_outside.specs.Writes.{WroteAll}
use Rattle.board_views.specs.Lines.{word_text}
use Rattle.board_views.proofs.lines.write_words.Given as goal

-- the words so far were written
abbrev pub invariant-loop-word : goal.invariant-loop-word
invariant-loop-word g l = WroteAll g.K.Sink.tells l.initial.out l.out (flat_map word_text (take l.word-index l.words))
