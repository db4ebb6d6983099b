use Rattle.std.proofs.Common.{take}
use Rattle.std.specs.List.{flat_map}
use Rattle.tk_outside.specs.Writes.{WroteAll}
use Rattle.board_views.specs.Lines.{word_text}
use Rattle.board_views.proofs.waits.write_waiting.Given as goal

-- the slots so far were written
abbrev pub invariant-loop-process : goal.invariant-loop-process
invariant-loop-process g l = WroteAll g.K.Sink.tells l.initial.out l.out
    (flat_map (λ id. word_text id.slot) (take l.process-index l.waiting))
