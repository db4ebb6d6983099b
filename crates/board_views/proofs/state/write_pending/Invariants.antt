use Rattle.std.proofs.Common.{take}
use Rattle.tk_outside.specs.Writes.{WroteAll}
use Rattle.board_views.specs.States.{pending_text}
use Rattle.board_views.proofs.state.write_pending.Given as goal

-- the lines so far were written
abbrev pub invariant-loop-upcall : goal.invariant-loop-upcall
invariant-loop-upcall g l = WroteAll g.K.Sink.tells l.initial.out l.out
    (pending_text l.slot (take l.upcall-index l.upcalls))
