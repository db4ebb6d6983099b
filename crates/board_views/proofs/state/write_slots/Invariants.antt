use Rattle.std.specs.List.{flat_map, range_with_len}
use Rattle.tk_outside.specs.Writes.{WroteAll}
use Rattle.board_views.specs.States.{slot_state}
use Rattle.board_views.proofs.state.write_slots.Given as goal

-- the lines of the slots so far were written
abbrev pub invariant-loop-n : goal.invariant-loop-n
invariant-loop-n g l = WroteAll g.K.Sink.tells l.initial.out l.out
    (flat_map (slot_state l.board) (range_with_len 0 l.n))
