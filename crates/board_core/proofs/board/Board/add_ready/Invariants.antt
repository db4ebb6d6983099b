use Rattle.std.proofs.Common.{◌≡◌, take}
use Rattle.kernel_model.specs.Run.{ready_slots}
use Rattle.board_core.proofs.board.Board.add_ready.Given as goal

-- those of the slots that were looked at
abbrev pub invariant-loop-slot : goal.invariant-loop-slot
invariant-loop-slot l = l.ready.items ≡ take l.slot (ready_slots l.self)
