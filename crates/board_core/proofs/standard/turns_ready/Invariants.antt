use Rattle.std.proofs.Common.{◌≡◌, map, take}
use Rattle.kernel_model.specs.Turn.{may_turn}
use Rattle.board_core.specs.Shows.{world_of}
use Rattle.board_core.proofs.standard.turns_ready.Given as goal

-- those of the slots that were looked at
abbrev pub invariant-loop-slot : goal.invariant-loop-slot
invariant-loop-slot l = l.ready.items ≡ take l.slot (map may_turn (world_of l.state).records)
