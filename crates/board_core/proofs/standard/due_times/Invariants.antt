use Rattle.std.proofs.Common.{◌≡◌, map}
use Rattle.std.specs.List.{range_with_len}
use Rattle.kernel_laws.specs.Windows.{due_time}
use Rattle.board_core.specs.Shows.{world_of}
use Rattle.board_core.proofs.standard.due_times.Given as goal

-- those of the slots that were looked at
abbrev pub invariant-loop-slot : goal.invariant-loop-slot
invariant-loop-slot l = l.times.items ≡ map (due_time (world_of l.state)) (range_with_len 0 l.slot)
