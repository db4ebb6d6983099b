use Rattle.std.proofs.Common.{◌≡◌, map}
use Rattle.std.specs.List.{range_with_len}
use Rattle.kernel_laws.specs.Windows.{lane_order}
use Rattle.kernel_model.specs.Parts.{work_for}
use Rattle.board_core.specs.Shows.{world_of}
use Rattle.board_core.proofs.standard.lane_flags.Given as goal

-- those of the slots that were looked at
abbrev pub invariant-loop-slot : goal.invariant-loop-slot
invariant-loop-slot l =
    map (λ flags. flags.items) l.lanes.items
    ≡ map (λ slot. map (work_for (world_of l.state) slot).ready lane_order) (range_with_len 0 l.slot)
