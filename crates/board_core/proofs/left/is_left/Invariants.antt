use Rattle.std.proofs.Common.{◌≡◌, ◌-◌, find}
use Rattle.std.specs.List.{range_with_len}
use Rattle.tk_base.specs.declared.limits.TheConstants.{SLOT_COUNT}
use Rattle.kernel_model.specs.Run.{is_left_for}
use Rattle.board_core.specs.Shows.{world_of}
use Rattle.board_core.proofs.left.is_left.Given as goal

-- what is first among the slots that are still to be looked at is first among all
abbrev pub invariant-loop-slot : goal.invariant-loop-slot
invariant-loop-slot l =
    find (is_left_for (world_of l.state)) (range_with_len l.slot (SLOT_COUNT - l.slot))
    ≡ find (is_left_for (world_of l.state)) (range_with_len 0 SLOT_COUNT)
