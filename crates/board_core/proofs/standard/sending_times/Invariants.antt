use Rattle.std.proofs.Common.{◌≡◌, map, Some}
use Rattle.std.specs.List.{range_with_len}
use Rattle.kernel_model.specs.World.{sending_time}
use Rattle.board_core.specs.Shows.{world_of}
use Rattle.board_core.proofs.standard.sending_times.Given as goal

-- those of the slots that were looked at
abbrev pub invariant-loop-slot : goal.invariant-loop-slot
invariant-loop-slot l =
    l.times.items ≡ map (λ slot. sending_time (Some slot) (world_of l.state).devices) (range_with_len 0 l.slot)
