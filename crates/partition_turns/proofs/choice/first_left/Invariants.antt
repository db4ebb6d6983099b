use Rattle.std.proofs.Common.{◌≡◌, ◌-◌, find}
use Rattle.std.specs.List.{range_with_len}
use Rattle.partition_turns.specs.Lanes.{lanes_shown}
use Rattle.partition_turns.specs.Windows.{is_left_in}
use Rattle.partition_turns.proofs.choice.first_left.Given as goal

-- what is first among the slots that are still to be looked at is first among all
abbrev pub invariant-loop-slot : goal.invariant-loop-slot
invariant-loop-slot l =
    find (is_left_in (lanes_shown l.lanes)) (range_with_len l.slot (l.to - l.slot))
    ≡ find (is_left_in (lanes_shown l.lanes)) (range_with_len l.from (l.to - l.from))
