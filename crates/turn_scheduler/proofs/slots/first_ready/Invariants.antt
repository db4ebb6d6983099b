use Rattle.std.proofs.Common.{◌≡◌, ◌-◌, find}
use Rattle.std.specs.List.{range_with_len}
use Rattle.turn_scheduler.specs.Parts.{place_is_ready}
use Rattle.turn_scheduler.proofs.slots.first_ready.Given as goal

-- what is first among the slots that are left is first among all
abbrev pub invariant-loop-slot : goal.invariant-loop-slot
invariant-loop-slot g l =
    find (place_is_ready (g.S.Situated.situation l.situated).ready) (range_with_len l.slot (l.to - l.slot))
    ≡ find (place_is_ready (g.S.Situated.situation l.situated).ready) (range_with_len l.from (l.to - l.from))
