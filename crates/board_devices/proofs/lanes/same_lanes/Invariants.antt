use Rattle.std.proofs.Common.{◌≡◌, take}
use Rattle.board_devices.proofs.lanes.same_lanes.Given as goal

-- those before the index are there again
abbrev pub invariant-loop-words : goal.invariant-loop-words
invariant-loop-words l = l.copies.items ≡ take l.words-index l.lanes
