use Rattle.std.proofs.Common.{◌≡◌, take}
use Rattle.board_devices.proofs.lanes.same_uarts.Given as goal

-- those before the index are there again
abbrev pub invariant-loop-uart : goal.invariant-loop-uart
invariant-loop-uart l = l.copies.items ≡ take l.uart-index l.uarts
