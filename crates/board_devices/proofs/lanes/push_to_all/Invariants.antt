use Rattle.std.proofs.Common.{◌≡◌, drop, map, take, ◌++◌}
use Rattle.board_devices.specs.SerialLine.{with_input}
use Rattle.board_devices.proofs.lanes.push_to_all.Given as goal

-- at those before the index they came in
abbrev pub invariant-loop-uart : goal.invariant-loop-uart
invariant-loop-uart l =
    l.uarts ≡ map (with_input l.bytes) (take l.uart-index l.initial.uarts) ++ drop l.uart-index l.initial.uarts
