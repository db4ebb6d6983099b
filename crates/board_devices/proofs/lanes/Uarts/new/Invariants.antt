use Rattle.std.proofs.Common.{◌≡◌, [], replicate}
use Rattle.board_devices.proofs.lanes.Uarts.new.Given as goal

-- as many as there were turns
abbrev pub invariant-loop : goal.invariant-loop
invariant-loop l = l.lanes.items ≡ replicate l.counter (record { ring = []; ticks = l.ticks; free = 0 })
