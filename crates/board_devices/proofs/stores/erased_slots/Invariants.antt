use Rattle.std.proofs.Common.{◌≡◌, replicate}
use Rattle.board_devices.proofs.stores.erased_slots.Given as goal

-- as many erased slots as there were turns
abbrev pub invariant-loop : goal.invariant-loop
invariant-loop l = l.slots.items ≡ replicate l.counter (replicate l.size 255)
