use Rattle.std.proofs.Common.{◌≡◌, take}
use Rattle.board_devices.proofs.stores.same_slots.Given as goal

-- those before the index are there again
abbrev pub invariant-loop-store : goal.invariant-loop-store
invariant-loop-store l = l.copies.items ≡ take l.store-index l.slots
