use Rattle.std.proofs.Common.{◌≡◌, take}
use Rattle.board_devices.proofs.arrivals.same_events.Given as goal

-- those before the index are there again
abbrev pub invariant-loop-event : goal.invariant-loop-event
invariant-loop-event l = l.copies.items ≡ take l.event-index l.events
