use Rattle.std.proofs.Common.{◌≡◌, take}
use Rattle.grant_enter.proofs.home.copied_seats.Given as goal

-- the seats so far are copied
abbrev pub invariant-loop-seat : goal.invariant-loop-seat
invariant-loop-seat l = l.copies.items ≡ take l.seat-index l.seats
