use Rattle.std.proofs.Common.{◌≡◌, map, take}
use Rattle.process_seat.specs.Seats.{first_seat}
use Rattle.grant_enter.proofs.home.Home.new.Given as goal

abbrev pub invariant-loop-footprint : goal.invariant-loop-footprint
invariant-loop-footprint l = l.seats.items ≡ map (first_seat l.flash) (take l.footprint-index l.footprints)
