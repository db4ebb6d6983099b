use Rattle.board_devices.specs.Arriving.{is_later}
use Rattle.board_devices.proofs.Inserting.{is_end, is_found}
use Rattle.board_devices.proofs.arrivals.place_after.Goals as goal

pub returns-in-Some-clause-place : goal.returns-in-Some-clause-place
returns-in-Some-clause-place c =
    is_found (is_later c.args.time) c.args.events.now c.in-Some.place (cc c.in-Some.ensures)

pub returns-in-None-clause-place : goal.returns-in-None-clause-place
returns-in-None-clause-place c =
    is_end (is_later c.args.time) c.args.events.now (cc c.in-None.ensures)
