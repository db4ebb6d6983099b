use Rattle.std.proofs.Common.{arith, length, ◌≤◌}
use Rattle.tk_base.specs.declared.limits.TheConstants.{SLOT_COUNT}
use Rattle.kernel_model.specs.Replay.{after_all}
use Rattle.board_opening.specs.Opening.{opening}
use Rattle.board_opening.proofs.Openings.{opens_no_more_than_slots}
use Rattle.board_opening.proofs.certified.alarms_from_boot_are_exact.Goals as goal

pub returns : goal.returns
returns c script flash choices =
    let w = opening script flash in
    let many = c.places_never_change.ensures.many w choices in
    let slots = opens_no_more_than_slots script flash in
    let v = after_all w choices in
    let few : length v.records ≤ SLOT_COUNT = omega (arith, many, slots) in
    record {
      first = λ choice slot r. c.alarms_fire_when_due.ensures.first v choice slot r few;
      passes = λ ticks slot r. c.alarms_fire_when_due.ensures.passes v ticks slot r few;
    }
