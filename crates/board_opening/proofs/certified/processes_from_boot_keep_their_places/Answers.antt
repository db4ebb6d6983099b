use Rattle.board_opening.proofs.Boots.{opens_apart, opens_in_order, opens_living, opens_with_pending}
use Rattle.board_opening.proofs.Boots.{opens_with_registers}
use Rattle.board_opening.proofs.certified.processes_from_boot_keep_their_places.Goals as goal

pub returns-clause-lives : goal.returns-clause-lives
returns-clause-lives c =
    λ script flash choices slot.
    c.processes_live_as_they_run.ensures.lives _ choices slot (opens_living script flash slot)

pub returns-clause-order : goal.returns-clause-order
returns-clause-order c =
    λ script flash choices slot. c.places_never_change.ensures.order _ choices slot (opens_in_order script flash slot)

pub returns-clause-apart : goal.returns-clause-apart
returns-clause-apart c =
    λ script flash choices. c.places_never_change.ensures.apart _ choices (opens_apart script flash)

pub returns-clause-pending : goal.returns-clause-pending
returns-clause-pending c =
    λ script flash choices slot.
    c.places_never_change.ensures.pending _ choices slot (opens_with_pending script flash slot)

pub returns-clause-registers : goal.returns-clause-registers
returns-clause-registers c =
    λ script flash choices slot.
    c.processes_live_as_they_run.ensures.registers _ choices slot (opens_with_registers script flash slot)
