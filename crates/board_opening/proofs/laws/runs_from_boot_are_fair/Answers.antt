use Rattle.board_opening.proofs.Openings.{opens_no_more_than_slots, opens_with_slice, opens_without_windows}
use Rattle.board_opening.proofs.laws.runs_from_boot_are_fair.Goals as goal

pub returns : goal.returns
returns c = λ script flash one none. c.ready_processes_have_turns.ensures _ (opens_no_more_than_slots script flash)
    (opens_with_slice script flash one) (opens_without_windows script flash none)
