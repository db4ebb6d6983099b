use Rattle.board_opening.proofs.Openings.{opens_no_more_than_slots}
use Rattle.board_opening.proofs.certified.runs_from_boot_are_done_where_nothing_is_left.Goals as goal

pub returns : goal.returns
returns c = λ script flash choices. c.a_run_is_one_run.ensures.done _ choices (opens_no_more_than_slots script flash)
