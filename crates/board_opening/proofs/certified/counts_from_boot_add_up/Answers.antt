use Rattle.board_opening.proofs.Boots.{counts_from_boot}
use Rattle.board_opening.proofs.certified.counts_from_boot_add_up.Goals as goal

pub returns : goal.returns
returns c = counts_from_boot c.time_steps_and_turns_add_up.ensures
