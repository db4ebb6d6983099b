use Rattle.board_opening.proofs.Boots.{drops_from_boot}
use Rattle.board_opening.proofs.certified.drops_from_boot_add_up.Goals as goal

pub returns : goal.returns
returns c = drops_from_boot c.drops_add_up.ensures
