use Rattle.board_opening.proofs.Boots.{opens_with_lists}
use Rattle.board_opening.proofs.certified.lists_from_boot_are_of_requests.Goals as goal

pub returns : goal.returns
returns c = λ script flash choices. c.lists_are_of_requests.ensures _ choices (opens_with_lists script flash)
