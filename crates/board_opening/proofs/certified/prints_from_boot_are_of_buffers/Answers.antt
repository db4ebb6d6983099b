use Rattle.board_opening.proofs.Boots.{opens_whole}
use Rattle.board_opening.proofs.certified.prints_from_boot_are_of_buffers.Goals as goal

pub returns-clause-prints : goal.returns-clause-prints
returns-clause-prints c = λ script flash choices choice. c.prints_are_of_buffers.ensures.prints _ choices choice

pub returns-clause-loads : goal.returns-clause-loads
returns-clause-loads c =
    λ script flash choices choice.
    c.prints_are_of_buffers.ensures.loads _ choices choice
    (opens_whole script flash c.only_handing_changes_pairs.ensures)
