use Rattle.board_opening.proofs.Boots.{opens_with_nothing_handed}
use Rattle.board_opening.proofs.laws.swaps_from_boot_give_back_the_last.Goals as goal

pub returns-clause-opens : goal.returns-clause-opens
returns-clause-opens c = opens_with_nothing_handed

pub returns-clause-swaps : goal.returns-clause-swaps
returns-clause-swaps c =
    λ script flash slot. c.swaps_give_back_the_last.ensures _ slot (opens_with_nothing_handed script flash slot)
