use Rattle.board_opening.proofs.laws.deliveries_from_boot_are_of_the_last.Goals as goal

pub returns-clause-last : goal.returns-clause-last
returns-clause-last c = λ script flash slot. c.deliveries_are_of_the_last.ensures _ slot
    (c.swaps_from_boot_give_back_the_last.ensures.opens script flash slot)

pub returns-clause-waits : goal.returns-clause-waits
returns-clause-waits c = λ script flash slot. c.waits_get_the_first.ensures _ slot
