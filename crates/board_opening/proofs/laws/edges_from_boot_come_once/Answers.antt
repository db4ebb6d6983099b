use Rattle.board_opening.proofs.laws.edges_from_boot_come_once.Goals as goal

pub returns : goal.returns
returns c = λ script flash slot. c.each_edge_comes_once.ensures _ slot
