use Rattle.board_views.proofs.state.write_refused.Goals as goal

pub returns-in-Some : goal.returns-in-Some
returns-in-Some g c = rw c.in-Some.is c.write_slot_line.ensures
