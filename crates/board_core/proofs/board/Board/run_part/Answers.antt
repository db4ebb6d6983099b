-- A part of a quiet stretch is that of the slot that has the next turn. Where the next choice is no turn, no stretch
-- goes on.
use Rattle.std.proofs.Common.{◌∙◌}
use Rattle.board_core.proofs.Stretches.{stops_at}
use Rattle.board_core.proofs.board.Board.run_part.Goals as goal

pub returns-in_default-slot_of-clause-ends : goal.returns-in_default-slot_of-clause-ends
returns-in_default-slot_of-clause-ends c e h = stops_at (λ g.
    c.in_default-slot_of.ensures.none g.slot (c.next_choice-next_choice.ensures.next ∙ g.chosen))
