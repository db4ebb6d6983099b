use Rattle.std.proofs.Common.{subst}
use Rattle.kernel_model.specs.Causes.{AreWhole}
use Rattle.board_core.proofs.Boards.{shown_whole}
use Rattle.board_core.proofs.board.Board.owns_are_whole.Goals as goal

pub returns : goal.returns
returns c = subst AreWhole c.self.view_is
    (shown_whole c.self.invariant c.held_buffers_lie_in_place.ensures c.owns_lie_in_place.ensures)
