-- What holds of a board holds of its parts.
use Rattle.board_drivers.specs.Parts.{AreBoardParts}
use Rattle.board_core.specs.declared.state.BoardState.{BoardState}
use Rattle.board_core.specs.PartsOf.{board_parts}
use Rattle.board_core.specs.Shows.{IsBoard}

pub are_parts : (b : BoardState) → IsBoard b → AreBoardParts (board_parts b)
are_parts b board = record {
  seated = board.seated;
  lost = board.machine.lost;
  owns = board.owns;
  few = board.few;
  driven = board.machine.driven;
  lanes = board.machine.lanes;
  served = board.machine.served;
  steps = board.machine.steps;
  time = board.machine.time;
}
