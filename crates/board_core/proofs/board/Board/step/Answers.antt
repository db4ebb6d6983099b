use Rattle.board_core.proofs.KnownEnds.{nothing_known}
use Rattle.board_core.proofs.board.Board.step.Goals as goal

pub step_with_end-requires : goal.step_with_end-requires
step_with_end-requires c = nothing_known c.args.self.now c.args.choice
