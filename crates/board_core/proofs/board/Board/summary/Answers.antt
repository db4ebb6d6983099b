use Rattle.std.proofs.Common.{ap, ◌∙◌}
use Rattle.kernel_model.specs.Shown.{summary_of}
use Rattle.board_core.proofs.board.Board.summary.Goals as goal

pub returns : goal.returns
returns c = c.summary.ensures ∙ ap summary_of c.self.view_is
