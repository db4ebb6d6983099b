use Rattle.std.proofs.Common.{◌-◌, ◌≤◌}
use Rattle.kernel_model.specs.Stretch.{IsStretch}
use Rattle.board_core.proofs.board.Board.run_quietly.Given as goal

abbrev pub invariant-loop-made : goal.invariant-loop-made
invariant-loop-made l = (l.made ≤ l.most) × IsStretch l.made l.fn.self l.self

abbrev pub decreases-loop-made : goal.decreases-loop-made
decreases-loop-made l = l.most - l.made
