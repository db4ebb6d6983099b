use Rattle.std.proofs.Common.{◌-◌}
use Rattle.board_views.proofs.Stretches.{GoesOnTo}
use Rattle.board_views.proofs.going.make_steps.Given as goal

abbrev pub invariant-loop-made : goal.invariant-loop-made
invariant-loop-made l = GoesOnTo l.most l.made l.fn.board l.board

abbrev pub decreases-loop-made : goal.decreases-loop-made
decreases-loop-made l = l.most - l.made
