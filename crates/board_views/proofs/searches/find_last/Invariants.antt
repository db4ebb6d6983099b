use Rattle.board_views.proofs.Seeking.{FindsOn}
use Rattle.board_views.proofs.searches.find_last.Given as goal

abbrev pub invariant-loop-left : goal.invariant-loop-left
invariant-loop-left l = FindsOn l.most l.goal l.left l.kept.items l.found l.fn.board l.board

abbrev pub decreases-loop-left : goal.decreases-loop-left
decreases-loop-left l = l.left
