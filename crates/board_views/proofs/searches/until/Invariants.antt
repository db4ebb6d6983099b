use Rattle.board_views.proofs.Seeking.{SearchesOn}
use Rattle.board_views.proofs.searches.until.Given as goal

abbrev pub invariant-loop-left : goal.invariant-loop-left
invariant-loop-left l = SearchesOn l.most l.goal l.kept l.left l.begun l.fn.board l.board

abbrev pub decreases-loop-left : goal.decreases-loop-left
decreases-loop-left l = l.left
