use Rattle.board_views.proofs.Timing.{GoesTo}
use Rattle.board_views.proofs.times.make_to.Given as goal

abbrev pub invariant-loop-left : goal.invariant-loop-left
invariant-loop-left g l = GoesTo g.K.Sink.tells l.reach l.left l.fn.board l.board l.fn.out l.out

abbrev pub decreases-loop-left : goal.decreases-loop-left
decreases-loop-left g l = l.left
