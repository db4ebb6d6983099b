use Rattle.board_views.proofs.Turning.{TurnsOn}
use Rattle.board_views.proofs.going.make_turns.Given as goal

abbrev pub invariant-loop-left : goal.invariant-loop-left
invariant-loop-left l = TurnsOn l.most l.slot l.turns l.left l.fn.board l.board

abbrev pub decreases-loop-left : goal.decreases-loop-left
decreases-loop-left l = l.left
