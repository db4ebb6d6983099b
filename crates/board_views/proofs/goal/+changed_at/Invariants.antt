use Rattle.std.proofs.Common.{length}
use Rattle.board_views.proofs.goal.+changed_at.Given as goal

abbrev pub decreases-changed_at : goal.decreases-changed_at
decreases-changed_at l = length l.places.now
