use Rattle.std.proofs.Common.{length}
use Rattle.board_views.proofs.goal.+has.Given as goal

abbrev pub decreases-has : goal.decreases-has
decreases-has l = length l.addresses.now
