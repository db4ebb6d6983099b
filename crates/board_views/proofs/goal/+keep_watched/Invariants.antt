use Rattle.std.proofs.Common.{length}
use Rattle.board_views.proofs.goal.+keep_watched.Given as goal

abbrev pub decreases-keep_watched : goal.decreases-keep_watched
decreases-keep_watched l = length l.places.now
