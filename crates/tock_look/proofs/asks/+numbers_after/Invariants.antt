use Rattle.std.proofs.Common.{length}
use Rattle.tock_look.proofs.asks.+numbers_after.Given as goal

abbrev pub decreases-numbers_after : goal.decreases-numbers_after
decreases-numbers_after l = length l.words.now
