use Rattle.std.proofs.Common.{length}
use Rattle.tock_look.proofs.asks.+watched_after.Given as goal

abbrev pub decreases-watched_after : goal.decreases-watched_after
decreases-watched_after l = length l.numbers.now
