use Rattle.std.proofs.Common.{length, ◌-◌}
use Rattle.grant_values.specs.Words.{words_of}
use Rattle.grant_model.specs.Encoding.{decode_grants}
use Rattle.grant_region.proofs.Walk.{Ahead}
use Rattle.grant_region.proofs.region.place.Given as goal

abbrev pub invariant-loop-offset : goal.invariant-loop-offset
invariant-loop-offset l = Ahead (words_of l.kernel) l.driver l.offset (decode_grants l.kernel)

abbrev pub decreases-loop-offset : goal.decreases-loop-offset
decreases-loop-offset l = length (words_of l.kernel) - l.offset
