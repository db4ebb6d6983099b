use Rattle.std.proofs.Common.{length}
use Rattle.grant_model.specs.Encoding.{decode_grants}
use Rattle.board_views.proofs.Granted.{LinesSoFar}
use Rattle.board_views.proofs.grants.write_areas.Given as goal

-- the lines of the grants so far were written
abbrev pub invariant-loop-rest : goal.invariant-loop-rest
invariant-loop-rest g l = LinesSoFar g.K.Sink.tells l.initial.out l.out l.slot (decode_grants l.kernel) l.rest

abbrev pub decreases-loop-rest : goal.decreases-loop-rest
decreases-loop-rest g l = length l.rest
