use Rattle.std.proofs.Common.{length}
use Rattle.tk_outside.proofs.PutLemmas.{Sent}
use Rattle.tk_outside.proofs.put.put_all.Given as goal

abbrev pub invariant-loop-rest : goal.invariant-loop-rest
invariant-loop-rest g l = Sent g.K.Sink.tells l.initial.out l.out l.piece l.rest

abbrev pub decreases-loop-rest : goal.decreases-loop-rest
decreases-loop-rest g l = length l.rest
