use Rattle.pmp_regions.proofs.Lowest.{NoneBelow}
use Rattle.pmp_regions.proofs.Pmp.deciding.Given as goal

abbrev pub invariant-loop-entry : goal.invariant-loop-entry
invariant-loop-entry l = NoneBelow l.self l.span.at l.span.width l.entry
