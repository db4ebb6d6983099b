use Rattle.pmp_regions.specs.Windows.{EndBy}
use Rattle.pmp_regions.proofs.Pmp.is_clear_below.Given as goal

abbrev pub invariant-loop-lower : goal.invariant-loop-lower
invariant-loop-lower l = EndBy l.self-inside.entries l.lower l.bottom
