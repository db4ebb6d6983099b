use Rattle.kernel_laws.proofs.Breaks.{breaks_are_moved}
use Rattle.kernel_laws.proofs.steps.breaks_are_moved.Goals as goal

pub returns : goal.returns
returns c = breaks_are_moved c.denials_are_due.ensures.calls
