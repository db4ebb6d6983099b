use Rattle.kernel_laws.proofs.Restarting.{exits_end, restarts_are_made}
use Rattle.kernel_laws.proofs.steps.restarts_are_made.Goals as goal

pub returns-clause-made : goal.returns-clause-made
returns-clause-made c = restarts_are_made c.denials_are_due.ensures.calls

pub returns-clause-ends : goal.returns-clause-ends
returns-clause-ends c = exits_end c.denials_are_due.ensures.calls
