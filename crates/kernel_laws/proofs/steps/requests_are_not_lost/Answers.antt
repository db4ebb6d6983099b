use Rattle.kernel_laws.proofs.Withdrawing.{requests_are_not_lost}
use Rattle.kernel_laws.proofs.steps.requests_are_not_lost.Goals as goal

pub returns : goal.returns
returns c = requests_are_not_lost
