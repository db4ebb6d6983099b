use Rattle.kernel_laws.proofs.Kept.{drops_at_most_one}
use Rattle.kernel_laws.proofs.steps.grants_change_at_calls.Goals as goal

pub returns-clause-drops : goal.returns-clause-drops
returns-clause-drops c = drops_at_most_one c.drivers_promise.ensures
