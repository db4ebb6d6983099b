use Rattle.kernel_model.proofs.Refusals.{refused_changes_nothing_else}
use Rattle.kernel_model.proofs.laws.refused_changes_nothing_else.Goals as goal

pub returns : goal.returns
returns c = refused_changes_nothing_else c.drivers_promise.ensures
