use Rattle.kernel_model.proofs.Filter.{steps_are_filtered}
use Rattle.kernel_model.proofs.every_run.calls_are_filtered.Goals as goal

pub returns : goal.returns
returns c = steps_are_filtered
