use Rattle.kernel_laws.proofs.Kept.{turns_keep_lines}
use Rattle.kernel_laws.proofs.steps.turns_keep_lines.Goals as goal

pub returns-clause-lines : goal.returns-clause-lines
returns-clause-lines c = turns_keep_lines c.drivers_promise.ensures
