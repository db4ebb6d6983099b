use Rattle.kernel_laws.proofs.Caused.{steps_have_causes, steps_without_clock}
use Rattle.kernel_laws.proofs.bytes.steps_have_causes.Goals as goal

pub returns-clause-causes : goal.returns-clause-causes
returns-clause-causes c = steps_have_causes c.turns_have_causes.ensures.whole c.drivers_write_in_buffers.ensures.answers

pub returns-clause-others : goal.returns-clause-others
returns-clause-others c = steps_without_clock c.turns_have_causes.ensures.others
