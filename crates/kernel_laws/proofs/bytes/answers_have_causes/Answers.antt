use Rattle.kernel_laws.proofs.Answered.{answers_have_causes}
use Rattle.kernel_laws.proofs.bytes.answers_have_causes.Goals as goal

pub returns : goal.returns
returns c = answers_have_causes c.drivers_write_in_buffers.ensures.answers
