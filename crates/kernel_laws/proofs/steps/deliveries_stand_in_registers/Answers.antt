use Rattle.kernel_laws.proofs.Delivered.{deliveries_are_seen}
use Rattle.kernel_laws.proofs.steps.deliveries_stand_in_registers.Goals as goal

pub returns : goal.returns
returns c = deliveries_are_seen c.denials_are_due.ensures.calls
