use Rattle.kernel_laws.proofs.Causes.{turns_have_causes, turns_without_clock}
use Rattle.kernel_laws.proofs.bytes.turns_have_causes.Goals as goal

pub returns-clause-whole : goal.returns-clause-whole
returns-clause-whole c =
    turns_have_causes c.only_writes_change_bytes.ensures c.drivers_write_in_buffers.ensures.commands
    c.denials_are_due.ensures.calls

pub returns-clause-others : goal.returns-clause-others
returns-clause-others c =
    turns_without_clock c.only_writes_change_bytes.ensures c.drivers_write_in_buffers.ensures.commands
    c.denials_are_due.ensures.calls
