use Rattle.kernel_histories.proofs.Waits.{waits_get_the_first}
use Rattle.kernel_histories.proofs.upcalls.waits_get_the_first.Goals as goal

pub returns : goal.returns
returns c = waits_get_the_first c.denials_are_due.ensures.calls c.only_ready_processes_have_turns.ensures.ready
