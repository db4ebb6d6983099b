use Rattle.kernel_lives.proofs.Counts.{counts_add_up}
use Rattle.kernel_lives.proofs.certified.time_steps_and_turns_add_up.Goals as goal

pub returns : goal.returns
returns c = counts_add_up c.a_due_slot_is_there.ensures
