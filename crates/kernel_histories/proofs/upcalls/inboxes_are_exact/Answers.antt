use Rattle.kernel_histories.proofs.Inboxes.{inboxes_are_exact}
use Rattle.kernel_histories.proofs.upcalls.inboxes_are_exact.Goals as goal

pub returns : goal.returns
returns c = inboxes_are_exact c.only_handing_changes_pairs.ensures
