use Rattle.kernel_laws.proofs.Refused.{refusals_change_little}
use Rattle.kernel_laws.proofs.steps.refusals_change_little.Goals as goal

pub returns : goal.returns
returns c = refusals_change_little c.refused_changes_nothing_else.ensures c.denials_are_due.ensures.calls
