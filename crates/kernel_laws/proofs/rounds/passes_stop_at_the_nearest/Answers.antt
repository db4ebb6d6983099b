use Rattle.kernel_laws.proofs.Passes.{passes_stop_at_the_nearest}
use Rattle.kernel_laws.proofs.rounds.passes_stop_at_the_nearest.Goals as goal

pub returns : goal.returns
returns c = passes_stop_at_the_nearest c.no_alarm_is_due_before_the_next.ensures
