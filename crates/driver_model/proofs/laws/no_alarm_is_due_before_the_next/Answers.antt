use Rattle.driver_model.proofs.Nearing.{quiet_until_next}
use Rattle.driver_model.proofs.laws.no_alarm_is_due_before_the_next.Goals as goal

pub returns : goal.returns
returns c = quiet_until_next
