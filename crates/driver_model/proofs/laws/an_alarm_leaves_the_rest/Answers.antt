use Rattle.driver_model.proofs.Firing.{an_alarm_leaves_the_rest}
use Rattle.driver_model.proofs.laws.an_alarm_leaves_the_rest.Goals as goal

pub returns : goal.returns
returns c = an_alarm_leaves_the_rest
