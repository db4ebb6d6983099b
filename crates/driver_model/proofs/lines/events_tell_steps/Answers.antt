use Rattle.driver_model.proofs.Telling.{events_tell_steps}
use Rattle.driver_model.proofs.lines.events_tell_steps.Goals as goal

pub returns : goal.returns
returns c = events_tell_steps
