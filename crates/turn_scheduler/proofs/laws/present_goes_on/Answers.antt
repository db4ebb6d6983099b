use Rattle.turn_scheduler.proofs.Choices.{present_goes_on}
use Rattle.turn_scheduler.proofs.laws.present_goes_on.Goals as goal

pub returns : goal.returns
returns c = present_goes_on
