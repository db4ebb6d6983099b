use Rattle.turn_scheduler.proofs.Choices.{choice_is_ready}
use Rattle.turn_scheduler.proofs.laws.choice_is_ready.Goals as goal

pub returns : goal.returns
returns c = choice_is_ready
