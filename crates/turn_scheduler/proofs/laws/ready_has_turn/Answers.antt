use Rattle.turn_scheduler.proofs.Waiting.{ready_has_turn}
use Rattle.turn_scheduler.proofs.laws.ready_has_turn.Goals as goal

pub returns : goal.returns
returns c = ready_has_turn
