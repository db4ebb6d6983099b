use Rattle.partition_turns.proofs.Rotation.{windows_are_in_turn}
use Rattle.partition_turns.proofs.laws.windows_are_in_turn.Goals as goal

pub returns : goal.returns
returns c = windows_are_in_turn
