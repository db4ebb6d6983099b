use Rattle.partition_turns.proofs.Made.{pass_ends_in_time}
use Rattle.partition_turns.proofs.laws.pass_ends_in_time.Goals as goal

pub returns : goal.returns
returns c = pass_ends_in_time
