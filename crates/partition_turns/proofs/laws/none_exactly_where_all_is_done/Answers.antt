use Rattle.partition_turns.proofs.Remaining.{none_exactly}
use Rattle.partition_turns.proofs.laws.none_exactly_where_all_is_done.Goals as goal

pub returns : goal.returns
returns c = none_exactly
