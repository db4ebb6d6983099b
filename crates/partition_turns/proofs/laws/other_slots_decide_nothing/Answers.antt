use Rattle.partition_turns.proofs.Made.{other_slots_decide_nothing}
use Rattle.partition_turns.proofs.laws.other_slots_decide_nothing.Goals as goal

pub returns : goal.returns
returns c = other_slots_decide_nothing
