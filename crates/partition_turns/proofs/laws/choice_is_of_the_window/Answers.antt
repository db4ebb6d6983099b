use Rattle.partition_turns.proofs.Made.{choice_is_of_the_window}
use Rattle.partition_turns.proofs.laws.choice_is_of_the_window.Goals as goal

pub returns : goal.returns
returns c = choice_is_of_the_window
