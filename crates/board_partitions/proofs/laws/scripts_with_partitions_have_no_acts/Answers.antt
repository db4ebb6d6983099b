use Rattle.board_partitions.proofs.Scripts.{no_acts_are_read}
use Rattle.board_partitions.proofs.laws.scripts_with_partitions_have_no_acts.Goals as goal

pub returns : goal.returns
returns c = no_acts_are_read
