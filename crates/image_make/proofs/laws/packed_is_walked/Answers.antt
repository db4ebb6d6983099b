use Rattle.image_make.proofs.Moves.{packed_is_walked}
use Rattle.image_make.proofs.laws.packed_is_walked.Goals as goal

pub returns : goal.returns
returns c = packed_is_walked
