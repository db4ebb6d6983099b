use Rattle.image_make.proofs.Moves.{verdicts_move}
use Rattle.image_make.proofs.laws.verdicts_move.Goals as goal

pub returns : goal.returns
returns c = verdicts_move
