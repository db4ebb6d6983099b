use Rattle.image_make.proofs.Packing.{objects_move}
use Rattle.image_make.proofs.laws.objects_move_alike.Goals as goal

pub returns : goal.returns
returns c = λ file short. objects_move file (c.objects_are_found.ensures.each file short)
