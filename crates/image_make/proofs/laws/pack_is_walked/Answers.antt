use Rattle.image_make.proofs.Packing.{pack_is_walked}
use Rattle.image_make.proofs.laws.pack_is_walked.Goals as goal

pub returns : goal.returns
returns c = pack_is_walked
