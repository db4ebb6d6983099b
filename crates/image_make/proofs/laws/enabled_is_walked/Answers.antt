use Rattle.image_make.proofs.Edited.{enabled_is_walked}
use Rattle.image_make.proofs.laws.enabled_is_walked.Goals as goal

pub returns : goal.returns
returns c = enabled_is_walked c.a_store_is_put.ensures
