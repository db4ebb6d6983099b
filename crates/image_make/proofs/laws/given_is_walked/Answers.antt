use Rattle.image_make.proofs.Edited.{given_is_walked}
use Rattle.image_make.proofs.laws.given_is_walked.Goals as goal

pub returns : goal.returns
returns c = given_is_walked c.a_store_is_put.ensures
