use Rattle.image_make.proofs.Renames.{names_are_read}
use Rattle.image_make.proofs.laws.names_are_read.Goals as goal

pub returns : goal.returns
returns c = names_are_read c.a_store_is_put.ensures
