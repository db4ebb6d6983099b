use Rattle.image_make.proofs.Readings.{flags_are_read}
use Rattle.image_make.proofs.laws.flags_are_read.Goals as goal

pub returns : goal.returns
returns c = flags_are_read c.a_store_is_put.ensures
