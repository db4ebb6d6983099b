use Rattle.image_make.proofs.Checksums.{checksum_of_put}
use Rattle.image_make.proofs.laws.checksum_of_put.Goals as goal

pub returns : goal.returns
returns c = checksum_of_put c.a_store_is_put.ensures
