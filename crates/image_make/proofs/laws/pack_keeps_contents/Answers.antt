use Rattle.image_make.proofs.Contents.{pack_keeps_contents}
use Rattle.image_make.proofs.laws.pack_keeps_contents.Goals as goal

pub returns : goal.returns
returns c = pack_keeps_contents
