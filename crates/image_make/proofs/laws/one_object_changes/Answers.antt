use Rattle.image_make.proofs.Walked.{one_object_changes}
use Rattle.image_make.proofs.laws.one_object_changes.Goals as goal

pub returns : goal.returns
returns c = one_object_changes
