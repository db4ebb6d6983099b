use Rattle.grant_model.proofs.Windows.{pairs-stand-by-kind}
use Rattle.grant_model.proofs.laws.pairs_stand_by_kind.Goals as goal

pub returns : goal.returns
returns c = pairs-stand-by-kind
