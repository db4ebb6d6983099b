use Rattle.process_model.proofs.Pairs.{only_handing_changes_pairs}
use Rattle.process_model.proofs.laws.only_handing_changes_pairs.Goals as goal

pub returns : goal.returns
returns c = only_handing_changes_pairs c.pairs_stand_by_kind.ensures
