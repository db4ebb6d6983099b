use Rattle.grant_model.proofs.Values.{values-are-found}
use Rattle.grant_model.proofs.laws.values_are_found.Goals as goal

pub returns : goal.returns
returns c = values-are-found c.words_in_bytes.ensures
