use Rattle.grant_model.proofs.Spots.{areas-are-found}
use Rattle.grant_model.proofs.laws.areas_are_found.Goals as goal

pub returns : goal.returns
returns c = areas-are-found c.words_in_bytes.ensures
