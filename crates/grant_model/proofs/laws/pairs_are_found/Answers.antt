use Rattle.grant_model.proofs.Exchange.{pairs-are-found}
use Rattle.grant_model.proofs.laws.pairs_are_found.Goals as goal

pub returns : goal.returns
returns c = pairs-are-found c.words_in_bytes.ensures
