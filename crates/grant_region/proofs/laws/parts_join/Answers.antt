use Rattle.grant_region.proofs.Below.{parts-join}
use Rattle.grant_region.proofs.laws.parts_join.Goals as goal

pub returns : goal.returns
returns c = parts-join c.what_is_laid_is_read_back.ensures
