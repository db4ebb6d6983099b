use Rattle.grant_model.proofs.Back.{is-read-back}
use Rattle.grant_model.proofs.laws.what_is_laid_is_read_back.Goals as goal

pub returns : goal.returns
returns c = is-read-back c.words_in_bytes.ensures
