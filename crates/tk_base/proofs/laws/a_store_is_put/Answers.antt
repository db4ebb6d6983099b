use Rattle.tk_base.proofs.Stores.{store_is_put}
use Rattle.tk_base.proofs.laws.a_store_is_put.Goals as goal

pub returns : goal.returns
returns c = store_is_put
