use Rattle.board_memory.proofs.Stores.{stored}
use Rattle.board_memory.proofs.laws.a_store_in_ram_is_put.Goals as goal

pub returns : goal.returns
returns c = stored c.a_store_is_put.ensures
