use Rattle.process_model.proofs.Changes.{only_writes_change_bytes}
use Rattle.process_model.proofs.laws.only_writes_change_bytes.Goals as goal

pub returns : goal.returns
returns c = only_writes_change_bytes c.writes_are_listed.ensures c.writes_are_permitted.ensures
