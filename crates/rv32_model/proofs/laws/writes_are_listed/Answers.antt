use Rattle.rv32_model.proofs.Listed.{writes_are_listed}
use Rattle.rv32_model.proofs.laws.writes_are_listed.Goals as goal

pub returns : goal.returns
returns c = writes_are_listed
