use Rattle.kernel_model.proofs.Console.{steps_operate_one}
use Rattle.kernel_model.proofs.laws.an_operator_acts_on_one.Goals as goal

pub returns : goal.returns
returns c = steps_operate_one
