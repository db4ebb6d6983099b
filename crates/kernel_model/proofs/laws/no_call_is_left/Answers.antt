use Rattle.kernel_model.proofs.Refusals.{none_is_left}
use Rattle.kernel_model.proofs.laws.no_call_is_left.Goals as goal

pub returns : goal.returns
returns c = none_is_left c.drivers_promise.ensures
