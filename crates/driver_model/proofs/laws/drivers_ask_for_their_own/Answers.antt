use Rattle.driver_model.proofs.Asking.{ask_their_own}
use Rattle.driver_model.proofs.laws.drivers_ask_for_their_own.Goals as goal

pub returns : goal.returns
returns c = ask_their_own
