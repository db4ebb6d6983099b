use Rattle.driver_model.proofs.Places.{command_drops_at_most_one}
use Rattle.driver_model.proofs.laws.a_command_drops_at_most_one_upcall.Goals as goal

pub returns : goal.returns
returns c = command_drops_at_most_one
