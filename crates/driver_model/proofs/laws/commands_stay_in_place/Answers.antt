use Rattle.driver_model.proofs.Places.{commands_stay_in_place}
use Rattle.driver_model.proofs.laws.commands_stay_in_place.Goals as goal

pub returns : goal.returns
returns c = commands_stay_in_place
