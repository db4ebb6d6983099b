use Rattle.driver_model.proofs.Refusals.{refused_by_any_driver}
use Rattle.driver_model.proofs.laws.a_driver_that_refuses_changes_nothing.Goals as goal

pub returns : goal.returns
returns c = refused_by_any_driver
