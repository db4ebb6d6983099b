use Rattle.driver_model.proofs.Pairs.{drivers_leave_pairs}
use Rattle.driver_model.proofs.laws.drivers_leave_pairs.Goals as goal

pub returns : goal.returns
returns c = drivers_leave_pairs c.only_handing_changes_pairs.ensures
