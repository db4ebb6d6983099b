use Rattle.driver_model.proofs.Settled.{drivers_keep_settled}
use Rattle.driver_model.proofs.laws.drivers_keep_buffers_below_the_mark.Goals as goal

pub returns : goal.returns
returns c = drivers_keep_settled c.only_handing_changes_pairs.ensures c.drivers_leave_pairs.ensures
