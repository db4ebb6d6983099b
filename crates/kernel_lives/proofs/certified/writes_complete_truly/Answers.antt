use Rattle.kernel_lives.proofs.Writes.{writes_complete_truly}
use Rattle.kernel_lives.proofs.certified.writes_complete_truly.Goals as goal

pub returns : goal.returns
returns c =
    writes_complete_truly c.drivers_keep_places_and_order.ensures c.owns_stay_whole.ensures.stays
