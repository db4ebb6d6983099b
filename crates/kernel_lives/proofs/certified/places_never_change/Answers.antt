use Rattle.kernel_laws.proofs.Kept.{drops_only_where_full}
use Rattle.kernel_lives.proofs.Lives.{as_many_stay, blocks_stay_apart, order_stays, places_stay, pending_stays}
use Rattle.kernel_lives.proofs.certified.places_never_change.Goals as goal

pub returns-clause-places : goal.returns-clause-places
returns-clause-places c = places_stay c.drivers_keep_places_and_order.ensures

pub returns-clause-apart : goal.returns-clause-apart
returns-clause-apart c = blocks_stay_apart c.drivers_keep_places_and_order.ensures

pub returns-clause-order : goal.returns-clause-order
returns-clause-order c = order_stays c.drivers_keep_places_and_order.ensures

pub returns-clause-pending : goal.returns-clause-pending
returns-clause-pending c = pending_stays c.drivers_keep_places_and_order.ensures

pub returns-clause-many : goal.returns-clause-many
returns-clause-many c = as_many_stay

pub returns-clause-drops : goal.returns-clause-drops
returns-clause-drops c = drops_only_where_full c.drivers_promise.ensures
