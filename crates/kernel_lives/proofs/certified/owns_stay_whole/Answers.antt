use Rattle.kernel_lives.proofs.OwnBuffers.{whole_owns_hold_their_buffers}
use Rattle.kernel_lives.proofs.Wholes.{choices_have_causes, owns_stay_whole, wholes_stay}
use Rattle.kernel_lives.proofs.certified.owns_stay_whole.Goals as goal

pub returns-clause-stays : goal.returns-clause-stays
returns-clause-stays c =
    wholes_stay c.drivers_keep_places_and_order.ensures c.only_handing_changes_pairs.ensures
    c.drivers_keep_buffers_below_the_mark.ensures

pub returns-clause-whole : goal.returns-clause-whole
returns-clause-whole c =
    owns_stay_whole c.drivers_keep_places_and_order.ensures c.only_handing_changes_pairs.ensures
    c.drivers_keep_buffers_below_the_mark.ensures

pub returns-clause-causes : goal.returns-clause-causes
returns-clause-causes c =
    choices_have_causes c.drivers_keep_places_and_order.ensures c.only_handing_changes_pairs.ensures
    c.drivers_keep_buffers_below_the_mark.ensures c.steps_have_causes.ensures.causes

pub returns-clause-buffers : goal.returns-clause-buffers
returns-clause-buffers c = whole_owns_hold_their_buffers
