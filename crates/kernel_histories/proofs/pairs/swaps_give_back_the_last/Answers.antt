use Rattle.kernel_histories.proofs.Histories.{swaps_give_back_the_last}
use Rattle.kernel_histories.proofs.pairs.swaps_give_back_the_last.Goals as goal

pub returns : goal.returns
returns c =
    swaps_give_back_the_last (record {
      pairs = c.only_handing_changes_pairs.ensures;
      leave = c.drivers_leave_pairs.ensures;
      schedule = c.drivers_schedule_what_is_held.ensures;
    })
