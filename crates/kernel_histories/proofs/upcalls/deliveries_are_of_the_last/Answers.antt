use Rattle.kernel_histories.proofs.Schedulings.{deliveries_are_of_the_last}
use Rattle.kernel_histories.proofs.upcalls.deliveries_are_of_the_last.Goals as goal

pub returns : goal.returns
returns c =
    deliveries_are_of_the_last (record {
      pairs = c.only_handing_changes_pairs.ensures;
      leave = c.drivers_leave_pairs.ensures;
      schedule = c.drivers_schedule_what_is_held.ensures;
    }) c.denials_are_due.ensures.calls
