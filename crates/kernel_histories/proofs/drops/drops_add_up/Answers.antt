use Rattle.kernel_histories.proofs.DropRuns.{drops_add_up}
use Rattle.kernel_histories.proofs.drops.drops_add_up.Goals as goal

pub returns : goal.returns
returns c =
    drops_add_up c.drivers_schedule_their_own.ensures c.a_driver_that_refuses_changes_nothing.ensures
    c.denials_are_due.ensures.calls c.only_its_own_events.ensures
