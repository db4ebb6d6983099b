use Rattle.kernel_histories.proofs.EdgeRuns.{each_edge_comes_once}
use Rattle.kernel_histories.proofs.edges.each_edge_comes_once.Goals as goal

pub returns : goal.returns
returns c =
    each_edge_comes_once c.drivers_schedule_their_own.ensures c.a_driver_that_refuses_changes_nothing.ensures
    c.denials_are_due.ensures.calls c.only_its_own_events.ensures
