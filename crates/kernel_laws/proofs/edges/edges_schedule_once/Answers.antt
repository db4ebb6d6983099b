use Rattle.kernel_laws.proofs.EdgeSteps.{each_is_scheduled_once, steps_serve_edges}
use Rattle.kernel_laws.proofs.edges.edges_schedule_once.Goals as goal

pub returns-clause-steps : goal.returns-clause-steps
returns-clause-steps c =
    steps_serve_edges c.drivers_schedule_their_own.ensures c.a_driver_that_refuses_changes_nothing.ensures
    c.denials_are_due.ensures.calls c.only_its_own_events.ensures

pub returns-clause-once : goal.returns-clause-once
returns-clause-once c = each_is_scheduled_once
