use Rattle.kernel_laws.proofs.Queues.{first_are_served, queues_keep_order}
use Rattle.kernel_laws.proofs.steps.queues_are_first_come_first_served.Goals as goal

pub returns-clause-order : goal.returns-clause-order
returns-clause-order c =
    queues_keep_order c.drivers_ask_for_their_own.ensures c.denials_are_due.ensures.calls

pub returns-clause-first : goal.returns-clause-first
returns-clause-first c = first_are_served
