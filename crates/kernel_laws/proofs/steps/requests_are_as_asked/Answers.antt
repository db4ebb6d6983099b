use Rattle.kernel_laws.proofs.AsAsked.{requests_are_as_asked}
use Rattle.kernel_laws.proofs.Withdrawing.{commands_ask}
use Rattle.kernel_laws.proofs.steps.requests_are_as_asked.Goals as goal

pub returns-clause-asked : goal.returns-clause-asked
returns-clause-asked c = requests_are_as_asked c.drivers_keep_places_and_order.ensures

pub returns-clause-begin : goal.returns-clause-begin
returns-clause-begin c = commands_ask c.drivers_promise.ensures c.denials_are_due.ensures.calls
