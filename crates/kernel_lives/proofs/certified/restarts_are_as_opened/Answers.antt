use Rattle.kernel_lives.proofs.Reopened.{restarts_as_opened}
use Rattle.kernel_lives.proofs.certified.restarts_are_as_opened.Goals as goal

pub returns : goal.returns
returns c = restarts_as_opened c.drivers_keep_places_and_order.ensures
