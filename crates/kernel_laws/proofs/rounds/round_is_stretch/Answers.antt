use Rattle.kernel_laws.proofs.Stretch.{stretches_join}
use Rattle.kernel_laws.proofs.rounds.round_is_stretch.Goals as goal

pub returns-clause-join : goal.returns-clause-join
returns-clause-join c = stretches_join
