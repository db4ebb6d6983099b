use Rattle.kernel_laws.proofs.Alarms.{next_is_the_least, none_fires_early}
use Rattle.kernel_laws.proofs.rounds.alarms_fire_when_due.Goals as goal

pub returns-clause-early : goal.returns-clause-early
returns-clause-early c = none_fires_early

pub returns-clause-least : goal.returns-clause-least
returns-clause-least c = next_is_the_least
