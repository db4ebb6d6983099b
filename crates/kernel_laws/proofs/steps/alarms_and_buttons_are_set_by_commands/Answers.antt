use Rattle.kernel_laws.proofs.Arming.{alarms_and_buttons, follow_commands}
use Rattle.kernel_laws.proofs.steps.alarms_and_buttons_are_set_by_commands.Goals as goal

pub returns-clause-set : goal.returns-clause-set
returns-clause-set c = alarms_and_buttons

pub returns-clause-follow : goal.returns-clause-follow
returns-clause-follow c = follow_commands c.denials_are_due.ensures.calls
