use Rattle.kernel_alarms.proofs.QuietTurns.{alarms_change_at_their_commands, quiet_turns_leave_alarms}
use Rattle.kernel_alarms.proofs.acting.alarms_change_at_their_commands.Goals as goal

pub returns : goal.returns
returns c =
    let law = c.a_driver_that_refuses_changes_nothing.ensures in
    record { alarms = alarms_change_at_their_commands law; quiet = quiet_turns_leave_alarms law }
