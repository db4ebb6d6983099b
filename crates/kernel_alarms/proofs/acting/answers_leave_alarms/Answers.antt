use Rattle.kernel_alarms.proofs.Answers.{answers_leave_alarms}
use Rattle.kernel_alarms.proofs.acting.answers_leave_alarms.Goals as goal

pub returns : goal.returns
returns c = answers_leave_alarms
