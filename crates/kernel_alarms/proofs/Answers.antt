-- What the answers of other devices leave of a process's alarm: all of it, since each keeps a value of its own driver
-- alone (`answers_stay`).
use Rattle.std.proofs.Common.{refl, ap}
use Rattle.std.proofs.lemmas.Bool.{false≢true}
use Rattle.driver_model.specs.Alarm.{alarm_driver, armed_in}
use Rattle.kernel_model.specs.Turn.{Act, Alarmed, Turn}
use Rattle.kernel_model.proofs.Beside.{answers_stay}
use Rattle.kernel_alarms.specs.Acting.{AnswersLeaveAlarms}

pub answers_leave_alarms : AnswersLeaveAlarms
answers_leave_alarms settings (Turn time) r leaves = absurd (false≢true leaves)
answers_leave_alarms settings (Alarmed now) r leaves = absurd (false≢true leaves)
answers_leave_alarms settings (Act verb) r leaves = absurd (false≢true leaves)
answers_leave_alarms settings event r leaves =
    let same = answers_stay settings event r alarm_driver refl refl in (ap armed_in same.0, same.1)
