-- What the commands to all other drivers leave of a process's alarm: it is kept for the alarm's driver alone.
use Rattle.std.proofs.Common.{◌≡◌, ◌∙◌, ℕ, ◌==◌, false, Some, ap}
use Rattle.process_model.specs.Own.{Own}
use Rattle.driver_model.specs.Alarm.{alarm_driver, armed_in}
use Rattle.driver_model.specs.Drivers.{CommandContext, CommandHandler, handler_of}
use Rattle.driver_model.specs.Steps.{own_after}
use Rattle.kernel_model.proofs.Beside.{scheduled_keeps, scheduled_lives}
use Rattle.kernel_model.proofs.Commands.{command_leaves_others, command_lives}
use Rattle.kernel_alarms.specs.Acting.{HasSameAlarm}

pub of_others : (driver : ℕ) (taker : CommandHandler) → handler_of driver ≡ Some taker
    → (driver == alarm_driver) ≡ false → (around : CommandContext) (number a2 a3 : ℕ) (own : Own)
    → HasSameAlarm own (own_after (taker around number a2 a3 own).step)
of_others driver taker is apart around number a2 a3 own =
    let step = (taker around number a2 a3 own).step in (
      ap armed_in (scheduled_keeps alarm_driver step
          ∙ command_leaves_others driver taker is around number a2 a3 own alarm_driver apart),
      scheduled_lives step ∙ command_lives driver taker is around number a2 a3 own,
    )
