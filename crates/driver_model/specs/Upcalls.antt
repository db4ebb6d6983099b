-- The upcalls that drivers schedule: each is the one that its process then holds (TRD 104, "Subscribe", "Yield").
use Rattle.std.specs.Prelude.{◌≡◌, ℕ, Bool, List, Option, None, Some, IfSome}
use Rattle.tk_base.specs.declared.upcall.Upcall.{Upcall as Scheduled}
use Rattle.tk_base.specs.declared.kinds.PairKind.TheVariants.{Upcall}
use Rattle.upcall_queue.specs.declared.inbox.Inbox.{Inbox}
use Rattle.upcall_queue.specs.Pending.{scheduled}
use Rattle.process_model.specs.Own.{Own}
use Rattle.process_model.specs.Handed.{held}
use Rattle.process_model.specs.Served.{ScheduledUpcall}
use Rattle.driver_model.specs.Alarm as alarm
use Rattle.driver_model.specs.Buttons as buttons
use Rattle.driver_model.specs.Commands.{by_number}
use Rattle.driver_model.specs.Console as console
use Rattle.driver_model.specs.Random as random
use Rattle.driver_model.specs.Storage as storage
use Rattle.driver_model.specs.Drivers.{CommandContext, CommandHandler, handler_of}
use Rattle.driver_model.specs.Services.{OfEachService}

-- an upcall is the one that a process now holds of its driver and number; it may be the null upcall
abbrev pub IsHeld : Own → Scheduled → Type 0
IsHeld own upcall = held Upcall upcall.driver upcall.number own ≡ (upcall.function, upcall.app)

-- what is scheduled for a process once one upcall more was, or none
abbrev pub scheduled_if : Option Scheduled → Inbox → Inbox
scheduled_if None inbox = inbox
scheduled_if (Some upcall) inbox = scheduled upcall inbox

-- What is scheduled for a process is what was before, and one upcall more at most, which is one that it holds.
pub record SchedulesHeld (own o : Own) : Type 0 where
  pub upcall : Option Scheduled
  pub inbox : o.inbox ≡ scheduled_if upcall own.inbox
  pub held : IfSome upcall (IsHeld own)

-- so it is after each command, whichever driver takes it, and after each answer of a device
abbrev pub DriversScheduleHeld : Type 0
DriversScheduleHeld = OfEachService SchedulesHeld

-- the upcall that is scheduled, if one is, is of a driver
abbrev pub IsOfDriver : ℕ → Option ScheduledUpcall → Type 0
IsOfDriver driver upcall = IfSome upcall (λ u. u.driver ≡ driver)

-- A driver schedules upcalls of its own alone, by its commands, of which those to the buttons schedule none, and by
-- what its device answers. So upcalls of the buttons come by edges alone.
pub record DriversScheduleTheirOwn : Type 0 where
  pub command : (driver : ℕ) (taker : CommandHandler) → handler_of driver ≡ Some taker →
      (around : CommandContext) (number a2 a3 : ℕ) (own : Own) →
      IsOfDriver driver (taker around number a2 a3 own).step.schedules
  pub buttons : (count pressed number button : ℕ) (own : Own) →
      (by_number (buttons.commands count pressed button) number own).step.schedules ≡ None
  pub alarmed : (now : ℕ) (own : Own) → IsOfDriver alarm.alarm_driver (alarm.answered now own).schedules
  pub taken : (own : Own) → IsOfDriver console.console (console.taken own).schedules
  pub write_done : (own : Own) → IsOfDriver console.console (console.write_done own).schedules
  pub input : (bytes : List ℕ) (own : Own) → IsOfDriver console.console (console.input bytes own).schedules
  pub drawn : (word : Option ℕ) (own : Own) → IsOfDriver random.random (random.answered word own).step.schedules
  pub stored : (fault : Bool) (flash : ℕ → ℕ) (bytes : List ℕ) (own : Own) →
      IsOfDriver storage.storage (storage.answered fault flash bytes own).step.schedules
