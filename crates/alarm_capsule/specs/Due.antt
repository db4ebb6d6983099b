-- An alarm that is found due.
use Rattle.std.specs.Prelude.{◌≡◌, ℕ, Some}
use Rattle.grant_enter.specs.Homes.{Homes, own_of}
use Rattle.driver_model.specs.Alarm.{due_alarm}
use Rattle.driver_requests.specs.Asking.{IsPresent}
use Rattle.alarm_capsule.specs.declared.answers.Due.{Due}

-- the process in a slot lives its life there, and its alarm is due
pub record AlarmIsDue (now slot : ℕ) (home : Homes) (due : Due) : Type 0 where
  pub is_slot : due.id.slot ≡ slot
  pub there : IsPresent home due.id
  pub alarm : due_alarm now (own_of home slot) ≡ Some due.alarm
