-- What holds of a machine, and what there is to do on it. Only proofs use this.
use Rattle.std.specs.Prelude.{◌≡◌, ◌≤◌, ◌*◌, ◌^◌, ℕ, true, All, IfOk, None, Result}
use Rattle.tk_base.specs.declared.limits.TheConstants.{STEP_LIMIT}
use Rattle.tk_base.specs.declared.process.Dev.{Dev}
use Rattle.tk_base.specs.declared.process.NotReady.{NotReady}
use Rattle.board_devices.specs.declared.answer.Answer.{Answer}
use Rattle.grant_enter.specs.Homes.{Homes, own_of}
use Rattle.driver_model.specs.Alarm.{alarm_in}
use Rattle.board_devices.specs.Clock.{clock_at}
use Rattle.alarm_capsule.specs.Times.{OthersTell}
use Rattle.kernel_model.specs.World.{Work}
use Rattle.board_drivers.specs.declared.served.Served.{Served}
use Rattle.board_drivers.specs.Calm.{AlarmsTell, IsCalm, work_of_served, work_then}
use Rattle.board_drivers.specs.Driven.{AreDriven, HasLanes}
use Rattle.kernel_calls.specs.Residents.{HasLost}
use Rattle.board_drivers.specs.Tells.{is_alarm}
use Rattle.board_turns.specs.declared.machine.Machine.{Machine}
use Rattle.board_turns.specs.Guards.{GuardsOnly}

-- the times that it keeps of alarms tell of all of them
abbrev pub KeepsAlarms : Machine → Type 0
KeepsAlarms x = AlarmsTell x.moment x.alarms x.home.owns

-- so do those of all slots but one
abbrev pub KeepsOtherAlarms : ℕ → Machine → Type 0
KeepsOtherAlarms slot x =
    OthersTell slot (clock_at x.moment.settings.start x.moment.time) x.moment.time x.alarms x.home.owns

-- whoever was answered has no alarm armed
abbrev pub IsDisarmed : Result Answer NotReady → Homes → Type 0
IsDisarmed result home = IfOk result (λ answer. alarm_in (own_of home answer.to.slot) ≡ None)

-- so it is where the device was the alarm: it fired
abbrev pub Disarms : Dev → Result Answer NotReady → Homes → Type 0
Disarms device result home = is_alarm device ≡ true → IsDisarmed result home

-- no device step is ready on it before a time
abbrev pub IsCalmUntil : Machine → ℕ → Type 0
IsCalmUntil x until = IsCalm x.moment.settings.start x.moment.window x.moment.time until x.home.owns x.drivers

-- what there is to do for the devices, for those who are served
abbrev pub work_for_served : Machine → Served → Work
work_for_served x served = work_of_served x.moment served x.home.owns x.drivers

-- and for those who are served now
abbrev pub work_now : Machine → Work
work_now x = work_then x.moment x.home.owns x.drivers

-- What always holds of a machine: the registers protect whomever they are set for, the drivers know who waits, and what
-- is kept holds.
pub record IsMachine (x : Machine) : Type 0 where
  pub lost : All (HasLost x.moment.steps) x.home.owns
  pub guard : GuardsOnly x.guard x.home
  pub driven : AreDriven x.moment.settings x.moment.time x.home.owns x.drivers
  pub lanes : HasLanes x.moment.window x.drivers
  pub served : All (λ count. count ≤ x.moment.steps) x.drivers.stores.served
  pub steps : x.moment.steps ≤ STEP_LIMIT
  pub time : x.moment.time ≤ x.moment.steps * 2 ^ 32
  pub calm : IsCalmUntil x x.calm
  pub alarms : KeepsAlarms x
