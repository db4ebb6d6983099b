-- As long as no device step is ready. Only proofs use this.
use Rattle.std.specs.Prelude.{◌≡◌, ◌≤◌, ◌<◌, ℕ, zero, suc, ◌+◌, Bool, false, List, [], Option, None, Some}
use Rattle.std.specs.Option.{option_map}
use Rattle.tk_base.specs.declared.process.Dev.{Dev}
use Rattle.tk_base.specs.declared.process.Dev.TheVariants.{Receive, Random, Store}
use Rattle.board_devices.specs.Clock.{clock_at}
use Rattle.partition_turns.specs.Windows.{window_end}
use Rattle.process_model.specs.Own.{Own}
use Rattle.driver_model.specs.Alarm.{left_for}
use Rattle.kernel_model.specs.World.{Work, only_at, work_at}
use Rattle.alarm_capsule.specs.Times.{AllTell}
use Rattle.board_drivers.specs.declared.drivers.Drivers.{Drivers}
use Rattle.board_drivers.specs.declared.moment.Moment.{Moment}
use Rattle.board_drivers.specs.declared.served.Served.{Served}
use Rattle.board_drivers.specs.Driven.{devices_of}

-- whether a device is ready that looks neither at the time nor at what processes keep
abbrev pub can_act_at_once : Option ℕ → Drivers → Dev → Bool
can_act_at_once only d device = (work_at only 0 0 [] (devices_of d)).ready device

-- nobody who may be served waits for bytes that came in, for random bytes or for the storage
pub record ServesNobody (only : Option ℕ) (d : Drivers) : Type 0 where
  pub receive : can_act_at_once only d Receive ≡ false
  pub random : can_act_at_once only d Random ≡ false
  pub store : can_act_at_once only d Store ≡ false

-- no device step is ready at a time, where a window has so many ticks
abbrev pub IsCalmAt : ℕ → ℕ → ℕ → List Own → Drivers → Type 0
IsCalmAt start window time owns d = (device : Dev)
    → (work_at (only_at time window) time (clock_at start time) owns (devices_of d)).ready device ≡ false

-- none is from a time on, and before another; and as long the same slot alone is served, if one is
pub record IsCalm (start window from until : ℕ) (owns : List Own) (d : Drivers) : Type 0 where
  pub none : (time : ℕ) → from ≤ time → time < until → IsCalmAt start window time owns d
  pub same : (time : ℕ) → from ≤ time → time < until → only_at time window ≡ only_at from window

-- whom a moment's device steps serve alone, if it is one
abbrev pub only_of : Moment → Option ℕ
only_of m = only_at m.time m.window

-- when the window ends, where a window has so many ticks
abbrev pub end_at : ℕ → ℕ → Option ℕ
end_at time zero = None
end_at time (suc n) = Some (window_end time (suc n))

-- that of a moment
abbrev pub end_of : Moment → Option ℕ
end_of m = end_at m.time m.window

-- the times that are kept of alarms tell of all of them, at a moment
abbrev pub AlarmsTell : Moment → List (Option ℕ) → List Own → Type 0
AlarmsTell m times owns = AllTell (clock_at m.settings.start m.time) m.time times owns

-- what there is to do for the devices at a moment, for those who are served
abbrev pub work_of_served : Moment → Served → List Own → Drivers → Work
work_of_served m served owns d = work_at served.only m.time (clock_at m.settings.start m.time) owns (devices_of d)

-- the time at which the next alarm of those who are served becomes due
abbrev pub due_time_for : Moment → Served → List Own → Option ℕ
due_time_for m served owns =
    option_map (λ left. m.time + left) (left_for served.only (clock_at m.settings.start m.time) owns)

-- and for those who are served then
abbrev pub work_then : Moment → List Own → Drivers → Work
work_then m owns d = work_at (only_of m) m.time (clock_at m.settings.start m.time) owns (devices_of d)

-- there is a time, and it has come by another
abbrev pub HasCome : ℕ → Option ℕ → Type 0
HasCome now None = ⊥
HasCome now (Some at) = at ≤ now
