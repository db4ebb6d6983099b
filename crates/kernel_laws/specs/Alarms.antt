-- That an alarm fires when it is due. The alarm is Tock's driver 0x0; that devices come before turns and passes is this
-- board's own rule.
use Rattle.std.specs.Prelude.{◌≡◌, ◌≤◌, ◌<◌, ◌+◌, ◌-◌, ◌%◌, ◌^◌, ℕ, Bool, true, false, length, List}
use Rattle.std.specs.Prelude.{Option, slice_get, Some, None}
use Rattle.std.specs.Prelude.{All, IfSome}
use Rattle.std.specs.Prelude.{IsSomeAnd}
use Rattle.tk_base.specs.declared.limits.TheConstants.{SLOT_COUNT}
use Rattle.tk_base.specs.declared.process.Choice.{Choice}
use Rattle.tk_base.specs.declared.process.Choice.TheVariants.{Device, Pass}
use Rattle.grant_values.specs.declared.alarm.Armed.{Armed}
use Rattle.process_model.specs.Own.{Own}
use Rattle.driver_model.specs.Alarm.{alarm_in, due_alarm, next_left, ticks_left_in, ticks_left_of}
use Rattle.kernel_model.specs.Record.{Record}
use Rattle.kernel_model.specs.Turn.{Alarmed}
use Rattle.kernel_model.specs.World.{Label, World, is_let, labels, now_in, only_in}
use Rattle.kernel_model.specs.Run.{next}

-- whether a choice takes time: a turn of a process, or a pass
abbrev pub takes_time : Choice → Bool
takes_time (Device device) = false
takes_time other = true

-- a choice gives no process a turn, and lets no time pass, while the alarm of the process in a slot is due, where that
-- may be served
abbrev pub WaitsForAlarm : World → Choice → ℕ → Record → Type 0
WaitsForAlarm w choice slot r =
    takes_time choice ≡ true → slice_get w.records slot ≡ Some r → is_let (only_in w) slot ≡ true →
    due_alarm (now_in w) r.own ≡ None

-- As long as the alarm of a process is due that may be served, the next choice, of the round robin or of the windows,
-- gives no process a turn and lets no time pass.
abbrev pub AlarmsComeFirst : Type 0
AlarmsComeFirst =
    (w : World) (choice : Choice) (slot : ℕ) (r : Record) → length w.records ≤ SLOT_COUNT →
    next w ≡ Some choice → WaitsForAlarm w choice slot r

-- so many ticks are no more than are left until the alarm of the process in a slot becomes due, where that may be
-- served
abbrev pub StopsAtAlarm : World → ℕ → ℕ → Record → Type 0
StopsAtAlarm w ticks slot r =
    slice_get w.records slot ≡ Some r → is_let (only_in w) slot ≡ true →
    IfSome (ticks_left_of (now_in w) r.own) (λ left. ticks ≤ left)

-- and time that it lets pass ends when the next of these alarms becomes due, if not before
abbrev pub PassesStopAtAlarms : Type 0
PassesStopAtAlarms =
    (w : World) (ticks slot : ℕ) (r : Record) → length w.records ≤ SLOT_COUNT → next w ≡ Some (Pass ticks) →
    StopsAtAlarm w ticks slot r

-- An alarm that is due, when the clock shows a tick: its process lives and has armed it, and since its reference its
-- delta has passed, by a clock of 32 bits.
pub record IsDue (now : ℕ) (r : Record) : Type 0 where
  pub lives : r.own.lives ≡ true
  pub alarm : Armed
  pub armed : alarm_in r.own ≡ Some alarm
  pub passed : alarm.delta ≤ (now + (2 ^ 32 - alarm.reference)) % 2 ^ 32

-- an alarm that fires is due, by the clock as it shows then, and as the process is told it
abbrev pub FiresWhenDue : World → Label → Type 0
FiresWhenDue w label =
    (now : ℕ) → label.event ≡ Alarmed now →
    (now ≡ now_in w) × IsSomeAnd (slice_get w.records label.slot) (IsDue now)

-- no alarm fires before it is due, whoever makes the choice
abbrev pub NoneFiresEarly : Type 0
NoneFiresEarly = (w : World) (choice : Choice) → All (FiresWhenDue w) (labels w choice)

-- Ticks are the least that are left of the alarms of the board's slots: they are left of one of them, and no fewer of
-- any; and there are none only where none of them has an alarm armed that lives.
pub record IsLeastLeft (now : ℕ) (owns : List Own) (least : Option ℕ) : Type 0 where
  pub of_one : IfSome least (λ ticks. (slot : ℕ) × ((slot < SLOT_COUNT) × (ticks_left_in now owns slot ≡ Some ticks)))
  pub none_less : (slot : ℕ) → slot < SLOT_COUNT →
      IfSome (ticks_left_in now owns slot) (λ left. IsSomeAnd least (λ ticks. ticks ≤ left))

-- so many are left until the next alarm becomes due
abbrev pub NextIsTheLeast : Type 0
NextIsTheLeast = (now : ℕ) (owns : List Own) → IsLeastLeft now owns (next_left now owns)
