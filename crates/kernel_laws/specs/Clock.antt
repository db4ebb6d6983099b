-- How the clock comes into turns, and what changes bytes in those that don't ask for it (TRD 104,
-- "Command"; that the alarm shows its clock is this board's own rule).
use Rattle.std.specs.Prelude.{◌≡◌, ℕ, ◌==◌, ◌&&◌, Bool, false, slice_index, Option, option_map, unwrap_or, All}
use Rattle.tk_base.specs.declared.process.Choice.TheVariants.{Run}
use Rattle.process_record.specs.declared.emit.CallMade.{CallMade}
use Rattle.driver_model.specs.Alarm.{alarm_driver}
use Rattle.driver_model.specs.Bytes.{shows_clock}
use Rattle.kernel_model.specs.Record.{Record}
use Rattle.kernel_model.specs.declared.settings.Settings.{Settings}
use Rattle.kernel_model.specs.Turn.{Turned, turned}
use Rattle.kernel_model.specs.World.{Label, World, labels}
use Rattle.kernel_model.specs.Causes.{EachChangeHasACause, TurnHasCauses}

-- whether a call was the command that shows the clock, whatever came of it
abbrev pub asks_clock : Option CallMade → Bool
asks_clock call =
    unwrap_or (option_map (λ made. made.class == 2
    && shows_clock (slice_index made.args 0) (slice_index made.args 1)) call) false

-- each change that a turn makes which does not has its cause, whatever the process's record is
abbrev pub TurnsWithoutClockHaveCauses : Type 0
TurnsWithoutClockHaveCauses =
    (settings : Settings) (time : ℕ) (r : Record) →
    let t = turned settings time r in
    asks_clock t.told.call ≡ false → TurnHasCauses r t.after t.told

-- a label of such a turn, or of no turn
abbrev pub AsksNoClock : Label → Type 0
AsksNoClock label = asks_clock label.trace.call ≡ false

-- so it is with a step that is such a turn, in any world
abbrev pub StepsWithoutClockHaveCauses : Type 0
StepsWithoutClockHaveCauses =
    (w : World) (slot : ℕ) → All AsksNoClock (labels w (Run slot)) → EachChangeHasACause w (Run slot)

-- whether a call was a command to the alarm, whatever came of it
abbrev pub is_for_alarm : Option CallMade → Bool
is_for_alarm call =
    unwrap_or (option_map (λ made. made.class == 2 && slice_index made.args 0 == alarm_driver) call) false

-- a turn that makes no command to the alarm is the same as another one
abbrev pub IsTheSameButForAlarms : Turned → Turned → Type 0
IsTheSameButForAlarms t other = is_for_alarm t.told.call ≡ false → other ≡ t

-- Time comes in by the alarm alone: a turn that makes no command to it comes to the same at any other time, wherever
-- the clock began.
abbrev pub TimeComesInByTheAlarm : Type 0
TimeComesInByTheAlarm =
    (settings : Settings) (start time other : ℕ) (r : Record)
    → IsTheSameButForAlarms (turned settings time r) (turned (record settings { start = start }) other r)
