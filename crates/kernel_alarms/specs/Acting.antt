-- Which turns may change an alarm or ask anything of the devices (TRD 104, "Command", "Exit"). That it is told by what
-- a turn shows is this board's own rule.
use Rattle.std.specs.Prelude.{◌≡◌, ℕ, ◌==◌, ◌&&◌, ◌||◌, Bool, true, false, not, nat_lt, if◌then◌else◌, List, [], Option}
use Rattle.std.specs.Prelude.{is_none, is_some, option_map, unwrap_or, slice_index}
use Rattle.tk_base.specs.declared.access.Denial.{Denial}
use Rattle.process_model.specs.Own.{Own}
use Rattle.driver_model.specs.Alarm.{alarm_driver, alarm_in}
use Rattle.process_record.specs.declared.emit.CallMade.{CallMade}
use Rattle.kernel_model.specs.Record.{Record}
use Rattle.kernel_model.specs.declared.settings.Settings.{Settings}
use Rattle.kernel_model.specs.Turn.{Act, Alarmed, Event, Turn, apply, turned}

-- whether a command of a number to a driver asks the alarm something, and has it do nothing: that it is there, how many
-- ticks a second has, what the clock shows
abbrev pub only_asks : ℕ → ℕ → Bool
only_asks driver number = driver == alarm_driver && nat_lt number 3

-- whether a call of a class, with these arguments, may act where it is not refused: a command that does not only ask,
-- or an exit
abbrev pub class_acts : ℕ → List ℕ → Bool
class_acts class args =
    if class == 2 then not (only_asks (slice_index args 0) (slice_index args 1)) else class == 6

-- whether a call that a turn shows may have changed an alarm or asked anything of the devices
abbrev pub may_act : CallMade → Bool
may_act made = is_none made.rule && class_acts made.class made.args

-- whether it may have changed an alarm: an exit, or a command to the alarm
abbrev pub may_arm : CallMade → Bool
may_arm made = may_act made && (if made.class == 2 then slice_index made.args 0 == alarm_driver else true)

-- whether a turn may have done the one, by the call and the denial that it shows: each denial may
abbrev pub may_have_acted : Option CallMade → Option Denial → Bool
may_have_acted call denial = is_some denial || unwrap_or (option_map may_act call) false

-- or the other
abbrev pub may_have_armed : Option CallMade → Option Denial → Bool
may_have_armed call denial = is_some denial || unwrap_or (option_map may_arm call) false

-- a process has the alarm that it had before, and lives as before
abbrev pub HasSameAlarm : Own → Own → Type 0
HasSameAlarm own o = (alarm_in o ≡ alarm_in own) × (o.lives ≡ own.lives)

-- so it is with each turn that shows nothing which may change an alarm
abbrev pub AlarmsChangeAtTheirCommands : Type 0
AlarmsChangeAtTheirCommands = (settings : Settings) (time : ℕ) (r : Record) →
    let t = turned settings time r in
    may_have_armed t.told.call t.told.denial ≡ false → HasSameAlarm r.own t.after.own

-- and each that shows nothing which may act asks nothing of the board besides
abbrev pub QuietTurnsLeaveAlarms : Type 0
QuietTurnsLeaveAlarms = (settings : Settings) (time : ℕ) (r : Record) →
    let t = turned settings time r in
    may_have_acted t.told.call t.told.denial ≡ false → HasSameAlarm r.own t.after.own × (t.acts ≡ [])

-- whether what happens to a process can be nothing that changes its alarm: it is no turn, no act of an operator, and
-- its alarm does not fire
abbrev pub leaves_alarm : Event → Bool
leaves_alarm (Turn time) = false
leaves_alarm (Act verb) = false
leaves_alarm (Alarmed now) = false
leaves_alarm other = true

-- so it is with everything else that a device tells a process
abbrev pub AnswersLeaveAlarms : Type 0
AnswersLeaveAlarms = (settings : Settings) (event : Event) (r : Record) →
    leaves_alarm event ≡ true → HasSameAlarm r.own (apply settings event r).own
