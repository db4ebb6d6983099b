-- Which calls are for the alarm (TRD 104, "Command"). Only proofs use this.
use Rattle.std.specs.Prelude.{◌==◌, Bool, true, false, if◌then◌else◌, Option, option_map, unwrap_or, slice_index}
use Rattle.driver_model.specs.Alarm.{alarm_driver}
use Rattle.process_record.specs.declared.emit.CallMade.{CallMade}

-- whether a call is a command to the alarm, or of another class than commands
abbrev pub goes_to_alarm : CallMade → Bool
goes_to_alarm made = if made.class == 2 then slice_index made.args 0 == alarm_driver else true

-- so of the call that a turn shows, if it shows one
abbrev pub is_for_alarm : Option CallMade → Bool
is_for_alarm call = unwrap_or (option_map goes_to_alarm call) false
