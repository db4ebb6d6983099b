-- The value of which a driver keeps something, for each driver that keeps a value (Levy et al., SOSP 2017, section 4).
-- Where it is another driver's, it is a value in which nothing waits.
use Rattle.std.specs.Prelude.{None}
use Rattle.grant_values.specs.declared.alarm.Alarm.{Alarm}
use Rattle.grant_values.specs.declared.buttons.Buttons.{Buttons}
use Rattle.grant_values.specs.declared.console.Console.{Console}
use Rattle.grant_values.specs.declared.random.Random.{Random}
use Rattle.grant_values.specs.declared.storage.Storage.{Storage}
use Rattle.grant_values.specs.Values.{KeptValue, AlarmValue, ButtonsValue, ConsoleValue, RandomValue, StorageValue}

-- the alarm's
abbrev pub alarm_kept : KeptValue → Alarm
alarm_kept (AlarmValue armed) = record { armed = armed }
alarm_kept other = record { armed = None }

-- the console's
abbrev pub console_kept : KeptValue → Console
console_kept (ConsoleValue console) = console
console_kept other = record { write = None; read = None }

-- that of the buttons
abbrev pub buttons_in : KeptValue → Buttons
buttons_in (ButtonsValue enabled) = record { enabled = enabled }
buttons_in other = record { enabled = 0 }

-- that of the source of random words
abbrev pub random_in : KeptValue → Random
random_in (RandomValue request) = record { request = request }
random_in other = record { request = None }

-- the storage's
abbrev pub storage_in : KeptValue → Storage
storage_in (StorageValue request) = record { request = request }
storage_in other = record { request = None }
