-- What a driver keeps of a process, as a plain value (Levy et al., SOSP 2017, section 4), and how it stands in words
-- (this kernel's own form).
use Rattle.std.specs.Prelude.{ℕ, List, [], slice_index, Option, None, option_map, unwrap_or}
use Rattle.grant_values.specs.declared.alarm.Armed.{Armed}
use Rattle.grant_values.specs.declared.console.Console.{Console}
use Rattle.grant_values.specs.declared.random.RandomRequest.{RandomRequest}
use Rattle.grant_values.specs.declared.storage.StorageRequest.{StorageRequest}
use Rattle.grant_values.specs.declared.drivers.Driver.{Driver}
use Rattle.grant_values.specs.declared.drivers.Driver.TheVariants as of
use Rattle.grant_values.specs.Alarm.{alarm_words, armed_of}
use Rattle.grant_values.specs.Buttons.{buttons_words}
use Rattle.grant_values.specs.Console.{console_words, read_of, write_of}
use Rattle.grant_values.specs.Random.{random_words, request_of as random_request_of}
use Rattle.grant_values.specs.Storage.{storage_words, request_of as storage_request_of}
use Rattle.grant_values.specs.Drivers.{driver_of}

-- what each driver keeps of a process: the alarm that is armed, the write and the read that wait, a mask of the buttons
-- of which it is told, the request that waits; the LEDs keep nothing
pub data KeptValue : Type 0 where
  NoValue : KeptValue
  AlarmValue : Option Armed → KeptValue
  ConsoleValue : Console → KeptValue
  ButtonsValue : (enabled : ℕ) → KeptValue
  RandomValue : Option RandomRequest → KeptValue
  StorageValue : Option StorageRequest → KeptValue

-- what a driver keeps of a process that has just entered it: nothing waits, and it is told of no button
abbrev pub fresh_by : Driver → KeptValue
fresh_by of.Alarm = AlarmValue None
fresh_by of.Console = ConsoleValue (record { write = None; read = None })
fresh_by of.Leds = NoValue
fresh_by of.Buttons = ButtonsValue 0
fresh_by of.Random = RandomValue None
fresh_by of.Storage = StorageValue None

-- the words of a value
abbrev pub value_words : KeptValue → List ℕ
value_words NoValue = []
value_words (AlarmValue armed) = alarm_words armed
value_words (ConsoleValue console) = console_words console
value_words (ButtonsValue enabled) = buttons_words enabled
value_words (RandomValue request) = random_words request
value_words (StorageValue request) = storage_words request

-- the value of a driver that words tell
abbrev pub value_by : List ℕ → Driver → KeptValue
value_by words of.Alarm = AlarmValue (armed_of words)
value_by words of.Console = ConsoleValue (record { write = write_of words; read = read_of words })
value_by words of.Leds = NoValue
value_by words of.Buttons = ButtonsValue (slice_index words 0)
value_by words of.Random = RandomValue (random_request_of words)
value_by words of.Storage = StorageValue (storage_request_of words)

-- what the driver of a number keeps of a process that has just entered it; nothing where there is no such driver
abbrev pub fresh_value : ℕ → KeptValue
fresh_value number = unwrap_or (option_map fresh_by (driver_of number)) NoValue

-- the value of the driver of a number that words tell; nothing where there is no such driver
abbrev pub value_told : ℕ → List ℕ → KeptValue
value_told number words = unwrap_or (option_map (value_by words) (driver_of number)) NoValue
