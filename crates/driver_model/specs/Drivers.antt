-- The drivers that take commands (TRD 104, "Command").
use Rattle.std.specs.Prelude.{ℕ, Bool, List, Option, is_some}
use Rattle.std.specs.Option.{option_map}
use Rattle.grant_values.specs.declared.drivers.Driver.{Driver}
use Rattle.grant_values.specs.declared.drivers.Driver.TheVariants.{Alarm, Buttons, Console, Leds, Random, Storage}
use Rattle.grant_values.specs.Drivers.{driver_of}
use Rattle.process_model.specs.Own.{Own}
use Rattle.driver_model.specs.Commands.{Commanded, by_number}
use Rattle.driver_model.specs.Alarm as alarm
use Rattle.driver_model.specs.Buttons as buttons
use Rattle.driver_model.specs.Console as console
use Rattle.driver_model.specs.Leds as leds
use Rattle.driver_model.specs.Random as random
use Rattle.driver_model.specs.Storage as storage

-- what a command may rest on beside what is the process's own: what the clock shows, how many LEDs and buttons there
-- are, a mask of the buttons that are pressed, and how many bytes of storage a slot has
pub record CommandContext : Type 0 where
  pub now : ℕ
  pub leds : ℕ
  pub buttons : ℕ
  pub pressed : ℕ
  pub storage : ℕ

-- what comes of a command of a number, with two arguments, of the process that has these things as its own
abbrev pub CommandHandler : Type 0
CommandHandler = CommandContext → ℕ → ℕ → ℕ → Own → Commanded

-- the commands to each driver, with two arguments
abbrev pub commands_to : Driver → CommandContext → ℕ → ℕ → Own → List (ℕ × Commanded)
commands_to Alarm around a2 a3 = alarm.commands around.now a2 a3
commands_to Console around a2 a3 = console.commands a2
commands_to Leds around a2 a3 = leds.commands around.leds a2
commands_to Buttons around a2 a3 = buttons.commands around.buttons around.pressed a2
commands_to Random around a2 a3 = random.commands a2
commands_to Storage around a2 a3 = storage.commands around.storage a2 a3

-- what takes the commands to each driver
abbrev pub handler_by : Driver → CommandHandler
handler_by driver = λ around number a2 a3 own. by_number (commands_to driver around a2 a3) number own

-- what takes the commands to the driver of a number; None where there is no such driver
abbrev pub handler_of : ℕ → Option CommandHandler
handler_of driver = option_map handler_by (driver_of driver)

-- whether a driver takes commands
abbrev pub takes_commands : ℕ → Bool
takes_commands driver = is_some (handler_of driver)
