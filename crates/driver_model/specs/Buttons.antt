-- The buttons (Tock's driver 0x3): a process is told of each press and each release of the buttons that it enables. How
-- many there are, and when they are pressed, is this board's own rule.
use Rattle.std.specs.Prelude.{ℕ, Bool, true, false, ◌&&◌, nat_lt, if◌then◌else◌, List, [], ◌∷◌, Option, Some}
use Rattle.tk_base.specs.Bits.{bit_of, has_bit, with_bit}
use Rattle.tk_base.specs.declared.call.CallRule.TheVariants.{Range}
use Rattle.grant_values.specs.declared.drivers.Driver.TheVariants.{Buttons}
use Rattle.grant_values.specs.Drivers.{number_of_driver}
use Rattle.grant_values.specs.Values.{KeptValue, ButtonsValue}
use Rattle.syscall_abi.specs.declared.reply.Reply.TheVariants.{Success, SuccessU32}
use Rattle.process_model.specs.Own.{Own}
use Rattle.process_model.specs.Served.{kept, with_kept}
use Rattle.driver_model.specs.Steps.{DriverStep, scheduling, silently}
use Rattle.driver_model.specs.Commands.{Commanded, accepting, once_entered, refusing}

-- the number of the driver
abbrev pub buttons : ℕ
buttons = number_of_driver Buttons

-- the mask in a value that is kept
abbrev pub enabled_in : Option KeptValue → ℕ
enabled_in (Some (ButtonsValue mask)) = mask
enabled_in other = 0

-- of which buttons a process is told, bit n for button n: of none where it never entered the driver
abbrev pub enabled : Own → ℕ
enabled own = enabled_in (kept buttons own)

-- a process that keeps a mask is told of one button more, or of one less
abbrev pub set_enabled : ℕ → Bool → Own → Own
set_enabled button on own = with_kept buttons (ButtonsValue (with_bit (enabled own) button on)) own

-- a process is told of a button from now on
abbrev pub enabling : ℕ → Own → Commanded
enabling button own = once_entered buttons own (λ o. accepting Success (set_enabled button true o))

-- what comes of a command for one of so many buttons; it is refused where there is none of that number
abbrev pub of_button : ℕ → ℕ → Own → Commanded → Commanded
of_button count button own commanded = if nat_lt button count then commanded else refusing Range own

-- its commands for a button, where there are so many, and those of a mask are pressed: how many buttons there are; tell
-- of one, and tell of it no more, which enters nothing; whether one is pressed
unfoldable pub commands : ℕ → ℕ → ℕ → Own → List (ℕ × Commanded)
commands count pressed button own =
    (0, accepting (SuccessU32 count) own)
    ∷ (1, of_button count button own (enabling button own))
    ∷ (2, of_button count button own (accepting Success (set_enabled button false own)))
    ∷ (3, of_button count button own (accepting (SuccessU32 (bit_of (has_bit pressed button))) own))
    ∷ []

-- whether a process is told of an edge of a button: it lives, and has enabled the button
abbrev pub is_told : ℕ → Own → Bool
is_told button own = own.lives && has_bit (enabled own) button

-- A button is pressed, or released: where the process is told of it, upcall 0 is scheduled with the button and its
-- state, 1 for pressed.
unfoldable pub edged : ℕ → Bool → Own → DriverStep
edged button state own =
    if is_told button own then scheduling buttons 0 (button ∷ bit_of state ∷ 0 ∷ []) own else silently own
