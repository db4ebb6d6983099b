-- The LEDs (Tock's driver 0x2): a process turns any LED of the board on or off. The driver keeps nothing of a process.
use Rattle.std.specs.Prelude.{ℕ, nat_lt, Bool, true, false, not, if◌then◌else◌}
use Rattle.std.specs.Prelude.{List, [], ◌∷◌, Ok}
use Rattle.tk_base.specs.declared.call.CallRule.TheVariants.{Range}
use Rattle.tk_base.specs.Bits.{has_bit, with_bit}
use Rattle.syscall_abi.specs.declared.reply.Reply.TheVariants.{Success, SuccessU32}
use Rattle.process_model.specs.Own.{Own}
use Rattle.driver_model.specs.Steps.{silently}
use Rattle.driver_model.specs.Commands.{BoardRequest, Waits, Leaves, Lights, Switch, On, Off, Toggle, Commanded}
use Rattle.driver_model.specs.Commands.{accepting, refusing}

-- whether an LED is on after it was switched, by whether it was before
abbrev pub is_on_after : Switch → Bool → Bool
is_on_after On lit = true
is_on_after Off lit = false
is_on_after Toggle lit = not lit

-- the LEDs after what the board is asked to do, one after another
abbrev pub lit_by : BoardRequest → ℕ → ℕ
lit_by (Waits line) leds = leds
lit_by (Leaves line) leds = leds
lit_by (Lights led switch) leds = with_bit leds led (is_on_after switch (has_bit leds led))

abbrev pub lit_after : List BoardRequest → ℕ → ℕ
lit_after [] leds = leds
lit_after (act ∷ acts) leds = lit_after acts (lit_by act leds)

-- one of so many LEDs is switched; it is refused where there is none of that number
abbrev pub switching : ℕ → ℕ → Switch → Own → Commanded
switching count led switch own =
    if nat_lt led count then record { answer = Ok Success; step = silently own; acts = Lights led switch ∷ [] }
    else refusing Range own

-- its commands for an LED, where there are so many: how many LEDs there are; turn one on; turn it off; turn it to
-- what it is not
unfoldable pub commands : ℕ → ℕ → Own → List (ℕ × Commanded)
commands count led own =
    (0, accepting (SuccessU32 count) own)
    ∷ (1, switching count led On own)
    ∷ (2, switching count led Off own)
    ∷ (3, switching count led Toggle own)
    ∷ []
