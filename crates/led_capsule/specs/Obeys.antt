-- What a command to the LEDs leaves of them.
use Rattle.std.specs.Prelude.{◌≡◌, Bool, List, length, Option, Result}
use Rattle.tk_base.specs.declared.call.CallRule.{CallRule}
use Rattle.syscall_abi.specs.declared.reply.Reply.{Reply}
use Rattle.driver_model.specs.Commands.{Commanded}
use Rattle.syscall_abi.specs.Reply.{reply_of}
use Rattle.tk_base.specs.Bits.{bits_of}
use Rattle.driver_model.specs.Leds.{lit_after}

-- The reply is the command's, and so are the LEDs afterwards, as bits and as many as before.
abbrev pub LedsObey : Commanded → List Bool → Result Reply CallRule → List Bool → Type 0
LedsObey command old answer new =
    (answer ≡ command.answer) × (bits_of new ≡ lit_after command.acts (bits_of old)) × (length new ≡ length old)

-- the same, with the answer as the process gets it
abbrev pub LedsReply : Commanded → List Bool → Reply × Option CallRule → List Bool → Type 0
LedsReply command old answer new =
    (answer ≡ reply_of command.answer) × (bits_of new ≡ lit_after command.acts (bits_of old))
    × (length new ≡ length old)
