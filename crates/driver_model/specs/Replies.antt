-- What a process gets back for a command that asks nothing of the board (TRD 104, "Return Values").
use Rattle.std.specs.Prelude.{◌≡◌, [], Option}
use Rattle.tk_base.specs.declared.call.CallRule.{CallRule}
use Rattle.syscall_abi.specs.declared.reply.Reply.{Reply}
use Rattle.syscall_abi.specs.Reply.{reply_of}
use Rattle.process_model.specs.Own.{Own}
use Rattle.driver_model.specs.Steps.{own_after}
use Rattle.driver_model.specs.Commands.{Commanded}

-- The answer is the command's, as the process gets it, and so is what is then the process's own; it asks nothing of the
-- board.
abbrev pub RepliesAlone : Commanded → Reply × Option CallRule → Own → Type 0
RepliesAlone command answer own =
    (answer ≡ reply_of command.answer) × (own ≡ own_after command.step) × (command.acts ≡ [])
