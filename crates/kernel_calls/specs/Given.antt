-- A reply that a driver gives (TRD 104, "Return Values").
use Rattle.std.specs.Prelude.{Option, None, Some}
use Rattle.tk_base.specs.declared.call.CallRule.{CallRule}
use Rattle.syscall_abi.specs.declared.reply.Reply.{Reply}
use Rattle.kernel_model.specs.Calls.{Served, refused_with, replied}
use Rattle.kernel_model.specs.Record.{Record}

-- what a call comes to, of which a process gets this reply, with the rule that refuses it, if one does
abbrev pub given : Record → Reply × Option CallRule → Served
given r (reply, None) = replied r reply
given r (reply, Some rule) = refused_with r rule reply
