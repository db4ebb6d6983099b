use Rattle.std.proofs.Common.{ap, ◌∙◌}
use Rattle.syscall_abi.specs.Reply.{reply_of}
use Rattle.led_capsule.proofs.commands.command.Goals as goal

pub returns-clause-replies : goal.returns-clause-replies
returns-clause-replies c own =
    let does = c.obey.ensures.obeys own in
    (c.reply_of.ensures ∙ ap reply_of does.0, does.1, does.2)
