use Rattle.kernel_laws.proofs.Replies.{ecalls_are_told, refusals_are_seen, replies_stand}
use Rattle.kernel_laws.proofs.steps.replies_stand_in_registers.Goals as goal

pub returns-clause-replies : goal.returns-clause-replies
returns-clause-replies c = replies_stand c.denials_are_due.ensures.calls

pub returns-clause-refused : goal.returns-clause-refused
returns-clause-refused c = refusals_are_seen c.refusals_change_little.ensures

pub returns-clause-told : goal.returns-clause-told
returns-clause-told c = ecalls_are_told c.denials_are_due.ensures.calls
