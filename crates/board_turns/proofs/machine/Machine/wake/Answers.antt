use Rattle.std.proofs.Common.{sym, ◌∙◌}
use Rattle.kernel_calls.specs.Residents.{resident}
use Rattle.board_turns.proofs.Turns.{only_flash, waits_on, woken}
use Rattle.board_turns.proofs.machine.Machine.wake.Goals as goal

pub returns-then-is_due-clause-turns : goal.returns-then-is_due-clause-turns
returns-then-is_due-clause-turns c =
    let slot = c.args.slot in
    let home = c.bring_in.new.home in
    rw c.bring_in.ensures.home at
    (woken slot (record c.args.self.now { home = home }) (resident home slot c.args.process.now)
    (resident c.deliver.new.home slot c.deliver.new.process) c.requires.waits c.requires.free
    (sym c.is_due.ensures ∙ c.if-is_due.true)
    (λ beside. rw (only_flash slot home c.deliver.new.home c.deliver.ensures.rest, c.count_turn.ensures) at
    (c.deliver.ensures.delivers beside)))

pub returns-else-is_due-clause-turns : goal.returns-else-is_due-clause-turns
returns-else-is_due-clause-turns c =
    let x = c.args.self.now in
    rw c.bring_in.ensures.home (waits_on c.args.slot x (resident x.home c.args.slot c.args.process.now) c.requires.waits
    c.requires.free (rw c.bring_in.ensures.home at (sym c.is_due.ensures ∙ c.if-is_due.false)))
