use Rattle.grant_enter.specs.Homes.{own_of}
use Rattle.kernel_calls.specs.Residents.{id_of}
use Rattle.board_turns.proofs.Commands.{finishes_left, gone_so, is_served, served_itself, stays_in}
use Rattle.board_drivers.proofs.Orders.{drives_nothing}
use Rattle.board_turns.proofs.machine.Machine.finish_call.Goals as goal

-- a command that is left to its driver
pub returns-in-ToDriver-clause-serves : goal.returns-in-ToDriver-clause-serves
returns-in-ToDriver-clause-serves c =
    finishes_left _ _ _ _ _ _ _ _ _ c.in-ToDriver.ensures.serves c.command_driver.ensures.serves

-- a call that the kernel serves itself
pub returns-in-Ended-clause-serves : goal.returns-in-Ended-clause-serves
returns-in-Ended-clause-serves c =
    let gone = gone_so c.kernel_call.result c.in-Ended.is in
    let id = id_of c.args.slot (own_of c.args.self.now.home c.args.slot) in
    served_itself _ _ _ _ _ _ _ (is_served _ _ _ _ _ _ _ _ c.kernel_call.ensures.serves gone.1)
    (rw gone.0 (c.gone.ensures id.life))

pub returns-in_default-clause-serves : goal.returns-in_default-clause-serves
returns-in_default-clause-serves c =
    served_itself _ _ _ _ _ _ _
    (is_served _ _ _ _ _ _ _ _ c.kernel_call.ensures.serves c.in_default.not-ToDriver)
    (rw (stays_in c.kernel_call.result c.in_default.not-Ended c.in_default.not-Again) (drives_nothing _ _))
