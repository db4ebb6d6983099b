use Rattle.grant_enter.specs.Homes.{own_of}
use Rattle.board_turns.proofs.Turns.{faulted_restarts}
use Rattle.board_turns.proofs.machine.Machine.restart_at.Goals as goal

pub returns-clause-restarted : goal.returns-clause-restarted
returns-clause-restarted c = λ beside.
    let home = c.args.self.now.home in
    let r = c.restart_process in
    faulted_restarts home.flash c.args.process.now r.new.process (own_of home c.args.slot)
    (own_of r.new.home c.args.slot) beside c.args.denial r.ensures.restarted
