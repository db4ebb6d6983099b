use Rattle.grant_enter.specs.Homes.{own_of}
use Rattle.board_turns.proofs.machine.Machine.fault_at.Goals as goal

pub returns-in-Stop-clause-gone : goal.returns-in-Stop-clause-gone
returns-in-Stop-clause-gone c = c.gone.ensures (own_of c.args.self.now.home c.args.slot).life

pub returns-in-Restart-clause-gone : goal.returns-in-Restart-clause-gone
returns-in-Restart-clause-gone c =
    rw c.restart_at.ensures.drivers (c.gone.ensures (own_of c.args.self.now.home c.args.slot).life)
