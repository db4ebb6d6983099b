use Rattle.board_core.proofs.Looks.{process_missing, process_there}
use Rattle.board_core.proofs.board.Board.process.Goals as goal

pub returns-in-Some : goal.returns-in-Some
returns-in-Some c =
    process_there c.self.invariant c.args.slot c.self.view_is c.deref.ensures.value c.index.ensures.value
    c.in-Some.process.now c.in-Some.ensures.lookup.0 c.in-Some.ensures.lookup.1

pub returns-in-None : goal.returns-in-None
returns-in-None c =
    process_missing c.self.invariant c.args.slot c.self.view_is c.deref.ensures.value c.index.ensures.value
    c.in-None.ensures.lookup.0
