use Rattle.std.proofs.Common.{sym, ◌∙◌, arith}
use Rattle.board_core.proofs.Ready.{passed_board, passes}
use Rattle.board_core.proofs.board.Board.pass.Goals as goal

pub returns : goal.returns
returns c = passes c.self.inside.state c.args.self.now c.args.ticks c.from.result c.args.emit.now c.clear.new.emit
    c.self.view_is c.from.ensures (sym c.may_pass.ensures ∙ c.if-not-may_pass.false) c.clear.ensures

pub invariant_of-self : goal.invariant_of-self
invariant_of-self c =
    passed_board c.time_brings_an_alarm_nearer.ensures c.self.inside.state c.from.result (omega (arith, c.from.ensures))
    (rw (← c.self.view_is) at c.requires) c.self.invariant
