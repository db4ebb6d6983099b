use Rattle.std.proofs.Common.{arith}
use Rattle.process_model.specs.Own.{layout_of}
use Rattle.kernel_model.specs.Record.{Record}
use Rattle.board_core.proofs.Looks.{read_missing, read_there}
use Rattle.board_core.proofs.board.Board.layout.Goals as goal

pub returns-then-index-len : goal.returns-then-index-len
returns-then-index-len c =
    read_missing c.self.invariant c.args.slot (λ (r : Record). layout_of r.own) c.self.view_is
    (omega (arith, c.len.ensures, c.index.ensures.value, c.if-index-len.true))

pub returns : goal.returns
returns c =
    read_there c.self.invariant c.args.slot (λ (r : Record). layout_of r.own) c.self.view_is c.layout.result
    (omega (arith, c.len.ensures, c.index.ensures.value, c.if-index-len.false)) (λ p is. c.layout.ensures)
