use Rattle.std.proofs.Common.{sym, ap, ◌∙◌, arith}
use Rattle.board_opening.specs.Opening.{unplaced_at}
use Rattle.board_opening.specs.Parts.{unplaced_in}
use Rattle.board_opening.proofs.Crews.{pass_none, pass_some}
use Rattle.board_opening.proofs.boot.unplaced.Goals as goal

pub loop-application-preserved-in_default : goal.loop-application-preserved-in_default
loop-application-preserved-in_default c =
    let item = c.application-item.result in (
      pass_none unplaced_at c.args.placed.now c.loop-application.application-index item
          c.loop-application.unplaced.items c.loop-application-test.true
          (ap unplaced_at (sym c.application-item.is) ∙ ap (unplaced_in item.offset) c.in_default.is)
          c.loop-application.invariant.0,
      omega (arith, c.loop-application.invariant.1),
    )

pub loop-application-preserved : goal.loop-application-preserved
loop-application-preserved c =
    let item = c.application-item.result in (
      c.push.ensures.items
          ∙ pass_some unplaced_at c.args.placed.now c.loop-application.application-index item _
          c.loop-application.unplaced.items c.loop-application-test.true
          (ap unplaced_at (sym c.application-item.is) ∙ ap (unplaced_in item.offset) c.in-Err.is)
          c.loop-application.invariant.0,
      omega (arith, c.push.ensures.len, c.loop-application.invariant.1),
    )
