use Rattle.std.proofs.Common.{arith}
use Rattle.board_views.proofs.Timing.{within-device, within-pass, within-run}
use Rattle.board_views.proofs.times.is_within.Goals as goal

pub returns-in-Run : goal.returns-in-Run
returns-in-Run c =
    rw c.in-Run.is (within-run c.args.time c.args.board.now _ (rw c.in-Run.is at c.requires) (omega arith))

pub returns-in-Device : goal.returns-in-Device
returns-in-Device c = rw c.in-Device.is (within-device c.args.time c.args.board.now _ (omega arith))

pub returns-in-Pass : goal.returns-in-Pass
returns-in-Pass c =
    rw (c.in-Pass.is, c.from.ensures, c.from-time.ensures, c.time-now.ensures)
    (within-pass c.args.time c.args.board.now c.in-Pass.ticks (rw c.in-Pass.is at c.requires) (omega arith))
