use Rattle.std.proofs.Common.{[]}
use Rattle.tk_outside.proofs.PutLemmas.{text_of-more, part_of_pieces}
use Rattle.tk_outside.proofs.WritesLemmas.{wrote_nothing, all_then_all, writes_part}
use Rattle.tk_outside.proofs.put.put_pieces.Goals as goal

pub loop-piece-init : goal.loop-piece-init
loop-piece-init g c = wrote_nothing _ _

pub returns-in_err-put_all : goal.returns-in_err-put_all
returns-in_err-put_all g c =
    let e = c.in_err-put_all.ensures in
    writes_part _ c.from_residual.ensures.0
    (part_of_pieces c.args.pieces.now c.loop-piece.piece-index _ c.loop-piece-test.true c.loop-piece.invariant e)

pub loop-piece-preserved : goal.loop-piece-preserved
loop-piece-preserved g c =
    let e = c.in_ok-put_all.ensures in
    rw (text_of-more c.args.pieces.now c.loop-piece.piece-index (record { ref_ptr = (0, 0); now = [] })
    c.loop-piece-test.true) (all_then_all c.loop-piece.invariant e)
