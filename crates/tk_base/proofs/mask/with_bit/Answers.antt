use Rattle.std.proofs.Common.{sym}
use Rattle.tk_base.proofs.Bits.{added, taken_away, bit_stays}
use Rattle.tk_base.proofs.mask.with_bit.Goals as goal

pub overflow_add-result : goal.overflow_add-result
overflow_add-result c =
    record { fits = (added c.args.mask c.args.n c.ranges.mask.fits c.requires (sym c.in-false-true.ensures)).0 }

pub overflow_sub-result : goal.overflow_sub-result
overflow_sub-result c = (taken_away c.args.mask c.args.n c.requires (sym c.in-true-false.ensures)).0
