use Rattle.std.proofs.Common.{ℕ, ◌+◌, ◌*◌, ◌∙◌, ap, sym}
use Rattle.tk_base.specs.declared.upcall.Counts.{Counts}
use Rattle.tk_base.specs.Kinds.{pair_count}
use Rattle.process_seat.proofs.Values.{shape_is}
use Rattle.process_seat.proofs.kept.value_offset_in.Goals as goal

pub returns : goal.returns
returns c =
    let k = shape_is c.args.driver c.args.counts c.requires in
    let at : ℕ → ℕ = λ pairs. c.args.area.offset + 8 + 8 * pairs in
    ap at (c.pairs.ensures.pairs ∙ sym (ap (λ (x : Counts). pair_count x) k))
