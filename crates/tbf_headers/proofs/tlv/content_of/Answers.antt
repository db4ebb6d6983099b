use Rattle.std.proofs.Common.{◌+◌, ◌-◌, arith, sym}
use Rattle.tbf_headers.proofs.Places.{IsGood-first, half-part, length-part}
use Rattle.tbf_headers.proofs.tlv.content_of.Goals as goal

pub slice_bounds-result-end : goal.slice_bounds-result-end
slice_bounds-result-end c =
    let good = IsGood-first c.args.kind c.args.header.now c.in_ok-at.at c.requires.good
    (sym c.in_ok-at.ensures.place) in
    omega (arith, c.from.ensures, c.half_at.ensures)

pub returns-clause-long : goal.returns-clause-long
returns-clause-long c =
    let good = IsGood-first c.args.kind c.args.header.now c.in_ok-at.at c.requires.good
    (sym c.in_ok-at.ensures.place) in
    omega (
      arith,
      c.from.ensures,
      c.half_at.ensures,
      length-part c.args.header.now (c.in_ok-at.at + 4) (c.in_ok-at.at + 4 + c.from.result - (c.in_ok-at.at + 4))
          (omega (arith, c.from.ensures, c.half_at.ensures)),
    )

pub returns-clause-counted : goal.returns-clause-counted
returns-clause-counted c = λ six.
    let good = IsGood-first c.args.kind c.args.header.now c.in_ok-at.at c.requires.good
    (sym c.in_ok-at.ensures.place) in
    let counted = good.counted six in
    omega (
      arith,
      c.from.ensures,
      c.half_at.ensures,
      half-part c.args.header.now (c.in_ok-at.at + 4) (c.in_ok-at.at + 4 + c.from.result - (c.in_ok-at.at + 4))
          (omega (arith, c.from.ensures, c.half_at.ensures)),
      length-part c.args.header.now (c.in_ok-at.at + 4) (c.in_ok-at.at + 4 + c.from.result - (c.in_ok-at.at + 4))
          (omega (arith, c.from.ensures, c.half_at.ensures)),
    )
