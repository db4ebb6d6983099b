use Rattle.std.proofs.Common.{sym, ◌∙◌, arith}
use Rattle.tbf_headers.specs.Tlv.{is_bad}
use Rattle.tbf_headers.proofs.Places.{find_here, find_later, find_none}
use Rattle.tbf_headers.proofs.tlv.first_bad_tlv.Goals as goal

pub returns-then-is_bad_at-clause-place : goal.returns-then-is_bad_at-clause-place
returns-then-is_bad_at-clause-place c =
    sym (find_here (is_bad c.args.header.now) c.args.header.now c.loop-at.at c.loop-at-test.true (cc))
    ∙ c.loop-at.invariant.left

pub loop-at-preserved : goal.loop-at-preserved
loop-at-preserved c = record {
  aligned = omega (arith, c.place_after_at-at.ensures);
  left = sym (find_later (is_bad c.args.header.now) c.args.header.now c.loop-at.at c.place_after_at-at.result
      c.loop-at-test.true c.place_after_at-at.ensures (cc)) ∙ c.loop-at.invariant.left;
}

pub returns-clause-place : goal.returns-clause-place
returns-clause-place c =
    sym (find_none (is_bad c.args.header.now) c.args.header.now _ c.loop-at.at c.loop-at-test.false)
    ∙ c.loop-at.invariant.left
