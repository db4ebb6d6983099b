use Rattle.std.proofs.Common.{sym, ◌∙◌, arith}
use Rattle.std.proofs.lemmas.Bool.{eq-eqb, ne_eqb}
use Rattle.tbf_headers.specs.Parts.{is_of_type}
use Rattle.tbf_headers.proofs.Places.{find_here, find_later, find_none}
use Rattle.tbf_headers.proofs.tlv.first_tlv.Goals as goal

pub returns-then-half_at-kind-clause-place : goal.returns-then-half_at-kind-clause-place
returns-then-half_at-kind-clause-place c =
    sym (find_here (is_of_type c.args.kind c.args.header.now) c.args.header.now c.loop-at.at c.loop-at-test.true
    (eq-eqb _ _ (omega (arith, c.half_at.ensures)))) ∙ c.loop-at.invariant.left

pub loop-at-preserved : goal.loop-at-preserved
loop-at-preserved c = record {
  aligned = omega (arith, c.place_after_at-at.ensures);
  left = sym (find_later (is_of_type c.args.kind c.args.header.now) c.args.header.now c.loop-at.at
      c.place_after_at-at.result c.loop-at-test.true c.place_after_at-at.ensures
      (ne_eqb _ _ (λ e. omega (arith, c.half_at.ensures)))) ∙ c.loop-at.invariant.left;
}

pub returns-clause-place : goal.returns-clause-place
returns-clause-place c =
    sym (find_none (is_of_type c.args.kind c.args.header.now) c.args.header.now _ c.loop-at.at c.loop-at-test.false)
    ∙ c.loop-at.invariant.left
