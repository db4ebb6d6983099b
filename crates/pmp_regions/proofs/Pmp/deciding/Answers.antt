use Rattle.std.proofs.Common.{sym, ◌∙◌, arith}
use Rattle.pmp_regions.proofs.Lowest.{deciding_first, deciding_none}
use Rattle.pmp_regions.proofs.Pmp.deciding.Goals as goal

pub returns-then-matches_any-clause-entry : goal.returns-then-matches_any-clause-entry
returns-then-matches_any-clause-entry c =
    sym (deciding_first _ _ _ _ (omega arith) c.loop-entry.invariant
    (sym c.matches_any.ensures ∙ c.if-matches_any.true))

pub returns-clause-entry : goal.returns-clause-entry
returns-clause-entry c =
    sym (deciding_none _ _ _ (λ k below. c.loop-entry.invariant k (omega arith)))
