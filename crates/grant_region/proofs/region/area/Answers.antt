use Rattle.std.proofs.Common.{arith, ap, ◌≡◌, ◌*◌, ◌∙◌, Some, ℕ}
use Rattle.grant_values.specs.Drivers.{cost_of}
use Rattle.grant_model.specs.declared.places.Area.{Area}
use Rattle.grant_model.specs.Grants.{shape_of}
use Rattle.grant_region.proofs.Places.{placed}
use Rattle.grant_region.proofs.region.area.Goals as goal

pub overflow_cast-result : goal.overflow_cast-result
overflow_cast-result c = let h =
    placed c.areas_are_found.ensures c.in_ok-at.at c.args.driver c.args.kernel.now c.requires.laid c.in_ok-at.ensures in
    omega (arith, h.head)

pub overflow_mul-result : goal.overflow_mul-result
overflow_mul-result c = let h =
    placed c.areas_are_found.ensures c.in_ok-at.at c.args.driver c.args.kernel.now c.requires.laid c.in_ok-at.ensures in
    omega (arith, h.head)

pub overflow_add-at : goal.overflow_add-at
overflow_add-at c = let h =
    placed c.areas_are_found.ensures c.in_ok-at.at c.args.driver c.args.kernel.now c.requires.laid c.in_ok-at.ensures in
    omega (arith, h.head)

pub word_at-requires : goal.word_at-requires
word_at-requires c = let h =
    placed c.areas_are_found.ensures c.in_ok-at.at c.args.driver c.args.kernel.now c.requires.laid c.in_ok-at.ensures in
    omega (arith, h.head)

pub returns-clause-area : goal.returns-clause-area
returns-clause-area c =
    let h = placed c.areas_are_found.ensures c.in_ok-at.at c.args.driver c.args.kernel.now c.requires.laid
    c.in_ok-at.ensures in
    let made : ℕ → Area = λ k. record { offset = 4 * c.in_ok-at.at; cost = k } in
    ap (λ k. Some (made k)) (c.word_at.ensures ∙ h.cost_is) ∙ h.area

pub returns-clause-within : goal.returns-clause-within
returns-clause-within c =
    let h = placed c.areas_are_found.ensures c.in_ok-at.at c.args.driver c.args.kernel.now c.requires.laid
    c.in_ok-at.ensures in
    let e : c.word_at.result ≡ cost_of (shape_of c.args.driver) = c.word_at.ensures ∙ h.cost_is in
    omega (arith, h.fits)
