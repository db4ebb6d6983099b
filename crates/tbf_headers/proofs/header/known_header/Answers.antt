use Rattle.std.proofs.Common.{ℕ, ◌<◌, take, arith, sym, subst, ap, ◌∙◌}
use Rattle.std.proofs.lemmas.List.{length-take-le}
use Rattle.tbf_headers.specs.Numbers.{half}
use Rattle.tbf_headers.specs.Shown.{IsChecked}
use Rattle.tbf_headers.specs.Parts.{first_bad}
use Rattle.tbf_headers.proofs.Known.{known, long_of}
use Rattle.tbf_headers.proofs.header.known_header.Goals as goal

pub half_at-requires : goal.half_at-requires
half_at-requires c = let long = long_of c.args.object.now c.requires in omega (arith, long)

pub slice_bounds-result-end : goal.slice_bounds-result-end
slice_bounds-result-end c =
    let size = c.from.ensures ∙ c.half_at.ensures in
    let fits : half c.args.object.now 2 < 65536 = omega (arith, c.half_at.ensures) in
    let k = known c.args.object.now fits c.requires in
    sym (length-take-le c.from.result c.args.object.now (omega (arith, size, k.within)))

pub returns-clause-checked : goal.returns-clause-checked
returns-clause-checked c =
    let fits : half c.args.object.now 2 < 65536 = omega (arith, c.half_at.ensures) in
    let k = known c.args.object.now fits c.requires in
    subst (λ (n : ℕ). IsChecked c.args.object.now (take n c.args.object.now)) (sym (c.from.ensures ∙ c.half_at.ensures))
    k.checked

pub returns-clause-good : goal.returns-clause-good
returns-clause-good c =
    let fits : half c.args.object.now 2 < 65536 = omega (arith, c.half_at.ensures) in
    let k = known c.args.object.now fits c.requires in
    ap (λ (n : ℕ). first_bad (take n c.args.object.now)) (c.from.ensures ∙ c.half_at.ensures) ∙ k.good
