use Rattle.std.proofs.Common.{ℕ, take, drop, Some, sym, ap, ◌∙◌, arith}
use Rattle.std.specs.Prelude.{option_map}
use Rattle.grant_model.specs.Grants.{Grant}
use Rattle.grant_values.specs.Values.{value_by, value_told}
use Rattle.grant_values.specs.Words.{words_of}
use Rattle.grant_model.specs.Laws.{value_bytes}
use Rattle.process_seat.proofs.Keeping.{size_of, told_is}
use Rattle.process_seat.proofs.visit.kept_in.Goals as goal

pub value_at-requires : goal.value_at-requires
value_at-requires g c =
    let size = size_of g.T.GrantValue.driver c.args.driver g.T.GrantValue.SIZE g.T.GrantValue.count c.args.counts.now
    c.requires.counted g.met.T.GrantValue.whole in
    omega (arith, c.in_ok-place.ensures.found.within, size)

pub returns : goal.returns
returns g c =
    let v = c.in_ok-place.ensures.found in
    let size = size_of g.T.GrantValue.driver c.args.driver g.T.GrantValue.SIZE g.T.GrantValue.count c.args.counts.now
    c.requires.counted g.met.T.GrantValue.whole in
    let words = words_of (take (value_bytes c.args.driver) (drop c.in_ok-place.place.at c.args.kernel.now)) in
    ap Some (c.value_at.ensures
    ∙ ap (λ (n : ℕ). value_by (words_of (take n (drop c.in_ok-place.place.at c.args.kernel.now))) g.T.GrantValue.driver)
    (sym size)
    ∙ sym (told_is g.T.GrantValue.driver c.args.driver words c.requires.counted.driver_is)
    ∙ ap (value_told c.args.driver) v.taken ∙ v.fits.told)
    ∙ sym (ap (option_map (λ (m : Grant). m.value)) v.is)
