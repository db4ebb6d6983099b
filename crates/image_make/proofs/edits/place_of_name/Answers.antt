use Rattle.std.proofs.Common.{ℕ, ◌+◌, sym, ap, ◌∙◌, take}
use Rattle.tk_base.specs.Numbers.{rounded_up}
use Rattle.tbf_headers.specs.Numbers.{half}
use Rattle.tbf_headers.specs.Tlv.{first_of}
use Rattle.tbf_headers.specs.Meaning.{meaning_of}
use Rattle.image_make.proofs.Renames.{name_fits}
use Rattle.image_make.proofs.edits.place_of_name.Goals as goal

pub returns-clause-fits : goal.returns-clause-fits
returns-clause-fits c =
    let size = c.from.ensures ∙ c.half_at.ensures in
    name_fits c.args.object.now c.args.name.now c.in_ok-at.at (meaning_of c.args.object.now) c.requires.read
    (ap (λ (n : ℕ). first_of 3 (take n c.args.object.now)) (sym size) ∙ sym c.first_tlv.ensures.place ∙ c.in_ok-at.was)
    (sym c.rounded.ensures ∙ c.if-rounded.false ∙ c.rounded-2.ensures
    ∙ ap rounded_up (c.from-length.ensures ∙ c.half_at-2.ensures
    ∙ ap (λ (n : ℕ). half (take n c.args.object.now) (c.in_ok-at.at + 2)) size))
