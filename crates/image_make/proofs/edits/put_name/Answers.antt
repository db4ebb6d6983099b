use Rattle.std.proofs.Common.{◌≡◌, ◌+◌, ap, ◌∙◌, arith, List, ℕ, length}
use Rattle.tk_base.specs.Numbers.{rounded_up}
use Rattle.image_make.specs.Edits.{replaced, padded, mended, renamed}
use Rattle.image_make.proofs.Sound.{replaced_mid}
use Rattle.image_make.proofs.Renames.{length_padded}
use Rattle.image_make.proofs.edits.put_name.Goals as goal

pub returns : goal.returns
unfolding renamed
returns c =
    let start = c.args.at + 4 in
    let size : length c.put_padded.new.part ≡ rounded_up (length c.args.name.now)
    = ap (λ (ys : List ℕ). length ys) c.put_padded.ensures ∙ length_padded c.args.name.now in
    c.mend.ensures
    ∙ ap mended (
    replaced_mid c.put_number.new.bytes c.put_padded.new.part start _ (omega (arith, size, c.rounded.ensures))
    ∙ ap (λ (ys : List ℕ). replaced c.put_number.new.bytes start ys) c.put_padded.ensures
    ∙ ap (λ (xs : List ℕ). replaced xs start (padded c.args.name.now)) c.put_number.ensures)
