use Rattle.std.proofs.Common.{List, ℕ, ◌≤◌, length, ap, subst, sym, ◌∙◌}
use Rattle.image_make.proofs.Sizes.{length-soak_flash, length-soak_script}
use Rattle.image_make.proofs.image.image_of.Goals as goal

pub returns-in-Ok-clause-flash_size : goal.returns-in-Ok-clause-flash_size
returns-in-Ok-clause-flash_size c = ap (λ (bytes : List ℕ). length bytes) c.in-Ok.ensures.flash
    ∙ length-soak_flash c.args.number

pub returns-in-Ok-clause-script_size : goal.returns-in-Ok-clause-script_size
returns-in-Ok-clause-script_size c =
    let P : List ℕ → Type 0 = λ bytes. length bytes ≤ 9 in
    subst P (sym c.in-Ok.ensures.script) (length-soak_script c.args.number)
