use Rattle.std.proofs.Common.{ap, ◌∙◌, arith, List, ℕ, ◌+◌, ◌-◌}
use Rattle.image_make.specs.Edits.{replaced}
use Rattle.image_make.specs.Outcomes.{with_name}
use Rattle.image_make.proofs.Sound.{replaced_mid}
use Rattle.image_make.proofs.edits.rename_object.Goals as goal

pub returns : goal.returns
unfolding with_name
returns c =
    replaced_mid c.args.flash.now c.put_name.new.object c.args.object.now.offset
    (c.args.object.now.offset + c.args.object.now.size - c.args.object.now.offset)
    (omega (arith, c.put_name.auto.object, c.requires.sound.long))
    ∙ ap (λ (ys : List ℕ). replaced c.args.flash.now c.args.object.now.offset ys) c.put_name.ensures
