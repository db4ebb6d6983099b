use Rattle.std.proofs.Common.{ap, ◌∙◌, arith, List, ℕ, ◌+◌, ◌-◌}
use Rattle.image_make.specs.Edits.{replaced}
use Rattle.image_make.specs.Outcomes.{enabled}
use Rattle.image_make.proofs.Sound.{replaced_mid}
use Rattle.image_make.proofs.edits.enable_object.Goals as goal

pub returns : goal.returns
unfolding enabled
returns c =
    replaced_mid c.args.flash.now c.enable.new.object c.args.object.now.offset
    (c.args.object.now.offset + c.args.object.now.size - c.args.object.now.offset)
    (omega (arith, c.enable.auto.object, c.requires.sound.long))
    ∙ ap (λ (ys : List ℕ). replaced c.args.flash.now c.args.object.now.offset ys) c.enable.ensures
