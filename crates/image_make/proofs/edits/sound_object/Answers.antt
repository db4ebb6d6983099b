use Rattle.std.proofs.Common.{sym, ◌∙◌}
use Rattle.image_make.proofs.Sound.{sound_here}
use Rattle.image_make.proofs.edits.sound_object.Goals as goal

pub returns-clause-sound : goal.returns-clause-sound
returns-clause-sound c =
    sound_here c.args.flash.now c.args.offset c.in_ok-object.object (sym c.object_from.ensures ∙ c.in_ok-object.was)
    (sym c.is_faulty.ensures ∙ c.if-is_faulty.false)
