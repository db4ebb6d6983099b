use Rattle.std.proofs.Common.{ap, ◌∙◌, ◌++◌, take, ℕ}
use Rattle.image_make.specs.Images.{packed}
use Rattle.image_make.proofs.Contents.{keeps_objects}
use Rattle.image_make.proofs.packs.pack_one.Goals as goal

pub returns-in-Ok-clause-keeps : goal.returns-in-Ok-clause-keeps
unfolding packed
returns-in-Ok-clause-keeps c =
    keeps_objects c.args.image.now.items c.args.file.now c.extend_from_slice.new.self.items
    (c.in-Ok.ensures.items
    ∙ ap (λ (n : ℕ). c.args.image.now.items ++ take n c.args.file.now) c.extent-found.ensures.size)
