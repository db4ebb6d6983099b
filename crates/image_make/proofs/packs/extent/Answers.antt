use Rattle.std.proofs.Common.{◌≡◌, ap, ◌∙◌, arith}
use Rattle.tk_base.specs.declared.limits.TheConstants.{OBJECT_LIMIT}
use Rattle.flash_walk.specs.Image.{objects}
use Rattle.image_make.specs.Images.{covered}
use Rattle.image_make.proofs.Moves.{covered_within}
use Rattle.image_make.proofs.packs.extent.Goals as goal

pub covered_by-requires : goal.covered_by-requires
covered_by-requires c =
    let within = covered_within OBJECT_LIMIT c.args.file.now 0 (omega arith) in
    let same : covered c.as_slice.result.now ≡ covered (objects c.args.file.now)
    = ap covered (c.as_slice.ensures.value ∙ c.walk.ensures.objects) in
    let short = c.requires in
    omega arith

pub returns-clause-within : goal.returns-clause-within
returns-clause-within c =
    let within = covered_within OBJECT_LIMIT c.args.file.now 0 (omega arith) in
    let same : c.covered_by.result ≡ covered (objects c.args.file.now) = c.covered_by.ensures
    ∙ ap covered (c.as_slice.ensures.value ∙ c.walk.ensures.objects) in
    omega arith
