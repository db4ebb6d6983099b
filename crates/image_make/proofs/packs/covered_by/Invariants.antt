use Rattle.std.proofs.Common.{◌≡◌, take}
use Rattle.std.specs.List.{sum_by}
use Rattle.flash_walk.specs.declared.found.Found.{Found}
use Rattle.image_make.proofs.packs.covered_by.Given as goal

-- the bytes of the objects so far
abbrev pub invariant-loop-object : goal.invariant-loop-object
invariant-loop-object l = l.size ≡ sum_by (λ (f : Found). f.size) (take l.object-index l.found)
