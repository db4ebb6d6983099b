use Rattle.std.proofs.Common.{◌≡◌, ◌-◌, ◌++◌}
use Rattle.image_make.specs.Generator.{soak_objects}
use Rattle.image_make.proofs.image.flash_after.Given as goal

-- the objects so far, and those of what is left
abbrev pub invariant-loop-k : goal.invariant-loop-k
invariant-loop-k l = l.flash.items ++ soak_objects (8 - l.k) l.k l.draws ≡ soak_objects 8 0 l.initial.draws
