use Rattle.flash_walk.proofs.Objects.{objects-objects, objects-sized, length-objects}
use Rattle.flash_walk.proofs.laws.objects_are_found.Goals as goal

pub returns : goal.returns
returns c = record {
  each = λ flash short. objects-objects flash;
  sized = λ flash short. objects-sized flash;
  few = λ flash short. length-objects flash;
}
