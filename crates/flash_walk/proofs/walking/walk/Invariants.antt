use Rattle.std.proofs.Common.{◌≡◌, ◌-◌, ◌≤◌, ◌%◌, ◌++◌, length, All}
use Rattle.tk_base.specs.declared.limits.TheConstants.{OBJECT_LIMIT}
use Rattle.arrayvec.specs.ArrayVec.{array_vec_len}
use Rattle.flash_walk.specs.Image.{objects, objects_from, IsObject}
use Rattle.flash_walk.proofs.walking.walk.Given as goal

-- the objects found, and those that are left, are all
abbrev pub invariant-loop-object : goal.invariant-loop-object
invariant-loop-object l = record {
  aligned : l.at % 4 ≡ 0;
  each : All (IsObject l.flash) l.found.items;
  within : l.at ≤ length l.flash;
  left : l.found.items ++ objects_from (OBJECT_LIMIT - array_vec_len l.found) l.flash l.at ≡ objects l.flash;
}

abbrev pub decreases-loop-object : goal.decreases-loop-object
decreases-loop-object l = OBJECT_LIMIT - array_vec_len l.found
