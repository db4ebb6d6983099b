use Rattle.std.proofs.Common.{◌≡◌, ◌≤◌, ◌++◌, drop, All}
use Rattle.std.specs.List.{filter_map}
use Rattle.arrayvec.specs.ArrayVec.{array_vec_len}
use Rattle.app_placement.specs.Applications.{application_of, applications}
use Rattle.app_placement.specs.Placement.{places_from, LiesInFlash, IsLaidOut}
use Rattle.app_placement.specs.Parts.{placements}
use Rattle.app_placement.proofs.Laws.{IsFilled}
use Rattle.app_placement.proofs.placing.place.Given as goal

-- the places so far, and those of the applications that are left, are all
abbrev pub invariant-loop-object : goal.invariant-loop-object
invariant-loop-object l = record {
  filled : IsFilled l.partition l.ram l.filled;
  few : array_vec_len l.placed ≤ l.object-index;
  each : All (LiesInFlash l.flash) l.placed.items;
  laid_out : All (IsLaidOut l.flash) l.placed.items;
  left : l.placed.items ++ places_from l.partition l.ram l.filled
      (filter_map (application_of l.flash) (drop l.object-index l.found))
      ≡ placements l.partition l.ram (applications l.flash);
}
