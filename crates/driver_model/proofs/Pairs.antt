-- The pairs that a process has handed, after commands and answers.
use Rattle.std.proofs.Common.{refl, ap, ◌∙◌}
use Rattle.process_model.specs.Own.{Own}
use Rattle.process_model.specs.Handed.{own_entering}
use Rattle.process_model.specs.Pairs.{HandsTheSame, OnlyHandingChangesPairs}
use Rattle.driver_model.specs.Pairs.{DriversLeavePairs}
use Rattle.driver_model.proofs.Services.{of_services}

-- first one thing, and then another
then : {a b c : Own} → HandsTheSame a b → HandsTheSame b c → HandsTheSame a c
then first second = record { pairs = λ driver. second.pairs driver ∙ first.pairs driver }

pub drivers_leave_pairs : OnlyHandingChangesPairs → DriversLeavePairs
drivers_leave_pairs law =
    of_services HandsTheSame (record {
      same = λ own. law.grants own own refl;
      keeps = law.keeping;
      enters = λ driver value own room. then (law.entering driver own)
          (law.keeping driver value (own_entering driver own));
      serves = λ driver value own o s. then (law.grants own o (ap (λ (x : Own). x.grants) s.rest))
          (law.keeping driver value o);
      tells = λ own o s. law.grants own o (ap (λ (x : Own). x.grants) s.rest);
    })
