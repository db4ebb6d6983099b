-- Steps of a slot of the tables are those of the process there.
use Rattle.std.proofs.Common.{◌≡◌, ◌<◌, ℕ, List, length, slice_get, slice_set, slice_index_or, Some, sym, ap, ◌∙◌}
use Rattle.std.proofs.Common.{arith}
use Rattle.std.proofs.lemmas.Option.{slice_get-get_or}
use Rattle.process_record.specs.declared.process.Process.{Process}
use Rattle.grant_enter.specs.Homes.{nobody}
use Rattle.board_turns.specs.declared.machine.Machine.{Machine}
use Rattle.kernel_calls.specs.Residents.{Resident, resident}
use Rattle.board_turns.specs.Turning.{HasProcess, LeavesMachine, StepsInSlot}

-- The process in a slot of the tables, which was looked up there.
module _ {Holds : Resident → Type 0} (slot index : ℕ) (x : Machine) (processes : List Process) (process : Process)
    (is : index ≡ slot) (found : process ≡ slice_index_or processes index process)
    (has : HasProcess slot x.home processes Holds) where
  here : slice_get processes slot ≡ Some process
  here = slice_get-get_or processes slot process has.within
      ∙ ap Some (ap (λ (k : ℕ). slice_index_or processes k process) (sym is) ∙ sym found)

  -- what holds of the process in that slot holds of it
  pub holds_here : Holds (resident x.home slot process)
  holds_here = has.holds process here

  -- and what its steps leave of it, and do, they leave of the tables, and do there
  pub steps_there : {Do : Resident → Resident → Type 0} (steps : ℕ) (y : Machine) (after : Process)
      → LeavesMachine steps slot x y (resident y.home slot after)
      → Do (resident x.home slot process) (resident y.home slot after)
      → StepsInSlot steps slot x y processes (slice_set processes index after) Do
  steps_there steps y after leaves does = record {
    at = record {
      before = resident x.home slot process;
      after = resident y.home slot after;
      was = here;
      own_was = slice_get-get_or x.home.owns slot nobody within_owns;
      is = ap (λ (k : ℕ). slice_set processes k after) is;
      own_is = leaves.only;
    };
    leaves = leaves;
    does = does;
  }
    where
      within_owns : slot < length x.home.owns
      within_owns = omega (arith, has.within, has.owns)
