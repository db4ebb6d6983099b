-- An operator's act on a process with what is its own. Only proofs use this.
use Rattle.std.specs.Prelude.{◌≡◌, ℕ, if◌then◌else◌, List, []}
use Rattle.tk_base.specs.declared.process.Verb.{Verb}
use Rattle.process_record.specs.declared.process.Process.{Process}
use Rattle.process_record.specs.Operator.{ends_by}
use Rattle.driver_model.specs.Commands.{BoardRequest, leaving_all}
use Rattle.kernel_model.specs.Turn.{operated}
use Rattle.kernel_calls.specs.Own.{Beside, record_in}
use Rattle.board_drivers.specs.Driven.{Drives}
use Rattle.kernel_calls.specs.Residents.{Resident, id_of}
use Rattle.board_turns.specs.declared.machine.Machine.{Machine}

-- what the drivers do for a process on which an operator acts
abbrev pub verb_acts : Verb → Process → List BoardRequest
verb_acts verb process = if ends_by verb process then leaving_all else []

-- what an operator's act does to the process in a slot, whatever it has beside, and what the drivers of a machine do
-- for it
pub record IsActedOn (verb : Verb) (slot : ℕ) (old new : Machine) (r s : Resident) : Type 0 where
  pub operates : (beside : Beside) →
      operated verb (record_in old.home.flash r.0 r.1 beside) ≡ record_in old.home.flash s.0 s.1 beside
  pub drives : Drives (id_of slot r.1) (verb_acts verb r.0) old.drivers new.drivers
