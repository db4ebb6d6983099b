-- What each step of a board answers for. The accesses are those of Levy et al., SOSP 2017; what a refused call may
-- change is this board's own rule.
use Rattle.std.specs.Prelude.{◌≡◌, ◌⊎◌, ℕ, List, All, slice_get, Some, IfSome, IsSomeAnd}
use Rattle.tk_base.specs.declared.access.Denial.{Denial}
use Rattle.tk_base.specs.declared.process.Choice.{Choice}
use Rattle.tk_base.specs.declared.process.Choice.TheVariants.{Run}
use Rattle.process_model.specs.Changes.{IsWhole}
use Rattle.process_record.specs.declared.process.State.TheVariants.{Faulted, Running}
use Rattle.kernel_model.specs.Record.{Record}
use Rattle.kernel_model.specs.World.{World, Label, after, labels}
use Rattle.kernel_model.specs.Accesses.{DenialIsDue, IsPermitted, OfTurn}
use Rattle.kernel_model.specs.Causes.{AllHaveCauses, AreWhole, ChangeHasACause}
use Rattle.kernel_model.specs.Choices.{OfEachProcess, Throughout}
use Rattle.kernel_model.specs.Console.{OperatesOne}
use Rattle.kernel_model.specs.Edges.{ServesEdge}
use Rattle.kernel_model.specs.Prints.{PrintsItsBuffer}
use Rattle.kernel_model.specs.Refused.{IfRefused}
use Rattle.kernel_model.specs.Replay.{chosen}
use Rattle.kernel_model.specs.Shown.{IsShownIn, shown_by}
use Rattle.kernel_model.specs.Stretch.{IsStretch}

-- a denial stands in a process's record as its last one, which the report tells of a process that is Faulted; and the
-- process is so then, or Running again
pub record RecordsDenial (denial : Denial) (s : Record) : Type 0 where
  pub last : s.process.denial ≡ Some denial
  pub state : (s.process.state ≡ Faulted) ⊎ (s.process.state ≡ Running)

-- the denial that a label tells stands in the record of its process in a world
abbrev pub IsRecordedIn : World → Label → Type 0
IsRecordedIn w label = (denial : Denial) → label.trace.denial ≡ Some denial
    → IsSomeAnd (slice_get w.records label.slot) (RecordsDenial denial)

-- Each byte that changes of a process has its cause in what the step tells; each access of a turn was permitted, and
-- each denial was due, is shown, and stands in the process's record after the step; a call that was refused changed
-- nothing of its process but its reply registers, pc, count of turns and recorded refusal; what was printed was a
-- process's own, in the buffer that it then held, or its line in a list; an edge of a button schedules one upcall for
-- each process that is told of it, and nothing else schedules any; an operator's act changes the process that it names
-- and its requests, and nothing else of the board.
pub record IsAccountedFor (w : World) (choice : Choice) : Type 0 where
  pub causes : OfEachProcess w choice (ChangeHasACause w choice)
  pub accesses : All (OfTurn (λ r told. All (IsPermitted r.own) told.accesses) w) (labels w choice)
  pub denials : All (OfTurn (λ r told. IfSome told.denial (DenialIsDue r)) w) (labels w choice)
  pub recorded : All (IsRecordedIn (after w choice)) (labels w choice)
  pub shown : All (IsShownIn (shown_by (labels w choice))) (labels w choice)
  pub refused : All (IfRefused w (after w choice)) (labels w choice)
  pub prints : All (PrintsItsBuffer w) (labels w choice)
  pub edges : OfEachProcess w choice (λ slot. ServesEdge w choice)
  pub operated : OperatesOne w choice

-- So it is with every step of a world in which the owns are whole; in any world with every turn of a process whose own
-- is whole, with all turns of a quiet stretch, and with all choices that change no byte without a cause.
pub record StepsAreAccountedFor : Type 0 where
  pub any : (w : World) (choice : Choice) → AreWhole w → IsAccountedFor w choice
  pub turn : (w : World) (slot : ℕ) → IfSome (slice_get w.records slot) (λ r. IsWhole r.own)
      → IsAccountedFor w (Run slot)
  pub stretch : (k : ℕ) (w after : World) → IsStretch k w after → Throughout IsAccountedFor w (chosen k w)
  pub all : (w : World) (choices : List Choice) → AllHaveCauses w choices → Throughout IsAccountedFor w choices
