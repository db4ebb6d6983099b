use Rattle.std.proofs.Common.{◌≡◌, inl, inr, Some, slice_get}
use Rattle.std.specs.List.{zip}
use Rattle.kernel_calls.specs.Residents.{resident}
use Rattle.board_turns.proofs.TurnsKept.{slot_found, slot_missing}
use Rattle.board_turns.proofs.ready_slots.can_run.Goals as goal
use Rattle.board_turns.proofs.ready_slots.can_run.Goals.{In-Some}

-- the process that was found is that of the slot
there : (c : In-Some) → slice_get (zip c.args.processes.now c.args.home.now.owns) c.args.slot
    ≡ Some (resident c.args.home.now c.args.slot c.in-Some.process.now)
there c = slot_found c.args.home.now c.args.processes.now c.args.slot c.index.result
    c.in-Some.process.now c.requires c.index.ensures.value c.in-Some.ensures.lookup.0 c.in-Some.ensures.lookup.1

pub returns-then-process : goal.returns-then-process
returns-then-process c = rw (there (goal.at.returns-then-process c).In-Some, c.if-process.true)

pub returns-in-Running : goal.returns-in-Running
returns-in-Running c = rw (there (goal.at.returns-in-Running c).In-Some, c.if-process.false, c.in-Running.is)

pub returns-in-Yielded : goal.returns-in-Yielded
returns-in-Yielded c =
    rw (there (goal.at.returns-in-Yielded c).In-Some, c.if-process.false, c.in-Yielded.is) c.is_due.ensures

-- one that ended has no turn
pub returns-in-Faulted : goal.returns-in-Faulted
returns-in-Faulted c = rw (there (goal.at.returns-in-Faulted c).In-Some, c.if-process.false) (elim c.in-Faulted.is [
  | inl is ↦ rw is
  | inr is ↦ rw is.1
])

pub returns-in_default : goal.returns-in_default
returns-in_default c =
    rw (slot_missing c.args.home.now c.args.processes.now c.args.slot c.index.result c.requires c.index.ensures.value
    c.in_default.ensures.lookup.0)
