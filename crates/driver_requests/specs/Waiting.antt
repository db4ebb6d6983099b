-- The processes that wait for one device, the first one first: who waits, and who does after a command, and after an
-- answer.
use Rattle.std.specs.Prelude.{ℕ, ◌==◌, ◌<◌, Bool, not, if◌then◌else◌, List, [], ◌∷◌, ◌++◌, filter, find, slice_get}
use Rattle.std.specs.Prelude.{Option, None, Some}
use Rattle.std.specs.List.{AllByRecursion, IsDistinct, list_any}
use Rattle.tk_base.specs.declared.limits.TheConstants.{SLOT_COUNT}
use Rattle.tk_base.specs.declared.process.ProcessId.{ProcessId}
use Rattle.driver_model.specs.Commands.{BoardRequest, Waits, Leaves, Lights, QueueName, is_same}

-- whether the process of a slot waits
abbrev pub waits : ℕ → List ProcessId → Bool
waits slot ids = list_any (λ id. id.slot == slot) ids

-- of those that wait the first one, or that of the slot which alone is served
abbrev pub first_of : Option ℕ → List ProcessId → Option ProcessId
first_of None ids = slice_get ids 0
first_of (Some only) ids = find (λ id. id.slot == only) ids

-- those that wait without the one of a slot
abbrev pub without : ℕ → List ProcessId → List ProcessId
without slot ids = filter (λ id. not (id.slot == slot)) ids

abbrev pub of_same_slot : ProcessId → ProcessId → Bool
of_same_slot a b = a.slot == b.slot

-- of each slot at most one process waits
pub record OnceEach (ids : List ProcessId) : Type 0 where
  pub apart : IsDistinct of_same_slot ids
  pub slots : AllByRecursion (λ id. id.slot < SLOT_COUNT) ids

-- those that wait in a list after one thing that a process asks of the board: one that begins to wait there is the last
abbrev pub after_act : QueueName → ProcessId → List ProcessId → BoardRequest → List ProcessId
after_act here id ids (Waits line) = if is_same line here then ids ++ id ∷ [] else ids
after_act here id ids (Leaves line) = if is_same line here then without id.slot ids else ids
after_act here id ids (Lights led switch) = ids

-- those that wait there after all that a command of a process asks of the board
abbrev pub queue_after : QueueName → ProcessId → List ProcessId → List BoardRequest → List ProcessId
queue_after here id ids [] = ids
queue_after here id ids (act ∷ acts) = queue_after here id (after_act here id ids act) acts

-- those that wait there after an answer to the process of a slot, whose request completed or did not
abbrev pub waiting_still : Bool → ℕ → List ProcessId → List ProcessId
waiting_still completed slot ids = if completed then without slot ids else ids
