-- A process with what is its own: the record that it shows. A board shows `record_of`; the rest is for
-- proofs alone. It is this board's own.
use Rattle.std.specs.Prelude.{ℕ, ◌+◌, ◌≤◌, ◌&&◌, not, Bool, false, List, length}
use Rattle.std.specs.Prelude.{Option, None, Some}
use Rattle.tk_base.specs.declared.access.TheConstants.{FLASH_START}
use Rattle.process_model.specs.Own.{Own}
use Rattle.process_record.specs.Name.{name_of}
use Rattle.process_record.specs.declared.process.Process.{Process}
use Rattle.process_record.specs.declared.summary.SlotLine.{SlotLine}
use Rattle.grant_enter.specs.Homes.{Homes, own_of}
use Rattle.kernel_model.specs.Record.{Record}
use Rattle.upcall_queue.specs.Pending.{due}
use Rattle.kernel_model.specs.Turn.{has_turn}
use Rattle.process_model.specs.Flash.{object_in}
use Rattle.process_restart.specs.Own.{IsOwn}
use Rattle.tk_base.specs.declared.process.ProcessId.{ProcessId}

-- a process with what is its own
abbrev pub Resident : Type 0
Resident = Process × Own

-- the record that it shows, with its storage, where buttons of a mask are pressed: its object is in flash
abbrev pub record_of : List ℕ → ℕ → (Process × Own) × List ℕ → Record
record_of flash pressed r =
    record { process = r.0.0; object = object_in flash r.0.0.object; own = r.0.1; storage = r.1; pressed = pressed }

-- the process in a slot, with what is its own
abbrev pub resident : Homes → ℕ → Process → Resident
resident home slot process = (process, own_of home slot)

-- the id of a process in its life
abbrev pub id_of : ℕ → Own → ProcessId
id_of slot own = record { slot = slot; life = own.life }

-- a process's object lies in flash
pub record InFlash (flash : List ℕ) (process : Process) : Type 0 where
  pub from_base : FLASH_START ≤ process.object.address
  pub in_flash : process.object.address + process.object.size ≤ FLASH_START + length flash

-- A process has its own object and what is kept of it; it had at most as many turns, was started again at most as often
-- and began at most as many further lives as there were steps.
pub record IsResident (flash : List ℕ) (steps : ℕ) (r : Resident) : Type 0 where
  pub own : IsOwn flash r.0 r.1
  pub turns : r.0.turns ≤ steps
  pub restarts : r.0.restarts ≤ steps
  pub life : r.1.life ≤ steps

-- it lost at most as many upcalls as there were steps
abbrev pub HasLost : ℕ → Own → Type 0
HasLost steps own = own.inbox.dropped ≤ steps

-- whether a process can have a turn, and whether that in a slot can, if there is one
abbrev pub resident_turns : Resident → Bool
resident_turns r = not r.0.held && has_turn r.0.state (due r.1.inbox)

abbrev pub can_turn_in : Option Resident → Bool
can_turn_in None = false
can_turn_in (Some r) = resident_turns r

-- the line of the process in a slot
abbrev pub resident_line : List ℕ → Resident → SlotLine
resident_line flash r = record {
  name = record { items = name_of (object_in flash r.0.object) };
  state = r.0.state;
  held = r.0.held;
  wait = r.1.inbox.wait;
  denial = r.0.denial;
  turns = r.0.turns;
  restarts = r.0.restarts;
  dropped = r.1.inbox.dropped;
}
