-- The world that a board shows: what a board is to contracts. The invariant beside it is for proofs alone. It is this
-- board's own.
use Rattle.std.specs.Prelude.{◌≡◌, ◌≤◌, ℕ, List, length, map, All}
use Rattle.std.specs.List.{zip}
use Rattle.tk_base.specs.declared.limits.TheConstants.{SLOT_COUNT}
use Rattle.kernel_model.specs.Record.{Record}
use Rattle.kernel_model.specs.World.{World}
use Rattle.board_turns.specs.Machines.{IsMachine}
use Rattle.kernel_calls.specs.Residents.{Resident, record_of, IsResident}
use Rattle.board_drivers.specs.Driven.{devices_of}
use Rattle.board_core.specs.declared.state.BoardState.{BoardState}
use Rattle.board_turns.specs.ReadySlots.{TurnsTell}

-- each process with what is its own
abbrev pub residents : BoardState → List Resident
residents b = zip b.processes.items b.machine.home.owns

-- the record of a process with its own and its storage: its object is in flash, and of buttons it was told what the
-- device holds
abbrev pub recorded : BoardState → Resident × List ℕ → Record
recorded b = record_of b.machine.home.flash b.machine.drivers.buttons.pressed

-- the records are those of the processes, each with its own and its storage; of buttons they were told what the device
-- holds
abbrev pub world_of : BoardState → World
world_of b = record {
  records = map (record_of b.machine.home.flash b.machine.drivers.buttons.pressed)
      (zip (zip b.processes.items b.machine.home.owns) b.machine.drivers.stores.slots);
  unplaced = b.unplaced.items;
  settings = b.machine.moment.settings;
  pace = record { slice = b.present.slice; window = b.machine.moment.window };
  devices = devices_of b.machine.drivers;
  clock = record { time = b.machine.moment.time; steps = b.machine.moment.steps };
  present = record { slot = b.present.slot; used = b.present.used };
}

-- what always holds of a board
pub record IsBoard (b : BoardState) : Type 0 where
  pub machine : IsMachine b.machine
  pub seated : All (IsResident b.machine.home.flash b.machine.moment.steps) (residents b)
  pub owns : length b.machine.home.owns ≡ length b.processes.items
  pub few : length b.processes.items ≤ SLOT_COUNT
  pub ready : TurnsTell b.machine.ready (residents b)
  pub slice : 1 ≤ b.present.slice
  pub used : b.present.used ≤ b.present.slice
