-- The record of one process. It has what the kernel of Levy et al., SOSP 2017, section 4, keeps of a process, its state
-- (TRD 104, "Yield", "Exit"), its storage (driver 0x50001) and what it was told of buttons (driver 0x3).
use Rattle.std.specs.Prelude.{ℕ, ◌+◌, ◌-◌, ◌&&◌, nat_le, nat_lt, if◌then◌else◌, List, length, slice_index}
use Rattle.rv32_model.specs.UserTurn.{UserTurn, user_turn}
use Rattle.process_model.specs.Permission.{denied}
use Rattle.process_model.specs.Own.{Own}
use Rattle.process_model.specs.Served.{own_scheduling}
use Rattle.process_model.specs.Changes.{own_byte}
use Rattle.driver_model.specs.Steps.{DriverStep}
use Rattle.process_model.specs.Instruction.{with_write}
use Rattle.process_record.specs.declared.process.Process.{Process}
use Rattle.process_record.specs.declared.summary.SlotLine.{SlotLine}
use Rattle.process_record.specs.Name.{name_of}

-- one process: its registers, state and counts, the bytes of its object, what the kernel keeps of it, the bytes of its
-- storage, and a mask of the buttons that are pressed, as far as it was told: bit n for button n
pub record Record : Type 0 where
  pub process : Process
  pub object : List ℕ
  pub own : Own
  pub storage : List ℕ
  pub pressed : ℕ

-- flash as a process knows it, by address: its object in its place
abbrev pub flash_of : Record → ℕ → ℕ
flash_of r at = slice_index r.object (at - r.process.object.address)

-- the byte at an address: one of the process's RAM, or one of its object
abbrev pub byte_at : Record → ℕ → ℕ
byte_at r at =
    let start = r.own.layout.start in
    if nat_le start at && nat_lt at (start + length r.own.ram) then own_byte r.own at
    else flash_of r at

-- a record of which a driver served the process: what it left is the process's own, and what it scheduled is queued
abbrev pub record_with_step : Record → DriverStep → Record
record_with_step r step = record r { own = own_scheduling step.schedules step.own }

-- the instruction at pc, under what the process may access and over its own bytes
abbrev pub instruction : Record → UserTurn
instruction r = user_turn (denied r.own.layout) (byte_at r) r.process.regs

-- what an instruction leaves of registers and RAM
abbrev pub with_effect : Record → UserTurn → Record
with_effect r t = record r { process = record r.process { regs = t.regs }; own = with_write r.own t }

-- what the report says of a process
abbrev pub slot_line_of : Record → SlotLine
slot_line_of r = record {
  name = record { items = name_of r.object };
  state = r.process.state;
  held = r.process.held;
  wait = r.own.inbox.wait;
  denial = r.process.denial;
  turns = r.process.turns;
  restarts = r.process.restarts;
  dropped = r.own.inbox.dropped;
}
