-- One instruction of a process, over what it may access (RISC-V unprivileged manual, "RV32I Base Integer Instruction
-- Set"; Levy et al., SOSP 2017).
use Rattle.std.specs.Prelude.{◌≡◌, ◌≤◌, ◌<◌, ℕ, ◌-◌, List, slice_index, Option, None, Some}
use Rattle.tk_base.specs.Bus.{put}
use Rattle.tk_base.specs.Regs.{Registers}
use Rattle.rv32_model.specs.UserTurn.{Write, UserTurn, user_turn}
use Rattle.process_model.specs.Flash.{flash_byte}
use Rattle.process_model.specs.Own.{Own}
use Rattle.process_model.specs.Permission.{denied}

-- the instruction at pc, under what the process may access and over the bytes that it sees
abbrev pub instruction_of : Own → (ℕ → ℕ) → Registers → UserTurn
instruction_of own seen regs = user_turn (denied own.layout) seen regs

-- bytes from an address on, after a turn's write
unfoldable pub ram_after : ℕ → Option Write → List ℕ → List ℕ
ram_after start None ram = ram
ram_after start (Some w) ram = put ram (w.address - start) w.width w.value

-- what an instruction leaves of a process's memory
abbrev pub with_write : Own → UserTurn → Own
with_write own t = record own { ram = ram_after own.layout.start t.write own.ram }

-- Bytes by address as a process sees them: those of its accessible flash and of its accessible RAM. Elsewhere they may
-- be any.
pub record Sees (flash : List ℕ) (own : Own) (seen : ℕ → ℕ) : Type 0 where
  pub in_flash : (a : ℕ) → own.layout.flash_start ≤ a → a < own.layout.flash_end
      → seen a ≡ flash_byte flash a
  pub in_ram : (a : ℕ) → own.layout.start ≤ a → a < own.layout.brk → seen a ≡ slice_index own.ram (a - own.layout.start)
