-- Flash and RAM, and the places of a process in both (Levy et al., SOSP 2017, section 4).
use Rattle.std.specs.Prelude.{ℕ, ◌+◌, ◌-◌, ◌≤◌, List, length, replicate, slice_range}
use Rattle.std.specs.List.{refill}
use Rattle.tk_base.specs.declared.access.TheConstants.{FLASH_START, RAM_START}
use Rattle.process_layout.specs.LayoutView.{LayoutView}
use Rattle.tk_base.specs.Bytes.{over}

-- the bytes of flash and of RAM
pub record MemoryBytes : Type 0 where
  pub flash : List ℕ
  pub ram : List ℕ

-- the accessible flash lies in flash, and the block in RAM
pub record IsPlaced (e : LayoutView) (m : MemoryBytes) : Type 0 where
  pub flash_from : FLASH_START ≤ e.flash_start
  pub flash_to : e.flash_end ≤ FLASH_START + length m.flash
  pub from : RAM_START ≤ e.start
  pub to : e.end ≤ RAM_START + length m.ram

-- the bytes of RAM from one address up to another
abbrev pub ram_between : List ℕ → ℕ → ℕ → List ℕ
ram_between ram from to = slice_range ram (from - RAM_START) (to - RAM_START)

-- the bytes of a layout's accessible flash
abbrev pub accessible_flash : LayoutView → List ℕ → List ℕ
accessible_flash e flash = slice_range flash (e.flash_start - FLASH_START) (e.flash_end - FLASH_START)

-- memory with a block of zeros
abbrev pub block_cleared : LayoutView → MemoryBytes → MemoryBytes
block_cleared e m = record m { ram = over m.ram (e.start - RAM_START) (replicate (e.end - e.start) 0) }

-- memory with bytes written over RAM from an address on; RAM keeps its length
abbrev pub with_run : MemoryBytes → ℕ → List ℕ → MemoryBytes
with_run m from bytes =
    record m { ram = refill (length m.ram) m.ram (over m.ram (from - RAM_START) bytes) }

-- memory with these bytes as its RAM; RAM keeps its length
abbrev pub with_ram : MemoryBytes → List ℕ → MemoryBytes
with_ram m bytes = record m { ram = refill (length m.ram) m.ram bytes }
