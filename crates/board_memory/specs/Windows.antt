-- Where the registers need no search for an access.
use Rattle.std.specs.Prelude.{ℕ, ◌+◌, ◌-◌, ◌/◌, ◌≤◌, ◌^◌, List, length, take, drop}
use Rattle.tk_base.specs.declared.access.Access.TheVariants.{Fetch, Load, Store}
use Rattle.tk_base.specs.declared.access.TheConstants.{FLASH_START, RAM_START}
use Rattle.pmp_regions.specs.declared.Entry as registers
use Rattle.pmp_regions.specs.Windows.{PermitsBetween, end_of}
use Rattle.rv32_entries.specs.declared.entry.Entry.{Entry}
use Rattle.board_memory.specs.declared.windows.Windows.{Windows}
use Rattle.board_memory.specs.Bytes.{AreWords}
use Rattle.board_memory.specs.Known.{AreKnown}

-- Whatever the registers are, the words lie between the ends of the windows, in flash and in RAM of so many bytes. So
-- many of the entries are those of the words of flash, and none goes on behind the last.
pub record AreWindows (flash : List ℕ) (entries : List Entry) (size : ℕ) (w : Windows) : Type 0 where
  pub code : AreWords FLASH_START (length flash) w.executable.from (end_of w.executable) w.code.start w.code.size
  pub below : w.code.start + w.code.size ≤ RAM_START
  pub fits : (w.code.start - FLASH_START) / 2 + w.count ≤ length entries
  pub known : AreKnown flash w.code.start w.code.size (take w.count (drop ((w.code.start - FLASH_START) / 2) entries))
  pub near : AreWords RAM_START size w.writable.from (end_of w.writable) w.near.start w.near.size
  pub wraps : w.near.start + w.near.size ≤ 2 ^ 32

-- they lie in flash and in RAM, whatever these have
abbrev pub FitAnywhere : Windows → Type 0
FitAnywhere w = (flash : List ℕ) (entries : List Entry) (size : ℕ) → AreWindows flash entries size w

-- some registers permit what the windows stand for
pub record Permit (pmp : List registers.Entry) (w : Windows) : Type 0 where
  pub fetches : PermitsBetween pmp Fetch w.executable.from (end_of w.executable)
  pub reads : PermitsBetween pmp Load w.executable.from (end_of w.executable)
  pub loads : PermitsBetween pmp Load w.writable.from (end_of w.writable)
  pub stores : PermitsBetween pmp Store w.writable.from (end_of w.writable)
