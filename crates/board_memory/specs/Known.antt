-- Which instructions of flash are known.
use Rattle.std.specs.Prelude.{◌≡◌, ℕ, ◌+◌, ◌-◌, ◌*◌, ◌/◌, ◌<◌, ◌≤◌, List, length, slice_index_or}
use Rattle.tk_base.specs.declared.access.TheConstants.{FLASH_START}
use Rattle.rv32_entries.specs.declared.entry.Entry.{Entry}
use Rattle.rv32_entries.specs.Entries.{entry_reach}
use Rattle.rv32_entries.specs.Standing.{TellsStanding}

-- an entry for each even place of flash tells nothing, or the instruction that stands there
pub record AreEntries (flash : List ℕ) (entries : List Entry) : Type 0 where
  pub long : length entries ≡ length flash / 2
  pub each : (k : ℕ) (other : Entry) → k < length entries → TellsStanding flash (2 * k) (slice_index_or entries k other)

-- entries of the even places of so many bytes of flash, the first of which has an address: each tells nothing, or the
-- instruction that stands there; and this lies in them, and so does the place behind it where it may go on there
pub record AreKnown (flash : List ℕ) (start long : ℕ) (known : List Entry) : Type 0 where
  pub fits : 2 * length known ≤ long
  pub tells : (k : ℕ) (other : Entry) → k < length known
      → TellsStanding flash (start - FLASH_START + 2 * k) (slice_index_or known k other)
  pub reaches : (k : ℕ) (other : Entry) → k < length known
      → 2 * k + entry_reach (slice_index_or known k other) ≤ 2 * length known
