-- When an entry tells the instruction that stands at a place of some bytes.
use Rattle.std.specs.Prelude.{◌≡◌, ℕ, ◌+◌, ◌*◌, ◌%◌, ◌==◌, ◌≤◌, if◌then◌else◌, List, length, slice_index}
use Rattle.std.specs.Prelude.{Some, IfSome}
use Rattle.tk_base.specs.declared.access.Width.TheVariants.{Half}
use Rattle.tk_base.specs.Bus.{number_at}
use Rattle.rv32_model.specs.declared.instr.Instr.{Instr}
use Rattle.rv32_model.specs.UserTurn.{instr_of}
use Rattle.rv32_entries.specs.declared.entry.Entry.{Entry}
use Rattle.rv32_entries.specs.Entries.{entry_instr, entry_length, HopsByParcels}
use Rattle.rv32_entries.specs.Fetched.{length_of}

-- the parcel at a place of some bytes
abbrev pub parcel_in : List ℕ → ℕ → ℕ
parcel_in bytes at = number_at (slice_index bytes) at Half

-- the bits of an instruction there
abbrev pub word_in : List ℕ → ℕ → ℕ
word_in bytes at =
    if parcel_in bytes at % 4 == 3 then parcel_in bytes at + 65536 * parcel_in bytes (at + 2) else parcel_in bytes at

-- an instruction of a length stands at a place of some bytes
pub record StandsIn (bytes : List ℕ) (at : ℕ) (instr : Instr) (size : ℕ) : Type 0 where
  pub lies : at + size ≤ length bytes
  pub decodes : instr_of (word_in bytes at) ≡ Some instr
  pub long : length_of (word_in bytes at) ≡ size
  pub hops : HopsByParcels instr

-- an entry tells nothing, or the instruction that stands at a place
abbrev pub TellsStanding : List ℕ → ℕ → Entry → Type 0
TellsStanding bytes at entry = IfSome (entry_instr entry) (λ instr. StandsIn bytes at instr (entry_length entry))
