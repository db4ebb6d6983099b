-- When an entry tells the instruction that is fetched at an address.
use Rattle.std.specs.Prelude.{◌≡◌, ℕ, ◌%◌, ◌==◌, if◌then◌else◌, Option, Some, Ok, IfSome}
use Rattle.tk_base.specs.declared.access.Access.{Access}
use Rattle.tk_base.specs.declared.access.Width.{Width}
use Rattle.tk_base.specs.declared.access.Rule.{Rule}
use Rattle.rv32_model.specs.declared.instr.Instr.{Instr}
use Rattle.rv32_model.specs.UserTurn.{fetched, instr_of}
use Rattle.rv32_entries.specs.declared.entry.Entry.{Entry}
use Rattle.rv32_entries.specs.Entries.{entry_instr, entry_length, HopsByParcels}

-- the length in bytes that the lowest bits tell
abbrev pub length_of : ℕ → ℕ
length_of word = if word % 4 == 3 then 4 else 2

-- fetching at an address gives the bits of an instruction of a length
pub record IsFetched (denies : Access → ℕ → Width → Option Rule) (bytes : ℕ → ℕ) (at : ℕ) (instr : Instr)
    (size : ℕ) : Type 0 where
  pub word : ℕ
  pub comes : fetched denies bytes at ≡ Ok word
  pub decodes : instr_of word ≡ Some instr
  pub long : length_of word ≡ size
  pub hops : HopsByParcels instr

-- an entry tells nothing, or the instruction that is fetched at an address
abbrev pub TellsFetched : (Access → ℕ → Width → Option Rule) → (ℕ → ℕ) → ℕ → Entry → Type 0
TellsFetched denies bytes at entry =
    IfSome (entry_instr entry) (λ instr. IsFetched denies bytes at instr (entry_length entry))
