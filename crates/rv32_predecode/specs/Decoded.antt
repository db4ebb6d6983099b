-- When an entry is that of an instruction.
use Rattle.std.specs.Prelude.{◌≡◌, ℕ, Option, Some, IfSome}
use Rattle.rv32_model.specs.declared.instr.Instr.{Instr}
use Rattle.rv32_entries.specs.declared.entry.Entry.{Entry}
use Rattle.rv32_entries.specs.Entries.{entry_instr, entry_length, HopsByParcels}

-- what an entry tells is an instruction of a length
pub record IsEntryOf (length : ℕ) (instr : Option Instr) (entry : Entry) : Type 0 where
  pub tells : IfSome (entry_instr entry)
      (λ told. (instr ≡ Some told) × (entry_length entry ≡ length) × HopsByParcels told)
