-- The byte by which a yield that does not wait tells whether an upcall was delivered (TRD 104, "Yield").
use Rattle.std.specs.Prelude.{ℕ, ◌-◌, if◌then◌else◌, Option, None, Some, slice_set}
use Rattle.process_model.specs.Own.{Own}
use Rattle.process_model.specs.Handed.{lies_in_ram}

-- where it is written: only where it lies in accessible RAM
abbrev pub flag_place : ℕ → Own → Option ℕ
flag_place at own = if lies_in_ram own.layout at 1 then Some at else None

-- a process whose flag was written
abbrev pub with_flag : ℕ → ℕ → Own → Own
with_flag at byte own =
    if lies_in_ram own.layout at 1 then record own { ram = slice_set own.ram (at - own.layout.start) byte } else own
