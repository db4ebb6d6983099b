-- That the tables agree: that of the drivers, which are Tock's (driver 0x0 to driver 0x50001), and that of the
-- instructions (RISC-V unprivileged manual, "RV32/64G Instruction Set Listings").
use Rattle.std.specs.Prelude.{◌≡◌, ℕ, Bool, List, filter, is_some}
use Rattle.rv32_model.specs.Instructions.{InstrRow, row_fits, instruction_table}
use Rattle.grant_values.specs.Drivers.{counts_of}
use Rattle.driver_model.specs.Drivers.{takes_commands}

-- a driver takes commands, or takes none, as it has grants or has none
abbrev pub TakesAsItKeeps : ℕ → Bool → Type 0
TakesAsItKeeps driver takes = is_some (counts_of driver) ≡ takes

-- the drivers that take commands are those that have grants
abbrev pub SameDrivers : Type 0
SameDrivers = (driver : ℕ) → TakesAsItKeeps driver (takes_commands driver)

-- each of some rows fits a word: the one that has the row's bits, and else zeros
abbrev pub EachFitsItself : List InstrRow → Type 0
EachFitsItself rows = filter (λ r. row_fits r.value r) rows ≡ rows

-- so do those of the instruction table
abbrev pub EachRowFitsAWord : Type 0
EachRowFitsAWord = EachFitsItself instruction_table
