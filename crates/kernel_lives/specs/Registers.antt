-- That a process has as many registers as the machine (RISC-V unprivileged manual, "Programmers' Model for Base Integer
-- ISA").
use Rattle.std.specs.Prelude.{◌≡◌, length}
use Rattle.kernel_model.specs.Record.{Record}

-- a process has 32 registers
abbrev pub HasRegisters : Record → Type 0
HasRegisters r = length r.process.regs.x ≡ 32
