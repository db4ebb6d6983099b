-- The integer registers (RISC-V unprivileged manual, "Programmers' Model for Base Integer ISA").
use Rattle.std.specs.Prelude.{ℕ, ◌==◌, if◌then◌else◌, List, slice_index, slice_set}

-- the values of x0 to x31, and the address of the next instruction
pub record Registers : Type 0 where
  pub x : List ℕ
  pub pc : ℕ

-- the value of a register: x0 reads 0, and so does what is past x31
abbrev pub register : Registers → ℕ → ℕ
register regs n = if n == 0 then 0 else slice_index regs.x n

-- the registers with one set: a write to x0 does nothing
abbrev pub with_register : Registers → ℕ → ℕ → Registers
with_register regs n value = if n == 0 then regs else record regs { x = slice_set regs.x n value }
