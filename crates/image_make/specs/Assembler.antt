-- The words of instructions, of registers by their numbers (RISC-V unprivileged manual, "Base Instruction Formats",
-- "Immediate Encoding Variants" and the table "RV32I Base Instruction Set"; the registers' names and li from "RISC-V
-- Assembly Programmer's Handbook").
use Rattle.std.specs.Prelude.{ℕ, ◌+◌, ◌*◌, ◌/◌, ◌%◌, ◌^◌}

-- register x0, which is 0
abbrev pub x0 : ℕ
x0 = 0

-- x1, the return address
abbrev pub ra : ℕ
ra = 1

-- x5, a temporary
abbrev pub t0 : ℕ
t0 = 5

-- x8, which is saved
abbrev pub s0 : ℕ
s0 = 8

-- x9, which is saved
abbrev pub s1 : ℕ
s1 = 9

-- x10, the first argument
abbrev pub a0 : ℕ
a0 = 10

-- x11, the second argument
abbrev pub a1 : ℕ
a1 = 11

-- x12, the third argument
abbrev pub a2 : ℕ
a2 = 12

-- x13, the fourth argument
abbrev pub a3 : ℕ
a3 = 13

-- x14, the fifth argument
abbrev pub a4 : ℕ
a4 = 14

-- imm[11:0] rs1 funct3 rd opcode, where funct3 is 0
unfoldable pub i_type : ℕ → ℕ → ℕ → ℕ → ℕ
i_type opcode rd rs1 imm = imm % 2 ^ 12 * 2 ^ 20 + rs1 * 2 ^ 15 + rd * 2 ^ 7 + opcode

-- addi, which adds a number to a register
abbrev pub addi : ℕ → ℕ → ℕ → ℕ
addi rd rs1 imm = i_type 0x13 rd rs1 imm

-- li, which sets a register to a number
abbrev pub li : ℕ → ℕ → ℕ
li rd imm = addi rd x0 imm

-- jalr, which goes on at an address in a register, and keeps the address of the next instruction
abbrev pub jalr : ℕ → ℕ → ℕ → ℕ
jalr rd rs1 imm = i_type 0x67 rd rs1 imm

-- bne, which branches where two registers differ: imm[12] imm[10:5] rs2 rs1 funct3 imm[4:1] imm[11] opcode
unfoldable pub bne : ℕ → ℕ → ℕ → ℕ
bne rs1 rs2 imm =
    imm / 2 ^ 12 % 2 * 2 ^ 31 + imm / 2 ^ 5 % 2 ^ 6 * 2 ^ 25 + rs2 * 2 ^ 20 + rs1 * 2 ^ 15 + 1 * 2 ^ 12
    + imm / 2 % 2 ^ 4 * 2 ^ 8 + imm / 2 ^ 11 % 2 * 2 ^ 7 + 0x63

-- ecall, a system call
abbrev pub ecall : ℕ
ecall = 0x73
