-- The words of the instructions as the assembler of this crate has them (RISC-V unprivileged manual, "Base Instruction
-- Formats", "Immediate Encoding Variants" and the table "RV32I Base Instruction Set"; mv from "RISC-V Assembly
-- Programmer's Handbook").
use Rattle.std.specs.Prelude.{ℕ, ◌+◌, ◌*◌, ◌/◌, ◌%◌, ◌^◌, List, flat_map}
use Rattle.std.specs.Int.{to_le_bytes, w32}
use Rattle.image_make.specs.declared.assembler.Register.{Register}
use Rattle.image_make.specs.declared.assembler.Register.TheVariants.{Zero, Ra, T0, S0, S1, A0, A1, A2, A3, A4}
use Rattle.image_make.specs.declared.assembler.Instruction.{Instruction}
use Rattle.image_make.specs.declared.assembler.Instruction.TheVariants.{Word, Addi, Li, Mv, Bne, Jalr, Sw, Ecall}
use Rattle.image_make.specs.Assembler.{a0, a1, a2, a3, a4, ra, s0, s1, t0, x0}
use Rattle.image_make.specs.Assembler.{addi, bne, ecall, jalr, li}

-- the number of a register (the manual's table of the calling convention)
abbrev pub register_number : Register → ℕ
register_number Zero = x0
register_number Ra = ra
register_number T0 = t0
register_number S0 = s0
register_number S1 = s1
register_number A0 = a0
register_number A1 = a1
register_number A2 = a2
register_number A3 = a3
register_number A4 = a4

-- sw, which stores a word: imm[11:5] rs2 rs1 funct3 imm[4:0] opcode
unfoldable pub sw : ℕ → ℕ → ℕ → ℕ
sw rs2 rs1 imm =
    imm / 2 ^ 5 % 2 ^ 7 * 2 ^ 25 + rs2 * 2 ^ 20 + rs1 * 2 ^ 15 + 2 * 2 ^ 12 + imm % 2 ^ 5 * 2 ^ 7 + 0x23

-- the word of an instruction
abbrev pub instruction_word : Instruction → ℕ
instruction_word (Word word) = word
instruction_word (Addi rd rs1 imm) = addi (register_number rd) (register_number rs1) imm
instruction_word (Li rd imm) = li (register_number rd) imm
instruction_word (Mv rd rs1) = addi (register_number rd) (register_number rs1) 0
instruction_word (Bne rs1 rs2 offset) = bne (register_number rs1) (register_number rs2) offset
instruction_word (Jalr rd rs1 imm) = jalr (register_number rd) (register_number rs1) imm
instruction_word (Sw rs2 rs1 offset) = sw (register_number rs2) (register_number rs1) offset
instruction_word Ecall = ecall

-- the bytes of instructions, of each word the lowest one first
abbrev pub code_bytes : List Instruction → List ℕ
code_bytes code = flat_map (λ instruction. to_le_bytes w32 (instruction_word instruction)) code
