-- What the instructions of the programs mean (RISC-V unprivileged manual, "Integer Computational Instructions",
-- "Control Transfer Instructions" and "Load and Store Instructions"; li and mv from "RISC-V Assembly Programmer's
-- Handbook"), and that their words are decoded to that.
use Rattle.std.specs.Prelude.{◌≡◌, ℕ, ◌*◌, ◌/◌, ◌%◌, ◌^◌, Option, None, Some, IfSome}
use Rattle.tk_base.specs.declared.access.Width.TheVariants as widths
use Rattle.rv32_model.specs.declared.instr.Op.TheVariants as ops
use Rattle.rv32_model.specs.declared.instr.BranchTest.TheVariants as tests
use Rattle.rv32_model.specs.declared.instr.Instr.{Instr}
use Rattle.rv32_model.specs.declared.instr.Instr.TheVariants as instrs
use Rattle.rv32_model.specs.Instructions.{decoding, sign_extended}
use Rattle.image_make.specs.declared.assembler.Instruction.{Instruction}
use Rattle.image_make.specs.declared.assembler.Instruction.TheVariants.{Word, Addi, Li, Mv, Bne, Jalr, Sw, Ecall}
use Rattle.image_make.specs.Encoding.{instruction_word, register_number}

-- a number that is given modulo 2^12, with its sign
abbrev pub signed_number : ℕ → ℕ
signed_number number = sign_extended 12 (number % 2 ^ 12)

-- the offset of a branch, which is given modulo 2^13 and has no bit 0, with its sign
abbrev pub signed_offset : ℕ → ℕ
signed_offset offset = sign_extended 13 (offset / 2 % 2 ^ 12 * 2)

-- what an instruction means; a word of data means none
abbrev pub meant : Instruction → Option Instr
meant (Word word) = None
meant (Addi rd rs1 imm) =
    Some (instrs.OpImm ops.Add (register_number rd) (register_number rs1) (signed_number imm))
meant (Li rd imm) = Some (instrs.OpImm ops.Add (register_number rd) 0 (signed_number imm))
meant (Mv rd rs1) = Some (instrs.OpImm ops.Add (register_number rd) (register_number rs1) 0)
meant (Bne rs1 rs2 offset) =
    Some (instrs.Branch tests.Bne (register_number rs1) (register_number rs2) (signed_offset offset))
meant (Jalr rd rs1 offset) = Some (instrs.Jalr (register_number rd) (register_number rs1) (signed_number offset))
meant (Sw rs2 rs1 offset) =
    Some (instrs.Store widths.Word (register_number rs1) (register_number rs2) (signed_number offset))
meant Ecall = Some instrs.Ecall

-- a word is decoded to what an instruction means
abbrev pub IsWordOf : Instruction → ℕ → Type 0
IsWordOf i word = IfSome (meant i) (λ instr. decoding word ≡ Some instr)

-- so is the word of each instruction
abbrev pub WordsAreDecoded : Type 0
WordsAreDecoded = (i : Instruction) → IsWordOf i (instruction_word i)
