-- The instruction table: RISC-V unprivileged manual, "RV32/64G Instruction Set Listings", RV32I and M.
use Rattle.std.specs.Prelude.{ℕ, ◌+◌, ◌-◌, ◌*◌, ◌/◌, ◌%◌, ◌^◌, ◌==◌, Bool, nat_lt, if◌then◌else◌, List, [], ◌∷◌, Option}
use Rattle.std.specs.Prelude.{bit_and, find}
use Rattle.std.specs.Option.{option_map}
use Rattle.tk_base.specs.declared.access.Width.{Width}
use Rattle.tk_base.specs.declared.access.Width.TheVariants.{Byte, Half, Word}
use Rattle.rv32_model.specs.declared.instr.Op.{Op}
use Rattle.rv32_model.specs.declared.instr.Op.TheVariants as ops
use Rattle.rv32_model.specs.declared.instr.BranchTest.{BranchTest}
use Rattle.rv32_model.specs.declared.instr.BranchTest.TheVariants.{Beq, Bne, Blt, Bge, Bltu, Bgeu}
use Rattle.rv32_model.specs.declared.instr.LoadKind.{LoadKind}
use Rattle.rv32_model.specs.declared.instr.LoadKind.TheVariants.{Lb, Lh, Lw, Lbu, Lhu}
use Rattle.rv32_model.specs.declared.instr.Instr.{Instr}
use Rattle.rv32_model.specs.declared.instr.Instr.TheVariants as instrs

-- the n bits of w from bit low on, as a number
abbrev pub bits_of : ℕ → ℕ → ℕ → ℕ
bits_of w low n = w / 2 ^ low % 2 ^ n

-- a number of k bits, sign-extended to 32
abbrev pub sign_extended : ℕ → ℕ → ℕ
sign_extended k x = if nat_lt x (2 ^ (k - 1)) then x else x + (2 ^ 32 - 2 ^ k)

-- the fields of an instruction of 32 bits ("Base Instruction Formats")
abbrev pub rd_of : ℕ → ℕ
rd_of w = bits_of w 7 5

-- the number of the first source register
abbrev pub rs1_of : ℕ → ℕ
rs1_of w = bits_of w 15 5

-- the number of the second source register
abbrev pub rs2_of : ℕ → ℕ
rs2_of w = bits_of w 20 5

-- the immediates, of whose bits the manual's figure "Types of immediate produced by RISC-V
-- instructions" says where they stand
abbrev pub imm_i : ℕ → ℕ
imm_i w = sign_extended 12 (bits_of w 20 12)

-- the immediate of the S format
abbrev pub imm_s : ℕ → ℕ
imm_s w = sign_extended 12 (bits_of w 25 7 * 2 ^ 5 + bits_of w 7 5)

-- the immediate of the B format
abbrev pub imm_b : ℕ → ℕ
imm_b w =
    sign_extended 13 (bits_of w 31 1 * 2 ^ 12 + bits_of w 7 1 * 2 ^ 11 + bits_of w 25 6 * 2 ^ 5 + bits_of w 8 4 * 2)

-- the immediate of the U format, in the upper 20 bits
abbrev pub imm_u : ℕ → ℕ
imm_u w = bits_of w 12 20 * 4096

-- the immediate of the J format
abbrev pub imm_j : ℕ → ℕ
imm_j w =
    sign_extended 21 (bits_of w 31 1 * 2 ^ 20 + bits_of w 12 8 * 2 ^ 12 + bits_of w 20 1 * 2 ^ 11 + bits_of w 21 10 * 2)

-- a row fits the words whose bits under the mask are those of its value
pub record InstrRow : Type 0 where
  pub mask : ℕ
  pub value : ℕ
  pub form : ℕ → Instr

-- whether a word fits a row
abbrev pub row_fits : ℕ → InstrRow → Bool
row_fits w r = bit_and w r.mask == r.value

-- rows by their opcode, bits 6 to 0; with funct3, bits 14 to 12; with funct7, bits 31 to 25; and by
-- the whole word
abbrev pub by_opcode : ℕ → (ℕ → Instr) → InstrRow
by_opcode opcode form = record { mask = 0x7f; value = opcode; form = form }

-- a row that is known by its opcode and funct3
abbrev pub by_funct3 : ℕ → ℕ → (ℕ → Instr) → InstrRow
by_funct3 opcode funct3 form = record { mask = 0x707f; value = opcode + funct3 * 2 ^ 12; form = form }

-- a row that is known by its opcode, funct3 and funct7
abbrev pub by_funct7 : ℕ → ℕ → ℕ → (ℕ → Instr) → InstrRow
by_funct7 opcode funct3 funct7 form =
    record { mask = 0xfe00707f; value = opcode + funct3 * 2 ^ 12 + funct7 * 2 ^ 25; form = form }

-- a row that one word fits alone
abbrev pub by_word : ℕ → Instr → InstrRow
by_word word instr = record { mask = 0xffffffff; value = word; form = λ _. instr }

-- the forms of the kinds of rows
abbrev pub branch : BranchTest → ℕ → Instr
branch test w = instrs.Branch test (rs1_of w) (rs2_of w) (imm_b w)

-- a load of a kind
abbrev pub load : LoadKind → ℕ → Instr
load kind w = instrs.Load kind (rd_of w) (rs1_of w) (imm_i w)

-- a store of a width
abbrev pub store : Width → ℕ → Instr
store width w = instrs.Store width (rs1_of w) (rs2_of w) (imm_s w)

-- an operation on a register and an immediate
abbrev pub op_imm : Op → ℕ → Instr
op_imm op w = instrs.OpImm op (rd_of w) (rs1_of w) (imm_i w)

-- a shift by an immediate: the distance is where rs2 is
abbrev pub shift_imm : Op → ℕ → Instr
shift_imm op w = instrs.OpImm op (rd_of w) (rs1_of w) (rs2_of w)

-- an operation on two registers
abbrev pub op_reg : Op → ℕ → Instr
op_reg op w = instrs.Op op (rd_of w) (rs1_of w) (rs2_of w)

-- The table of RV32I and M. A word that no row fits is illegal.
unfoldable pub instruction_table : List InstrRow
instruction_table =
    by_opcode 0x37 (λ w. instrs.Lui (rd_of w) (imm_u w))
    ∷ by_opcode 0x17 (λ w. instrs.Auipc (rd_of w) (imm_u w))
    ∷ by_opcode 0x6f (λ w. instrs.Jal (rd_of w) (imm_j w))
    ∷ by_funct3 0x67 0 (λ w. instrs.Jalr (rd_of w) (rs1_of w) (imm_i w))
    ∷ by_funct3 0x63 0 (branch Beq)
    ∷ by_funct3 0x63 1 (branch Bne)
    ∷ by_funct3 0x63 4 (branch Blt)
    ∷ by_funct3 0x63 5 (branch Bge)
    ∷ by_funct3 0x63 6 (branch Bltu)
    ∷ by_funct3 0x63 7 (branch Bgeu)
    ∷ by_funct3 0x03 0 (load Lb)
    ∷ by_funct3 0x03 1 (load Lh)
    ∷ by_funct3 0x03 2 (load Lw)
    ∷ by_funct3 0x03 4 (load Lbu)
    ∷ by_funct3 0x03 5 (load Lhu)
    ∷ by_funct3 0x23 0 (store Byte)
    ∷ by_funct3 0x23 1 (store Half)
    ∷ by_funct3 0x23 2 (store Word)
    ∷ by_funct3 0x13 0 (op_imm ops.Add)
    ∷ by_funct3 0x13 2 (op_imm ops.Slt)
    ∷ by_funct3 0x13 3 (op_imm ops.Sltu)
    ∷ by_funct3 0x13 4 (op_imm ops.Xor)
    ∷ by_funct3 0x13 6 (op_imm ops.Or)
    ∷ by_funct3 0x13 7 (op_imm ops.And)
    ∷ by_funct7 0x13 1 0x00 (shift_imm ops.Sll)
    ∷ by_funct7 0x13 5 0x00 (shift_imm ops.Srl)
    ∷ by_funct7 0x13 5 0x20 (shift_imm ops.Sra)
    ∷ by_funct7 0x33 0 0x00 (op_reg ops.Add)
    ∷ by_funct7 0x33 0 0x20 (op_reg ops.Sub)
    ∷ by_funct7 0x33 1 0x00 (op_reg ops.Sll)
    ∷ by_funct7 0x33 2 0x00 (op_reg ops.Slt)
    ∷ by_funct7 0x33 3 0x00 (op_reg ops.Sltu)
    ∷ by_funct7 0x33 4 0x00 (op_reg ops.Xor)
    ∷ by_funct7 0x33 5 0x00 (op_reg ops.Srl)
    ∷ by_funct7 0x33 5 0x20 (op_reg ops.Sra)
    ∷ by_funct7 0x33 6 0x00 (op_reg ops.Or)
    ∷ by_funct7 0x33 7 0x00 (op_reg ops.And)
    ∷ by_funct7 0x33 0 0x01 (op_reg ops.Mul)
    ∷ by_funct7 0x33 1 0x01 (op_reg ops.Mulh)
    ∷ by_funct7 0x33 2 0x01 (op_reg ops.Mulhsu)
    ∷ by_funct7 0x33 3 0x01 (op_reg ops.Mulhu)
    ∷ by_funct7 0x33 4 0x01 (op_reg ops.Div)
    ∷ by_funct7 0x33 5 0x01 (op_reg ops.Divu)
    ∷ by_funct7 0x33 6 0x01 (op_reg ops.Rem)
    ∷ by_funct7 0x33 7 0x01 (op_reg ops.Remu)
    ∷ by_funct3 0x0f 0 (λ _. instrs.Fence)
    ∷ by_word 0x00000073 instrs.Ecall
    ∷ by_word 0x00100073 instrs.Ebreak
    ∷ []

-- the instruction of a word; none where no row fits
unfoldable pub decoding : ℕ → Option Instr
decoding w = option_map (λ r. r.form w) (find (row_fits w) instruction_table)
