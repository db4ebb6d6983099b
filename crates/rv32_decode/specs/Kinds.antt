-- The instruction table by opcode: what the bits that are left choose.
use Rattle.std.specs.Prelude.{ℕ, ◌/◌, ◌%◌, ◌^◌, ◌==◌, if◌then◌else◌, Option, None, Some}
use Rattle.tk_base.specs.declared.access.Width.TheVariants.{Byte, Half, Word}
use Rattle.rv32_model.specs.declared.instr.Op.TheVariants as ops
use Rattle.rv32_model.specs.declared.instr.BranchTest.TheVariants.{Beq, Bne, Blt, Bge, Bltu, Bgeu}
use Rattle.rv32_model.specs.declared.instr.LoadKind.TheVariants.{Lb, Lh, Lw, Lbu, Lhu}
use Rattle.rv32_model.specs.declared.instr.Instr.{Instr}
use Rattle.rv32_model.specs.declared.instr.Instr.TheVariants as instrs
use Rattle.rv32_model.specs.Instructions.{rd_of, rs1_of, imm_i, branch, load, store, op_imm, shift_imm, op_reg}

abbrev pub funct3_of : ℕ → ℕ
funct3_of w = w / 2 ^ 12 % 2 ^ 3

abbrev pub funct7_of : ℕ → ℕ
funct7_of w = w / 2 ^ 25 % 2 ^ 7

-- the instruction of a word of each opcode, by funct3 and funct7
abbrev pub jalr_of : ℕ → ℕ → Option Instr
jalr_of w f3 = if f3 == 0 then Some (instrs.Jalr (rd_of w) (rs1_of w) (imm_i w)) else None

abbrev pub branch_of : ℕ → ℕ → Option Instr
branch_of w f3 =
    if f3 == 0 then Some (branch Beq w)
    else if f3 == 1 then Some (branch Bne w)
    else if f3 == 4 then Some (branch Blt w)
    else if f3 == 5 then Some (branch Bge w)
    else if f3 == 6 then Some (branch Bltu w)
    else if f3 == 7 then Some (branch Bgeu w)
    else None

abbrev pub load_of : ℕ → ℕ → Option Instr
load_of w f3 =
    if f3 == 0 then Some (load Lb w)
    else if f3 == 1 then Some (load Lh w)
    else if f3 == 2 then Some (load Lw w)
    else if f3 == 4 then Some (load Lbu w)
    else if f3 == 5 then Some (load Lhu w)
    else None

abbrev pub store_of : ℕ → ℕ → Option Instr
store_of w f3 =
    if f3 == 0 then Some (store Byte w)
    else if f3 == 1 then Some (store Half w)
    else if f3 == 2 then Some (store Word w)
    else None

-- shifts, of funct3 1 and 5, have a funct7; for the others these bits belong to the immediate
abbrev pub shift_left_of : ℕ → ℕ → Option Instr
shift_left_of w f7 =
    if f7 == 0x00 then Some (shift_imm ops.Sll w)
    else None

abbrev pub shift_right_of : ℕ → ℕ → Option Instr
shift_right_of w f7 =
    if f7 == 0x00 then Some (shift_imm ops.Srl w)
    else if f7 == 0x20 then Some (shift_imm ops.Sra w)
    else None

abbrev pub op_imm_of : ℕ → ℕ → ℕ → Option Instr
op_imm_of w f3 f7 =
    if f3 == 0 then Some (op_imm ops.Add w)
    else if f3 == 1 then shift_left_of w f7
    else if f3 == 2 then Some (op_imm ops.Slt w)
    else if f3 == 3 then Some (op_imm ops.Sltu w)
    else if f3 == 4 then Some (op_imm ops.Xor w)
    else if f3 == 5 then shift_right_of w f7
    else if f3 == 6 then Some (op_imm ops.Or w)
    else if f3 == 7 then Some (op_imm ops.And w)
    else None

abbrev pub base_of : ℕ → ℕ → Option Instr
base_of w f3 =
    if f3 == 0 then Some (op_reg ops.Add w)
    else if f3 == 1 then Some (op_reg ops.Sll w)
    else if f3 == 2 then Some (op_reg ops.Slt w)
    else if f3 == 3 then Some (op_reg ops.Sltu w)
    else if f3 == 4 then Some (op_reg ops.Xor w)
    else if f3 == 5 then Some (op_reg ops.Srl w)
    else if f3 == 6 then Some (op_reg ops.Or w)
    else if f3 == 7 then Some (op_reg ops.And w)
    else None

abbrev pub other_of : ℕ → ℕ → Option Instr
other_of w f3 =
    if f3 == 0 then Some (op_reg ops.Sub w)
    else if f3 == 5 then Some (op_reg ops.Sra w)
    else None

abbrev pub multiply_of : ℕ → ℕ → Option Instr
multiply_of w f3 =
    if f3 == 0 then Some (op_reg ops.Mul w)
    else if f3 == 1 then Some (op_reg ops.Mulh w)
    else if f3 == 2 then Some (op_reg ops.Mulhsu w)
    else if f3 == 3 then Some (op_reg ops.Mulhu w)
    else if f3 == 4 then Some (op_reg ops.Div w)
    else if f3 == 5 then Some (op_reg ops.Divu w)
    else if f3 == 6 then Some (op_reg ops.Rem w)
    else if f3 == 7 then Some (op_reg ops.Remu w)
    else None

abbrev pub op_reg_of : ℕ → ℕ → ℕ → Option Instr
op_reg_of w f3 f7 =
    if f7 == 0x00 then base_of w f3
    else if f7 == 0x20 then other_of w f3
    else if f7 == 0x01 then multiply_of w f3
    else None

abbrev pub fence_of : ℕ → ℕ → Option Instr
fence_of w f3 = if f3 == 0 then Some instrs.Fence else None

abbrev pub system_of : ℕ → Option Instr
system_of w = if w == 0x00000073 then Some instrs.Ecall else if w == 0x00100073 then Some instrs.Ebreak else None
