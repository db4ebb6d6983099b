-- The compressed table by quadrant and bits 15 to 13: what the bits that are left choose.
use Rattle.std.specs.Prelude.{ℕ, ◌==◌, ◌&&◌, not, if◌then◌else◌, Option, None, Some}
use Rattle.tk_base.specs.declared.access.Width.TheVariants.{Word}
use Rattle.rv32_model.specs.declared.instr.Op.TheVariants as ops
use Rattle.rv32_model.specs.declared.instr.BranchTest.TheVariants.{Beq, Bne}
use Rattle.rv32_model.specs.declared.instr.LoadKind.TheVariants.{Lw}
use Rattle.rv32_model.specs.declared.instr.Instr.{Instr}
use Rattle.rv32_model.specs.declared.instr.Instr.TheVariants as instrs
use Rattle.rv32_model.specs.Instructions.{bits_of, rd_of}
use Rattle.rv32_model.specs.Compressed.{rs2_full, rd_short, rs1_short, imm_addi4spn, imm_word, imm_ci, imm_addi16sp}
use Rattle.rv32_model.specs.Compressed.{imm_lui, imm_cj, imm_lwsp, imm_swsp, has_rs1_alone, has_rs2, is_shift}
use Rattle.rv32_model.specs.Compressed.{is_registers, is_ebreak, shift_short}
use Rattle.rv32_model.specs.Compressed.{registers_short, branch_short}

abbrev pub addi4spn_of : ℕ → Option Instr
addi4spn_of w = if not (imm_addi4spn w == 0) then Some (instrs.OpImm ops.Add (rd_short w) 2 (imm_addi4spn w)) else None

abbrev pub quadrant0_of : ℕ → ℕ → Option Instr
quadrant0_of w top =
    if top == 0 then addi4spn_of w
    else if top == 2 then Some (instrs.Load Lw (rd_short w) (rs1_short w) (imm_word w))
    else if top == 6 then Some (instrs.Store Word (rs1_short w) (rd_short w) (imm_word w))
    else None

abbrev pub upper_of : ℕ → Option Instr
upper_of w =
    if (rd_of w == 2) && not (imm_addi16sp w == 0) then Some (instrs.OpImm ops.Add 2 2 (imm_addi16sp w))
    else if not (rd_of w == 2) && not (imm_lui w == 0) then Some (instrs.Lui (rd_of w) (imm_lui w))
    else None

abbrev pub andi_short : ℕ → Instr
andi_short w = instrs.OpImm ops.And (rs1_short w) (rs1_short w) (imm_ci w)

abbrev pub arithmetic_of : ℕ → Option Instr
arithmetic_of w =
    if is_shift 0 w then Some (shift_short ops.Srl w)
    else if is_shift 1 w then Some (shift_short ops.Sra w)
    else if bits_of w 10 2 == 2 then Some (andi_short w)
    else if is_registers 0 w then Some (registers_short ops.Sub w)
    else if is_registers 1 w then Some (registers_short ops.Xor w)
    else if is_registers 2 w then Some (registers_short ops.Or w)
    else if is_registers 3 w then Some (registers_short ops.And w)
    else None

abbrev pub quadrant1_of : ℕ → ℕ → Option Instr
quadrant1_of w top =
    if top == 0 then Some (instrs.OpImm ops.Add (rd_of w) (rd_of w) (imm_ci w))
    else if top == 1 then Some (instrs.Jal 1 (imm_cj w))
    else if top == 2 then Some (instrs.OpImm ops.Add (rd_of w) 0 (imm_ci w))
    else if top == 3 then upper_of w
    else if top == 4 then arithmetic_of w
    else if top == 5 then Some (instrs.Jal 0 (imm_cj w))
    else if top == 6 then Some (branch_short Beq w)
    else if top == 7 then Some (branch_short Bne w)
    else None

abbrev pub slli_of : ℕ → Option Instr
slli_of w = if bits_of w 12 1 == 0 then Some (instrs.OpImm ops.Sll (rd_of w) (rd_of w) (rs2_full w)) else None

abbrev pub lwsp_of : ℕ → Option Instr
lwsp_of w = if not (rd_of w == 0) then Some (instrs.Load Lw (rd_of w) 2 (imm_lwsp w)) else None

abbrev pub moves_of : ℕ → Option Instr
moves_of w =
    if has_rs1_alone 0 w then Some (instrs.Jalr 0 (rd_of w) 0)
    else if has_rs2 0 w then Some (instrs.Op ops.Add (rd_of w) 0 (rs2_full w))
    else if is_ebreak w then Some instrs.Ebreak
    else if has_rs1_alone 1 w then Some (instrs.Jalr 1 (rd_of w) 0)
    else if has_rs2 1 w then Some (instrs.Op ops.Add (rd_of w) (rd_of w) (rs2_full w))
    else None

abbrev pub quadrant2_of : ℕ → ℕ → Option Instr
quadrant2_of w top =
    if top == 0 then slli_of w
    else if top == 2 then lwsp_of w
    else if top == 4 then moves_of w
    else if top == 6 then Some (instrs.Store Word 2 (rs2_full w) (imm_swsp w))
    else None
