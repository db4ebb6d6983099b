-- The compressed instructions, 16 bits long: RISC-V unprivileged manual, "C Standard Extension for
-- Compressed Instructions", the listings of RV32C without floating point. Each means the instruction of
-- 32 bits that it expands to.
use Rattle.std.specs.Prelude.{ℕ, ◌+◌, ◌*◌, ◌%◌, ◌^◌, ◌==◌, ◌&&◌, not, Bool, true, List, [], ◌∷◌, Option, find}
use Rattle.std.specs.Option.{option_map}
use Rattle.tk_base.specs.declared.access.Width.TheVariants.{Word}
use Rattle.rv32_model.specs.declared.instr.Op.{Op}
use Rattle.rv32_model.specs.declared.instr.Op.TheVariants as ops
use Rattle.rv32_model.specs.declared.instr.BranchTest.{BranchTest}
use Rattle.rv32_model.specs.declared.instr.BranchTest.TheVariants.{Beq, Bne}
use Rattle.rv32_model.specs.declared.instr.LoadKind.TheVariants.{Lw}
use Rattle.rv32_model.specs.declared.instr.Instr.{Instr}
use Rattle.rv32_model.specs.declared.instr.Instr.TheVariants as instrs
use Rattle.rv32_model.specs.Instructions.{bits_of, sign_extended, rd_of}

-- The register fields ("Compressed Instruction Formats"): 5 bits name any register, as rd_of; 3 bits
-- name x8 to x15.
abbrev pub rs2_full : ℕ → ℕ
rs2_full w = bits_of w 2 5

-- the short register in bits 4 to 2: rd' of the CIW and CL formats, rs2' of the others
abbrev pub rd_short : ℕ → ℕ
rd_short w = 8 + bits_of w 2 3

-- the short register in bits 9 to 7: rs1', which is rd' too where the result goes there
abbrev pub rs1_short : ℕ → ℕ
rs1_short w = 8 + bits_of w 7 3

-- The immediates, from the highest bit of the field down. An offset of a load or store and a stack
-- pointer's increment are unsigned, but for C.ADDI16SP.
abbrev pub imm_addi4spn : ℕ → ℕ
imm_addi4spn w = bits_of w 11 2 * 2 ^ 4 + bits_of w 7 4 * 2 ^ 6 + bits_of w 6 1 * 2 ^ 2 + bits_of w 5 1 * 2 ^ 3

-- the offset of C.LW and C.SW, in words
abbrev pub imm_word : ℕ → ℕ
imm_word w = bits_of w 10 3 * 2 ^ 3 + bits_of w 6 1 * 2 ^ 2 + bits_of w 5 1 * 2 ^ 6

-- the immediate of C.ADDI, C.LI and C.ANDI, with its sign
abbrev pub imm_ci : ℕ → ℕ
imm_ci w = sign_extended 6 (bits_of w 12 1 * 2 ^ 5 + bits_of w 2 5)

-- the immediate of C.ADDI16SP, with its sign
abbrev pub imm_addi16sp : ℕ → ℕ
imm_addi16sp w =
    sign_extended 10 (bits_of w 12 1 * 2 ^ 9 + bits_of w 6 1 * 2 ^ 4 + bits_of w 5 1 * 2 ^ 6
    + bits_of w 3 2 * 2 ^ 7 + bits_of w 2 1 * 2 ^ 5)

-- the immediate of C.LUI, with its sign
abbrev pub imm_lui : ℕ → ℕ
imm_lui w = sign_extended 18 (bits_of w 12 1 * 2 ^ 17 + bits_of w 2 5 * 2 ^ 12)

-- the offset of the CJ format: C.J and C.JAL
abbrev pub imm_cj : ℕ → ℕ
imm_cj w =
    sign_extended 12 (bits_of w 12 1 * 2 ^ 11 + bits_of w 11 1 * 2 ^ 4 + bits_of w 9 2 * 2 ^ 8 + bits_of w 8 1 * 2 ^ 10
    + bits_of w 7 1 * 2 ^ 6 + bits_of w 6 1 * 2 ^ 7 + bits_of w 3 3 * 2 + bits_of w 2 1 * 2 ^ 5)

-- the offset of the CB format: C.BEQZ and C.BNEZ
abbrev pub imm_cb : ℕ → ℕ
imm_cb w =
    sign_extended 9 (bits_of w 12 1 * 2 ^ 8 + bits_of w 10 2 * 2 ^ 3 + bits_of w 5 2 * 2 ^ 6 + bits_of w 3 2 * 2
    + bits_of w 2 1 * 2 ^ 5)

-- the offset of C.LWSP
abbrev pub imm_lwsp : ℕ → ℕ
imm_lwsp w = bits_of w 12 1 * 2 ^ 5 + bits_of w 4 3 * 2 ^ 2 + bits_of w 2 2 * 2 ^ 6

-- the offset of C.SWSP
abbrev pub imm_swsp : ℕ → ℕ
imm_swsp w = bits_of w 9 4 * 2 ^ 2 + bits_of w 7 2 * 2 ^ 6

-- a row fits the parcels of its quadrant, bits 1 and 0, and of its bits 15 to 13 that pass its test
pub record CompressedRow : Type 0 where
  pub quadrant : ℕ
  pub top : ℕ
  pub when : ℕ → Bool
  pub form : ℕ → Instr

-- whether a parcel fits a row
abbrev pub fits_parcel : ℕ → CompressedRow → Bool
fits_parcel w r = (w % 4 == r.quadrant) && ((bits_of w 13 3 == r.top) && r.when w)

-- a row of the table
abbrev pub compressed_row : ℕ → ℕ → (ℕ → Bool) → (ℕ → Instr) → CompressedRow
compressed_row quadrant top when form = record { quadrant = quadrant; top = top; when = when; form = form }

-- a test that each parcel passes
abbrev pub any : ℕ → Bool
any w = true

-- quadrant 1, top bits 4: what bits 11 and 10 choose, and bits 6 and 5 among registers. A shift of 32 bits keeps bit 12
-- clear.
abbrev pub is_shift : ℕ → ℕ → Bool
is_shift kind w = (bits_of w 10 2 == kind) && (bits_of w 12 1 == 0)

-- C.SUB, C.XOR, C.OR or C.AND: bits 11 and 10 are 3, bit 12 is clear, and bits 6 and 5 tell which
abbrev pub is_registers : ℕ → ℕ → Bool
is_registers kind w = (bits_of w 10 2 == 3) && ((bits_of w 12 1 == 0) && (bits_of w 5 2 == kind))

-- quadrant 2, top bits 4: by bit 12 and whether the register fields are 0. C.JR and C.JALR: rs2 is 0, and rs1 is not
abbrev pub has_rs1_alone : ℕ → ℕ → Bool
has_rs1_alone bit_12 w = (bits_of w 12 1 == bit_12) && ((rs2_full w == 0) && not (rd_of w == 0))

-- C.MV and C.ADD: rs2 is not 0
abbrev pub has_rs2 : ℕ → ℕ → Bool
has_rs2 bit_12 w = (bits_of w 12 1 == bit_12) && not (rs2_full w == 0)

-- C.EBREAK: bit 12 is set, and both register fields are 0
abbrev pub is_ebreak : ℕ → Bool
is_ebreak w = (bits_of w 12 1 == 1) && ((rs2_full w == 0) && (rd_of w == 0))

-- a shift of a short register by bits 6 to 2
abbrev pub shift_short : Op → ℕ → Instr
shift_short op w = instrs.OpImm op (rs1_short w) (rs1_short w) (rs2_full w)

-- an operation on two short registers, the first of which gets the result
abbrev pub registers_short : Op → ℕ → Instr
registers_short op w = instrs.Op op (rs1_short w) (rs1_short w) (rd_short w)

-- a branch that compares a short register with x0
abbrev pub branch_short : BranchTest → ℕ → Instr
branch_short test w = instrs.Branch test (rs1_short w) 0 (imm_cb w)

-- The table of RV32C ("RVC Instruction Set Listings"). A parcel that no row fits is illegal. Of quadrant 1 and top bits
-- 3, C.ADDI16SP is that whose rd is 2, and C.LUI each other; of top bits 4, C.ANDI is that whose bits 11 and 10 are 2.
unfoldable pub compressed_table : List CompressedRow
compressed_table =
    compressed_row 0 0 (λ w. not (imm_addi4spn w == 0)) (λ w. instrs.OpImm ops.Add (rd_short w) 2 (imm_addi4spn w))
    ∷ compressed_row 0 2 any (λ w. instrs.Load Lw (rd_short w) (rs1_short w) (imm_word w))
    ∷ compressed_row 0 6 any (λ w. instrs.Store Word (rs1_short w) (rd_short w) (imm_word w))
    ∷ compressed_row 1 0 any (λ w. instrs.OpImm ops.Add (rd_of w) (rd_of w) (imm_ci w))
    ∷ compressed_row 1 1 any (λ w. instrs.Jal 1 (imm_cj w))
    ∷ compressed_row 1 2 any (λ w. instrs.OpImm ops.Add (rd_of w) 0 (imm_ci w))
    ∷ compressed_row 1 3 (λ w. (rd_of w == 2) && not (imm_addi16sp w == 0))
    (λ w. instrs.OpImm ops.Add 2 2 (imm_addi16sp w))
    ∷ compressed_row 1 3 (λ w. not (rd_of w == 2) && not (imm_lui w == 0)) (λ w. instrs.Lui (rd_of w) (imm_lui w))
    ∷ compressed_row 1 4 (is_shift 0) (shift_short ops.Srl)
    ∷ compressed_row 1 4 (is_shift 1) (shift_short ops.Sra)
    ∷ compressed_row 1 4 (λ w. bits_of w 10 2 == 2) (λ w. instrs.OpImm ops.And (rs1_short w) (rs1_short w) (imm_ci w))
    ∷ compressed_row 1 4 (is_registers 0) (registers_short ops.Sub)
    ∷ compressed_row 1 4 (is_registers 1) (registers_short ops.Xor)
    ∷ compressed_row 1 4 (is_registers 2) (registers_short ops.Or)
    ∷ compressed_row 1 4 (is_registers 3) (registers_short ops.And)
    ∷ compressed_row 1 5 any (λ w. instrs.Jal 0 (imm_cj w))
    ∷ compressed_row 1 6 any (branch_short Beq)
    ∷ compressed_row 1 7 any (branch_short Bne)
    ∷ compressed_row 2 0 (λ w. bits_of w 12 1 == 0) (λ w. instrs.OpImm ops.Sll (rd_of w) (rd_of w) (rs2_full w))
    ∷ compressed_row 2 2 (λ w. not (rd_of w == 0)) (λ w. instrs.Load Lw (rd_of w) 2 (imm_lwsp w))
    ∷ compressed_row 2 4 (has_rs1_alone 0) (λ w. instrs.Jalr 0 (rd_of w) 0)
    ∷ compressed_row 2 4 (has_rs2 0) (λ w. instrs.Op ops.Add (rd_of w) 0 (rs2_full w))
    ∷ compressed_row 2 4 is_ebreak (λ _. instrs.Ebreak)
    ∷ compressed_row 2 4 (has_rs1_alone 1) (λ w. instrs.Jalr 1 (rd_of w) 0)
    ∷ compressed_row 2 4 (has_rs2 1) (λ w. instrs.Op ops.Add (rd_of w) (rd_of w) (rs2_full w))
    ∷ compressed_row 2 6 any (λ w. instrs.Store Word 2 (rs2_full w) (imm_swsp w))
    ∷ []

-- the expansion of a parcel; none where no row fits
unfoldable pub decoding16 : ℕ → Option Instr
decoding16 w = option_map (λ r. r.form w) (find (fits_parcel w) compressed_table)
