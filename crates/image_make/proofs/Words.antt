-- The words of the instructions are decoded to what they mean: by the fields of each format. A word is a sum of its
-- fields at their places, each below its limit, so what all formats share is read back from it once (`HasFields`); then
-- the row of the decoder's table computes. Offsets that stand in parts are put together again.
use Rattle.std.proofs.Common.{◌≡◌, ℕ, ◌+◌, ◌*◌, ◌/◌, ◌%◌, ◌^◌, ◌<◌, Some, refl, ap, ap₂, subst, ◌∙◌}
use Rattle.std.proofs.Common.{arith}
use Rattle.tk_base.specs.declared.access.Width.TheVariants as widths
use Rattle.rv32_model.specs.declared.instr.Op.TheVariants as ops
use Rattle.rv32_model.specs.declared.instr.BranchTest.TheVariants as tests
use Rattle.rv32_model.specs.declared.instr.Instr.TheVariants as instrs
use Rattle.rv32_model.specs.Instructions.{bits_of, decoding, imm_b, imm_i, imm_s, rs1_of, rs2_of, sign_extended}
use Rattle.rv32_decode.specs.Kinds.{branch_of, funct3_of, funct7_of, jalr_of, op_imm_of, store_of}
use Rattle.rv32_decode.proofs.ByOpcode.{branch_rows, jalr_row, op_imm_rows, store_rows, system_rows}
use Rattle.image_make.specs.declared.assembler.Register.{Register}
use Rattle.image_make.specs.declared.assembler.Register.TheVariants.{Zero, Ra, T0, S0, S1, A0, A1, A2, A3, A4}
use Rattle.image_make.specs.declared.assembler.Instruction.TheVariants.{Word, Addi, Li, Mv, Bne, Jalr, Sw, Ecall}
use Rattle.image_make.specs.Assembler.{bne, i_type}
use Rattle.image_make.specs.Encoding.{register_number, sw}
use Rattle.image_make.specs.Decoded.{WordsAreDecoded, signed_number, signed_offset}

number_below : (r : Register) → register_number r < 32
number_below Zero = omega arith
number_below Ra = omega arith
number_below T0 = omega arith
number_below S0 = omega arith
number_below S1 = omega arith
number_below A0 = omega arith
number_below A1 = omega arith
number_below A2 = omega arith
number_below A3 = omega arith
number_below A4 = omega arith

-- the fields that all formats share: opcode, funct3 and the first source register, of what stands below and above them
record HasFields (w o f s l h : ℕ) : Type 0 where
  below : w < 2 ^ 32
  opcode : w % 128 ≡ o
  funct3 : funct3_of w ≡ f
  rs1 : rs1_of w ≡ s
  low : bits_of w 7 5 ≡ l
  high : bits_of w 20 12 ≡ h

fields : (high rs1 funct3 low opcode : ℕ) → high < 2 ^ 12 → rs1 < 32 → funct3 < 8 → low < 32 → opcode < 128
    → HasFields (high * 2 ^ 20 + rs1 * 2 ^ 15 + funct3 * 2 ^ 12 + low * 2 ^ 7 + opcode) opcode funct3 rs1 low high
fields high rs1 funct3 low opcode h s f l o = record {
  below = omega arith;
  opcode = omega arith;
  funct3 = omega arith;
  rs1 = omega arith;
  low = omega arith;
  high = omega arith;
}

i_fields : (opcode : ℕ) (rd rs1 : Register) (imm : ℕ) → opcode < 128
    → HasFields (i_type opcode (register_number rd) (register_number rs1) imm) opcode 0 (register_number rs1)
    (register_number rd) (imm % 2 ^ 12)
unfolding i_type
i_fields opcode rd rs1 imm o =
    subst (λ (w : ℕ). HasFields w opcode 0 (register_number rs1) (register_number rd) (imm % 2 ^ 12)) (omega arith)
    (fields (imm % 2 ^ 12) (register_number rs1) 0 (register_number rd) opcode (omega arith) (number_below rs1)
    (omega arith) (number_below rd) o)

add_decoded : (rd rs1 : Register) (imm : ℕ)
    → decoding (i_type 0x13 (register_number rd) (register_number rs1) imm)
    ≡ Some (instrs.OpImm ops.Add (register_number rd) (register_number rs1) (signed_number imm))
add_decoded rd rs1 imm =
    let w = i_type 0x13 (register_number rd) (register_number rs1) imm in
    let h = i_fields 0x13 rd rs1 imm (omega arith) in
    op_imm_rows w h.below h.opcode ∙ ap (λ (f3 : ℕ). op_imm_of w f3 (funct7_of w)) h.funct3
    ∙ ap (λ (d : ℕ). Some (instrs.OpImm ops.Add d (rs1_of w) (imm_i w))) h.low
    ∙ ap₂ (λ (s i : ℕ). Some (instrs.OpImm ops.Add (register_number rd) s (sign_extended 12 i))) h.rs1 h.high

jalr_decoded : (rd rs1 : Register) (imm : ℕ)
    → decoding (i_type 0x67 (register_number rd) (register_number rs1) imm)
    ≡ Some (instrs.Jalr (register_number rd) (register_number rs1) (signed_number imm))
jalr_decoded rd rs1 imm =
    let w = i_type 0x67 (register_number rd) (register_number rs1) imm in
    let h = i_fields 0x67 rd rs1 imm (omega arith) in
    jalr_row w h.below h.opcode ∙ ap (jalr_of w) h.funct3
    ∙ ap (λ (d : ℕ). Some (instrs.Jalr d (rs1_of w) (imm_i w))) h.low
    ∙ ap₂ (λ (s i : ℕ). Some (instrs.Jalr (register_number rd) s (sign_extended 12 i))) h.rs1 h.high

-- a store: the offset stands in two parts
s_fields : (rs2 rs1 : Register) (imm : ℕ)
    → HasFields (sw (register_number rs2) (register_number rs1) imm) 0x23 2 (register_number rs1) (imm % 2 ^ 5)
    (imm / 2 ^ 5 % 2 ^ 7 * 2 ^ 5 + register_number rs2)
unfolding sw
s_fields rs2 rs1 imm =
    subst (λ (w : ℕ). HasFields w 0x23 2 (register_number rs1) (imm % 2 ^ 5)
    (imm / 2 ^ 5 % 2 ^ 7 * 2 ^ 5 + register_number rs2)) (omega arith)
    (fields (imm / 2 ^ 5 % 2 ^ 7 * 2 ^ 5 + register_number rs2) (register_number rs1) 2 (imm % 2 ^ 5) 0x23
    (omega (arith, number_below rs2)) (number_below rs1) (omega arith) (omega arith) (omega arith))

upper : (w a t : ℕ) → bits_of w 20 12 ≡ a * 2 ^ 5 + t → t < 32 → (bits_of w 25 7 ≡ a) × (rs2_of w ≡ t)
upper w a t is small = (omega (arith, is), omega (arith, is))

store_decoded : (rs2 rs1 : Register) (imm : ℕ)
    → decoding (sw (register_number rs2) (register_number rs1) imm)
    ≡ Some (instrs.Store widths.Word (register_number rs1) (register_number rs2) (signed_number imm))
store_decoded rs2 rs1 imm =
    let w = sw (register_number rs2) (register_number rs1) imm in
    let h = s_fields rs2 rs1 imm in
    let parts = upper w (imm / 2 ^ 5 % 2 ^ 7) (register_number rs2) h.high (number_below rs2) in
    store_rows w h.below h.opcode ∙ ap (store_of w) h.funct3
    ∙ ap₂ (λ (s t : ℕ). Some (instrs.Store widths.Word s t (imm_s w))) h.rs1 parts.1
    ∙ ap₂ (λ (a b : ℕ). Some (instrs.Store widths.Word (register_number rs1) (register_number rs2)
    (sign_extended 12 (a * 2 ^ 5 + b)))) parts.0 h.low
    ∙ ap (λ (i : ℕ). Some (instrs.Store widths.Word (register_number rs1) (register_number rs2) (sign_extended 12 i)))
    (joined imm)
  where
    joined : (n : ℕ) → n / 2 ^ 5 % 2 ^ 7 * 2 ^ 5 + n % 2 ^ 5 ≡ n % 2 ^ 12
    joined n = omega arith

-- a branch: in four parts
b_fields : (rs1 rs2 : Register) (imm : ℕ)
    → HasFields (bne (register_number rs1) (register_number rs2) imm) 0x63 1 (register_number rs1)
    (imm / 2 % 2 ^ 4 * 2 + imm / 2 ^ 11 % 2)
    ((imm / 2 ^ 12 % 2 * 2 ^ 6 + imm / 2 ^ 5 % 2 ^ 6) * 2 ^ 5 + register_number rs2)
unfolding bne
b_fields rs1 rs2 imm =
    by_parts (imm / 2 ^ 12 % 2) (imm / 2 ^ 5 % 2 ^ 6) (imm / 2 % 2 ^ 4) (imm / 2 ^ 11 % 2) (omega arith) (omega arith)
    (omega arith) (omega arith)
  where
    by_parts : (a b c d : ℕ) → a < 2 → b < 2 ^ 6 → c < 2 ^ 4 → d < 2
        → HasFields (a * 2 ^ 31 + b * 2 ^ 25 + register_number rs2 * 2 ^ 20 + register_number rs1 * 2 ^ 15
        + 1 * 2 ^ 12 + c * 2 ^ 8 + d * 2 ^ 7 + 0x63) 0x63 1 (register_number rs1) (c * 2 + d)
        ((a * 2 ^ 6 + b) * 2 ^ 5 + register_number rs2)
    by_parts a b c d ha hb hc hd =
        subst (λ (w : ℕ). HasFields w 0x63 1 (register_number rs1) (c * 2 + d)
        ((a * 2 ^ 6 + b) * 2 ^ 5 + register_number rs2)) (omega arith)
        (fields ((a * 2 ^ 6 + b) * 2 ^ 5 + register_number rs2) (register_number rs1) 1 (c * 2 + d) 0x63
        (omega (arith, number_below rs2)) (number_below rs1) (omega arith) (omega arith) (omega arith))

branch_parts : (w a b c d : ℕ) → bits_of w 25 7 ≡ a * 2 ^ 6 + b → bits_of w 7 5 ≡ c * 2 + d → a < 2 → b < 2 ^ 6
    → c < 2 ^ 4 → d < 2
    → bits_of w 31 1 * 2 ^ 12 + bits_of w 7 1 * 2 ^ 11 + bits_of w 25 6 * 2 ^ 5 + bits_of w 8 4 * 2
    ≡ a * 2 ^ 12 + d * 2 ^ 11 + b * 2 ^ 5 + c * 2
branch_parts w a b c d high low ha hb hc hd =
    let top : bits_of w 31 1 ≡ a = omega (arith, high) in
    let next : bits_of w 25 6 ≡ b = omega (arith, high) in
    let last : bits_of w 7 1 ≡ d = omega (arith, low) in
    let others : bits_of w 8 4 ≡ c = omega (arith, low) in
    omega (arith, top, next, last, others)

branch_decoded : (rs1 rs2 : Register) (imm : ℕ)
    → decoding (bne (register_number rs1) (register_number rs2) imm)
    ≡ Some (instrs.Branch tests.Bne (register_number rs1) (register_number rs2) (signed_offset imm))
branch_decoded rs1 rs2 imm =
    let w = bne (register_number rs1) (register_number rs2) imm in
    let h = b_fields rs1 rs2 imm in
    let parts = upper w (imm / 2 ^ 12 % 2 * 2 ^ 6 + imm / 2 ^ 5 % 2 ^ 6) (register_number rs2) h.high
    (number_below rs2) in
    branch_rows w h.below h.opcode ∙ ap (branch_of w) h.funct3
    ∙ ap₂ (λ (s t : ℕ). Some (instrs.Branch tests.Bne s t (imm_b w))) h.rs1 parts.1
    ∙ ap (λ (i : ℕ). Some (instrs.Branch tests.Bne (register_number rs1) (register_number rs2) (sign_extended 13 i)))
    (branch_parts w (imm / 2 ^ 12 % 2) (imm / 2 ^ 5 % 2 ^ 6) (imm / 2 % 2 ^ 4) (imm / 2 ^ 11 % 2) parts.0 h.low
    (omega arith) (omega arith) (omega arith) (omega arith) ∙ joined imm)
  where
    joined : (n : ℕ) → n / 2 ^ 12 % 2 * 2 ^ 12 + n / 2 ^ 11 % 2 * 2 ^ 11 + n / 2 ^ 5 % 2 ^ 6 * 2 ^ 5
        + n / 2 % 2 ^ 4 * 2 ≡ n / 2 % 2 ^ 12 * 2
    joined n = omega arith

pub words_are_decoded : WordsAreDecoded
words_are_decoded (Word word) = tt
words_are_decoded (Addi rd rs1 imm) = add_decoded rd rs1 imm
words_are_decoded (Li rd imm) = add_decoded rd Zero imm
words_are_decoded (Mv rd rs1) = add_decoded rd rs1 0
words_are_decoded (Bne rs1 rs2 offset) = branch_decoded rs1 rs2 offset
words_are_decoded (Jalr rd rs1 offset) = jalr_decoded rd rs1 offset
words_are_decoded (Sw rs2 rs1 offset) = store_decoded rs2 rs1 offset
words_are_decoded Ecall = system_rows 0x73 (omega arith) refl
