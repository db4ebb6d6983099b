-- From the masks of the table to the fields of a word, and so what the table gives at each opcode.
use Rattle.std.proofs.Common.{◌≡◌, ℕ, zero, suc, ◌+◌, ◌*◌, ◌/◌, ◌%◌, ◌^◌, ◌<◌, ◌==◌, ◌&&◌, nat_lt, Bool, true, false}
use Rattle.std.proofs.Common.{cond, List, [], ◌∷◌, Option, None, Some, ◌≢◌, ◌⊎◌, inl, inr, refl, sym, ◌∙◌, ap, subst}
use Rattle.std.proofs.Common.{arith, if◌then◌else◌}
use Rattle.std.specs.Prelude.{bit_and, find}
use Rattle.std.specs.Option.{option_map}
use Rattle.std.specs.List.{list_all}
use Rattle.std.proofs.lemmas.Nat.{and_block, and_mask, shr_split, pow_pos}
use Rattle.std.proofs.lemmas.Bool.Decides.{nat_tests, eqb_tells}
use Rattle.std.proofs.lemmas.Bool.{ne_eqb}
use Rattle.rv32_model.specs.declared.instr.Instr.{Instr}
use Rattle.rv32_model.specs.declared.instr.Instr.TheVariants as instrs
use Rattle.rv32_model.specs.Instructions.{InstrRow, row_fits, instruction_table, decoding, rd_of, imm_u, imm_j}
use Rattle.rv32_decode.specs.Kinds.{funct3_of, funct7_of, jalr_of, branch_of, load_of, store_of, op_imm_of, op_reg_of}
use Rattle.rv32_decode.specs.Kinds.{fence_of, system_of}

-- a mask of two blocks of bits takes the bits of both
block : (w k m n : ℕ) → m < 2 ^ k → bit_and w (n * 2 ^ k + m) ≡ bit_and (w / 2 ^ k) n * 2 ^ k + bit_and (w % 2 ^ k) m
block w k m n h =
    ap (λ x. bit_and x (n * 2 ^ k + m)) (sym (shr_split w k))
    ∙ and_block k (w / 2 ^ k) n (w % 2 ^ k) m (omega (arith, pow_pos k)) h

pub mask1 : (w : ℕ) → bit_and w 0x7f ≡ w % 128
mask1 w = and_mask w 7

pub mask3 : (w : ℕ) → bit_and w 0x707f ≡ w % 128 + funct3_of w * 2 ^ 12
mask3 w =
    let a : bit_and w 0x707f ≡ bit_and (w / 2 ^ 12) 7 * 2 ^ 12 + bit_and (w % 2 ^ 12) 0x7f =
    block w 12 0x7f 7 (omega arith) in
    let b : bit_and (w / 2 ^ 12) 7 ≡ w / 2 ^ 12 % 2 ^ 3 = and_mask (w / 2 ^ 12) 3 in
    let c : bit_and (w % 2 ^ 12) 0x7f ≡ w % 2 ^ 12 % 2 ^ 7 = and_mask (w % 2 ^ 12) 7 in
    omega arith

pub mask7 : (w : ℕ) → bit_and w 0xfe00707f ≡ w % 128 + funct3_of w * 2 ^ 12 + funct7_of w * 2 ^ 25
mask7 w =
    let a : bit_and w 0xfe00707f ≡ bit_and (w / 2 ^ 25) 127 * 2 ^ 25 + bit_and (w % 2 ^ 25) 0x707f =
    block w 25 0x707f 127 (omega arith) in
    let b : bit_and (w / 2 ^ 25) 127 ≡ w / 2 ^ 25 % 2 ^ 7 = and_mask (w / 2 ^ 25) 7 in
    let c : bit_and (w % 2 ^ 25) 0x707f ≡ w % 2 ^ 25 % 128 + funct3_of (w % 2 ^ 25) * 2 ^ 12 = mask3 (w % 2 ^ 25) in
    omega arith

pub mask_word : (w : ℕ) → w < 2 ^ 32 → bit_and w 0xffffffff ≡ w
mask_word w h =
    let a : bit_and w 0xffffffff ≡ w % 2 ^ 32 = and_mask w 32 in
    omega arith

-- equal sums of fields are equal fields
test3 : (a b v : ℕ) → a < 128 → v % 4096 < 128 → (a + b * 4096 == v) ≡ ((a == v % 128) && (b == v / 4096))
test3 a b v h k = grind (arith, nat_tests)

test7 : (a b c v : ℕ) → a < 128 → b < 8 → v % 2 ^ 12 < 128 → v % 2 ^ 25 < 2 ^ 15
    → (a + b * 4096 + c * 2 ^ 25 == v) ≡ ((a == v % 128) && ((b == v / 4096 % 8) && (c == v / 2 ^ 25)))
test7 a b c v h i k l = grind (arith, nat_tests)

-- whether a row of a known mask fits the fields of a word
fields_fit : ℕ → ℕ → ℕ → ℕ → InstrRow → Bool
fields_fit w opcode f3 f7 r =
    if r.mask == 0x7f then opcode == r.value
    else if r.mask == 0x707f then (opcode == r.value % 128) && (f3 == r.value / 4096)
    else if r.mask == 0xfe00707f
    then (opcode == r.value % 128) && ((f3 == r.value / 4096 % 8) && (f7 == r.value / 2 ^ 25))
    else (opcode == r.value % 128) && (w == r.value)

-- rows whose value has no bit outside of their mask
is_known : InstrRow → Bool
is_known r =
    if r.mask == 0x7f then true
    else if r.mask == 0x707f then nat_lt (r.value % 4096) 128
    else if r.mask == 0xfe00707f then nat_lt (r.value % 2 ^ 12) 128 && nat_lt (r.value % 2 ^ 25) (2 ^ 15)
    else r.mask == 0xffffffff

test_word : (w v : ℕ) → (w == v) ≡ ((w % 128 == v % 128) && (w == v))
test_word w v = grind (arith, nat_tests)

by_mask1 : (w v : ℕ) (form : ℕ → Instr)
    → (bit_and w 0x7f == v)
    ≡ fields_fit w (w % 128) (funct3_of w) (funct7_of w) (record { mask = 0x7f; value = v; form = form })
unfolding fields_fit
by_mask1 w v form = ap (λ x. x == v) (mask1 w)

by_mask3 : (w v : ℕ) (form : ℕ → Instr) → is_known (record { mask = 0x707f; value = v; form = form }) ≡ true
    → (bit_and w 0x707f == v)
    ≡ fields_fit w (w % 128) (funct3_of w) (funct7_of w) (record { mask = 0x707f; value = v; form = form })
unfolding fields_fit is_known
by_mask3 w v form k =
    let lt : v % 4096 < 128 = grind (arith, nat_tests) in
    ap (λ x. x == v) (mask3 w) ∙ test3 (w % 128) (funct3_of w) v (omega arith) lt

by_mask7 : (w v : ℕ) (form : ℕ → Instr) → is_known (record { mask = 0xfe00707f; value = v; form = form }) ≡ true
    → (bit_and w 0xfe00707f == v)
    ≡ fields_fit w (w % 128) (funct3_of w) (funct7_of w) (record { mask = 0xfe00707f; value = v; form = form })
unfolding fields_fit is_known
by_mask7 w v form k =
    let lt : (v % 2 ^ 12 < 128) × (v % 2 ^ 25 < 2 ^ 15) = grind (arith, nat_tests) in
    ap (λ x. x == v) (mask7 w) ∙ test7 (w % 128) (funct3_of w) (funct7_of w) v (omega arith) (omega arith) lt.0 lt.1

by_mask_word : (w v : ℕ) (form : ℕ → Instr) → w < 2 ^ 32
    → (bit_and w 0xffffffff == v)
    ≡ fields_fit w (w % 128) (funct3_of w) (funct7_of w) (record { mask = 0xffffffff; value = v; form = form })
unfolding fields_fit
by_mask_word w v form h = ap (λ x. x == v) (mask_word w h) ∙ test_word w v

is_one_of : (m : ℕ) → Type 0
is_one_of m = (m ≡ 0x7f) ⊎ ((m ≡ 0x707f) ⊎ ((m ≡ 0xfe00707f) ⊎ (m ≡ 0xffffffff)))

known_mask : (m v : ℕ) (form : ℕ → Instr) → is_known (record { mask = m; value = v; form = form }) ≡ true → is_one_of m
unfolding is_one_of is_known
known_mask m v form k = grind (arith, nat_tests)

Fields : ℕ → ℕ → ℕ → (ℕ → Instr) → Type 0
Fields w m v form = is_known (record { mask = m; value = v; form = form }) ≡ true
    → (bit_and w m == v)
    ≡ fields_fit w (w % 128) (funct3_of w) (funct7_of w) (record { mask = m; value = v; form = form })

by_mask : (w m v : ℕ) (form : ℕ → Instr) → w < 2 ^ 32 → is_known (record { mask = m; value = v; form = form }) ≡ true
    → (bit_and w m == v)
    ≡ fields_fit w (w % 128) (funct3_of w) (funct7_of w) (record { mask = m; value = v; form = form })
unfolding Fields is_one_of
by_mask w m v form h k =
    elim (known_mask m v form k) [
      | inl e ↦ subst (λ x. Fields w x v form) (sym e) (λ _. by_mask1 w v form) k
      | inr e ↦ elim e [
        | inl e ↦ subst (λ x. Fields w x v form) (sym e) (by_mask3 w v form) k
        | inr e ↦ elim e [
          | inl e ↦ subst (λ x. Fields w x v form) (sym e) (by_mask7 w v form) k
          | inr e ↦ subst (λ x. Fields w x v form) (sym e) (λ _. by_mask_word w v form h) k
        ]
      ]
    ]

find_fields : (w : ℕ) (rows : List InstrRow) → w < 2 ^ 32 → list_all is_known rows ≡ true
    → find (row_fits w) rows ≡ find (fields_fit w (w % 128) (funct3_of w) (funct7_of w)) rows
find_fields w [] h k = refl
find_fields w (r ∷ rows) h k =
    let parts : (is_known r ≡ true) × (list_all is_known rows ≡ true) = grind (arith, nat_tests) in
    let now : row_fits w r ≡ fields_fit w (w % 128) (funct3_of w) (funct7_of w) r =
    by_mask w r.mask r.value r.form h parts.0 in
    let rest : find (row_fits w) rows ≡ find (fields_fit w (w % 128) (funct3_of w) (funct7_of w)) rows =
    find_fields w rows h parts.1 in
    ap (λ b. cond b (Some r) (find (row_fits w) rows)) now
    ∙ ap (λ o. cond (fields_fit w (w % 128) (funct3_of w) (funct7_of w) r) (Some r) o) rest

all_known : list_all is_known instruction_table ≡ true
unfolding is_known instruction_table
all_known = refl

-- what the table gives, by the fields
by_fields : ℕ → ℕ → ℕ → ℕ → Option Instr
by_fields w opcode f3 f7 = option_map (λ r. r.form w) (find (fields_fit w opcode f3 f7) instruction_table)

decoding_fields : (w : ℕ) → w < 2 ^ 32 → decoding w ≡ by_fields w (w % 128) (funct3_of w) (funct7_of w)
unfolding decoding by_fields
decoding_fields w h = ap (λ o. option_map (λ r. r.form w) o) (find_fields w instruction_table h all_known)

-- a fact of each number below 8
below8 : (P : ℕ → Type 0) → P 0 → P 1 → P 2 → P 3 → P 4 → P 5 → P 6 → P 7 → (n : ℕ) → n < 8 → P n
below8 P a b c d e f g h zero l = a
below8 P a b c d e f g h (suc zero) l = b
below8 P a b c d e f g h (suc (suc zero)) l = c
below8 P a b c d e f g h (suc (suc (suc zero))) l = d
below8 P a b c d e f g h (suc (suc (suc (suc zero)))) l = e
below8 P a b c d e f g h (suc (suc (suc (suc (suc zero))))) l = f
below8 P a b c d e f g h (suc (suc (suc (suc (suc (suc zero)))))) l = g
below8 P a b c d e f g h (suc (suc (suc (suc (suc (suc (suc zero))))))) l = h
below8 P a b c d e f g h (suc (suc (suc (suc (suc (suc (suc (suc n)))))))) l = absurd (omega arith)

-- a fact of each number, by whether it is 0, 0x20 or 1
by_funct7s : (P : ℕ → Type 0) → P 0 → P 0x20 → P 1
    → ((n : ℕ) → (n == 0) ≡ false → (n == 0x20) ≡ false → (n == 1) ≡ false → P n) → (n : ℕ) → P n
by_funct7s P a b c d n =
    elim (eqb_tells n 0) [
      | inl e ↦ subst P (sym e.1) a
      | inr e ↦ elim (eqb_tells n 0x20) [
        | inl f ↦ subst P (sym f.1) b
        | inr f ↦ elim (eqb_tells n 1) [
          | inl g ↦ subst P (sym g.1) c
          | inr g ↦ d n e.0 f.0 g.0
        ]
      ]
    ]

at_opcode : (w o : ℕ) → w < 2 ^ 32 → w % 128 ≡ o → decoding w ≡ by_fields w o (funct3_of w) (funct7_of w)
at_opcode w o h e = decoding_fields w h ∙ ap (λ x. by_fields w x (funct3_of w) (funct7_of w)) e

pub lui_row : (w : ℕ) → w < 2 ^ 32 → w % 128 ≡ 0x37 → decoding w ≡ Some (instrs.Lui (rd_of w) (imm_u w))
unfolding by_fields fields_fit instruction_table
lui_row w h e = at_opcode w 0x37 h e

pub auipc_row : (w : ℕ) → w < 2 ^ 32 → w % 128 ≡ 0x17 → decoding w ≡ Some (instrs.Auipc (rd_of w) (imm_u w))
unfolding by_fields fields_fit instruction_table
auipc_row w h e = at_opcode w 0x17 h e

pub jal_row : (w : ℕ) → w < 2 ^ 32 → w % 128 ≡ 0x6f → decoding w ≡ Some (instrs.Jal (rd_of w) (imm_j w))
unfolding by_fields fields_fit instruction_table
jal_row w h e = at_opcode w 0x6f h e

pub jalr_row : (w : ℕ) → w < 2 ^ 32 → w % 128 ≡ 0x67 → decoding w ≡ jalr_of w (funct3_of w)
unfolding by_fields fields_fit instruction_table
jalr_row w h e =
    at_opcode w 0x67 h e
    ∙ below8 (λ f3. by_fields w 0x67 f3 (funct7_of w) ≡ jalr_of w f3) refl refl refl refl refl refl refl refl
    (funct3_of w) (omega arith)

pub branch_rows : (w : ℕ) → w < 2 ^ 32 → w % 128 ≡ 0x63 → decoding w ≡ branch_of w (funct3_of w)
unfolding by_fields fields_fit instruction_table
branch_rows w h e =
    at_opcode w 0x63 h e
    ∙ below8 (λ f3. by_fields w 0x63 f3 (funct7_of w) ≡ branch_of w f3) refl refl refl refl refl refl refl refl
    (funct3_of w) (omega arith)

pub load_rows : (w : ℕ) → w < 2 ^ 32 → w % 128 ≡ 0x03 → decoding w ≡ load_of w (funct3_of w)
unfolding by_fields fields_fit instruction_table
load_rows w h e =
    at_opcode w 0x03 h e
    ∙ below8 (λ f3. by_fields w 0x03 f3 (funct7_of w) ≡ load_of w f3) refl refl refl refl refl refl refl refl
    (funct3_of w) (omega arith)

pub store_rows : (w : ℕ) → w < 2 ^ 32 → w % 128 ≡ 0x23 → decoding w ≡ store_of w (funct3_of w)
unfolding by_fields fields_fit instruction_table
store_rows w h e =
    at_opcode w 0x23 h e
    ∙ below8 (λ f3. by_fields w 0x23 f3 (funct7_of w) ≡ store_of w f3) refl refl refl refl refl refl refl refl
    (funct3_of w) (omega arith)

op_imm_shift : (w f7 f3 : ℕ) → f3 < 8 → by_fields w 0x13 f3 f7 ≡ op_imm_of w f3 f7
unfolding by_fields fields_fit instruction_table
op_imm_shift w f7 = by_funct7s (λ n. (f3 : ℕ) → f3 < 8 → by_fields w 0x13 f3 n ≡ op_imm_of w f3 n)
    (below8 (λ f3. by_fields w 0x13 f3 0 ≡ op_imm_of w f3 0) refl refl refl refl refl refl refl refl)
    (below8 (λ f3. by_fields w 0x13 f3 0x20 ≡ op_imm_of w f3 0x20) refl refl refl refl refl refl refl refl)
    (below8 (λ f3. by_fields w 0x13 f3 1 ≡ op_imm_of w f3 1) refl refl refl refl refl refl refl refl)
    (λ n a b c. below8 (λ f3. by_fields w 0x13 f3 n ≡ op_imm_of w f3 n) refl (simp a) refl refl refl (simp (a, b)) refl
    refl)
    f7

pub op_imm_rows : (w : ℕ) → w < 2 ^ 32 → w % 128 ≡ 0x13 → decoding w ≡ op_imm_of w (funct3_of w) (funct7_of w)
op_imm_rows w h e = at_opcode w 0x13 h e ∙ op_imm_shift w (funct7_of w) (funct3_of w) (omega arith)

op_reg_each : (w f7 f3 : ℕ) → f3 < 8 → by_fields w 0x33 f3 f7 ≡ op_reg_of w f3 f7
unfolding by_fields fields_fit instruction_table
op_reg_each w f7 = by_funct7s (λ n. (f3 : ℕ) → f3 < 8 → by_fields w 0x33 f3 n ≡ op_reg_of w f3 n)
    (below8 (λ f3. by_fields w 0x33 f3 0 ≡ op_reg_of w f3 0) refl refl refl refl refl refl refl refl)
    (below8 (λ f3. by_fields w 0x33 f3 0x20 ≡ op_reg_of w f3 0x20) refl refl refl refl refl refl refl refl)
    (below8 (λ f3. by_fields w 0x33 f3 1 ≡ op_reg_of w f3 1) refl refl refl refl refl refl refl refl)
    (λ n a b c. below8 (λ f3. by_fields w 0x33 f3 n ≡ op_reg_of w f3 n) (simp (a, b, c)) (simp (a, b, c))
    (simp (a, b, c)) (simp (a, b, c)) (simp (a, b, c)) (simp (a, b, c)) (simp (a, b, c)) (simp (a, b, c)))
    f7

pub op_reg_rows : (w : ℕ) → w < 2 ^ 32 → w % 128 ≡ 0x33 → decoding w ≡ op_reg_of w (funct3_of w) (funct7_of w)
op_reg_rows w h e = at_opcode w 0x33 h e ∙ op_reg_each w (funct7_of w) (funct3_of w) (omega arith)

pub fence_row : (w : ℕ) → w < 2 ^ 32 → w % 128 ≡ 0x0f → decoding w ≡ fence_of w (funct3_of w)
unfolding by_fields fields_fit instruction_table
fence_row w h e =
    at_opcode w 0x0f h e
    ∙ below8 (λ f3. by_fields w 0x0f f3 (funct7_of w) ≡ fence_of w f3) refl refl refl refl refl refl refl refl
    (funct3_of w) (omega arith)

system_by : (w f3 f7 : ℕ)
    → by_fields w 0x73 f3 f7
    ≡ (if w == 0x00000073 then Some instrs.Ecall else if w == 0x00100073 then Some instrs.Ebreak else None)
unfolding by_fields fields_fit instruction_table
system_by w f3 f7 =
    elim (eqb_tells w 0x00000073) [
      | inl e ↦ simp e.0
      | inr e ↦ elim (eqb_tells w 0x00100073) [ inl f ↦ simp (e.0, f.0) | inr f ↦ simp (e.0, f.0) ]
    ]

pub system_rows : (w : ℕ) → w < 2 ^ 32 → w % 128 ≡ 0x73 → decoding w ≡ system_of w
system_rows w h e = at_opcode w 0x73 h e ∙ system_by w (funct3_of w) (funct7_of w)

no_opcode : (w o f3 f7 : ℕ) → (o == 0x37) ≡ false → (o == 0x17) ≡ false → (o == 0x6f) ≡ false → (o == 0x67) ≡ false
    → (o == 0x63) ≡ false → (o == 0x03) ≡ false → (o == 0x23) ≡ false → (o == 0x13) ≡ false → (o == 0x33) ≡ false
    → (o == 0x0f) ≡ false → (o == 0x73) ≡ false → by_fields w o f3 f7 ≡ None
unfolding by_fields fields_fit instruction_table
no_opcode w o f3 f7 a b c d e f g h i j k = simp (a, b, c, d, e, f, g, h, i, j, k)

pub no_row : (w : ℕ) → w < 2 ^ 32 → w % 128 ≢ 0x37 → w % 128 ≢ 0x17 → w % 128 ≢ 0x6f → w % 128 ≢ 0x67 → w % 128 ≢ 0x63
    → w % 128 ≢ 0x03 → w % 128 ≢ 0x23 → w % 128 ≢ 0x13 → w % 128 ≢ 0x33 → w % 128 ≢ 0x0f → w % 128 ≢ 0x73
    → decoding w ≡ None
no_row w l a b c d e f g h i j k =
    decoding_fields w l
    ∙ no_opcode w (w % 128) (funct3_of w) (funct7_of w) (ne_eqb _ _ a) (ne_eqb _ _ b) (ne_eqb _ _ c) (ne_eqb _ _ d)
    (ne_eqb _ _ e) (ne_eqb _ _ f) (ne_eqb _ _ g) (ne_eqb _ _ h) (ne_eqb _ _ i) (ne_eqb _ _ j) (ne_eqb _ _ k)

pub ruleset by_opcodes = (
  lui_row,
  auipc_row,
  jal_row,
  jalr_row,
  branch_rows,
  load_rows,
  store_rows,
  op_imm_rows,
  op_reg_rows,
  fence_row,
  system_rows,
  no_row,
)
