-- No parcel fits two rows: of each two rows the quadrants or the top bits differ, or no parcel passes both tests.
use Rattle.std.proofs.Common.{◌≡◌, ℕ, ◌≤◌, ◌%◌, ◌==◌, ◌&&◌, not, Bool, true, false, List, [], ◌∷◌, length, refl}
use Rattle.std.proofs.Common.{arith}
use Rattle.std.specs.Prelude.{filter}
use Rattle.std.proofs.lemmas.Bool.Decides.{nat_tests}
use Rattle.rv32_model.specs.Instructions.{bits_of, rd_of}
use Rattle.rv32_model.specs.Compressed.{CompressedRow, compressed_table, fits_parcel, has_rs1_alone, has_rs2}
use Rattle.rv32_model.specs.Compressed.{imm_addi16sp, imm_lui, is_ebreak, is_registers, is_shift}
use Rattle.rv32_model.specs.Laws.{NoParcelFitsTwoRows}
use Rattle.rv32_model.proofs.Rows.{one_or_rest}

-- whether two rows are of one quadrant and have the same top bits
abbrev has_same_key : CompressedRow → CompressedRow → Bool
has_same_key r s = (r.quadrant == s.quadrant) && (r.top == s.top)

-- no parcel passes the tests of both
abbrev AreApart : CompressedRow → CompressedRow → Type 0
AreApart r s = (w : ℕ) → r.when w ≡ true → s.when w ≡ false

-- beside what else is so, two rows with the same key are apart
abbrev ApartIf : Bool → CompressedRow → CompressedRow → Type 0 → Type 0
ApartIf true r s others = AreApart r s × others
ApartIf false r s others = others

-- so is a row of each after it
abbrev ApartOfAll : CompressedRow → List CompressedRow → Type 0
ApartOfAll r [] = Unit {0}
ApartOfAll r (s ∷ rows) = ApartIf (has_same_key r s) r s (ApartOfAll r rows)

-- and each row
abbrev AllApart : List CompressedRow → Type 0
AllApart [] = Unit {0}
AllApart (r ∷ rows) = ApartOfAll r rows × AllApart rows

differ : (x y q t a b : ℕ) (p n : Bool) → (q == a && t == b) ≡ false → ((x == q) && ((y == t) && p)) ≡ true
    → ((x == a) && ((y == b) && n)) ≡ false
differ x y q t a b p n apart fits = grind (arith, nat_tests)

passes : (x y q t : ℕ) (p : Bool) → ((x == q) && ((y == t) && p)) ≡ true → p ≡ true
passes x y q t p fits = grind (arith, nat_tests)

fails : (x y q t : ℕ) (p : Bool) → p ≡ false → ((x == q) && ((y == t) && p)) ≡ false
fails x y q t p fits = grind (arith, nat_tests)

module _ (w : ℕ) where
  none_fits : (r : CompressedRow) (rows : List CompressedRow) → ApartOfAll r rows → fits_parcel w r ≡ true
      → filter (fits_parcel w) rows ≡ []
  none_fits r [] apart fits = refl
  none_fits r (s ∷ rows) apart fits = by_key (has_same_key r s) refl apart (λ later. none_fits r rows later fits)
    where
      by_key : (b : Bool) → has_same_key r s ≡ b → ApartIf b r s (ApartOfAll r rows)
          → (ApartOfAll r rows → filter (fits_parcel w) rows ≡ []) → filter (fits_parcel w) (s ∷ rows) ≡ []
      by_key true same a rest =
          rw (fails (w % 4) (bits_of w 13 3) s.quadrant s.top (s.when w)
          (a.0 w (passes (w % 4) (bits_of w 13 3) r.quadrant r.top (r.when w) fits))) (rest a.1)
      by_key false other a rest =
          rw (differ (w % 4) (bits_of w 13 3) r.quadrant r.top s.quadrant s.top (r.when w) (s.when w) other fits)
          (rest a)

  at_most_one : (rows : List CompressedRow) → AllApart rows → length (filter (fits_parcel w) rows) ≤ 1
  at_most_one [] apart = omega arith
  at_most_one (r ∷ rows) apart =
      one_or_rest r (filter (fits_parcel w) rows) (fits_parcel w r) (none_fits r rows apart.0)
      (at_most_one rows apart.1)

-- tests for two values of one field
of_field : (x a b : ℕ) (p q : Bool) → (a == b) ≡ false → ((x == a) && p) ≡ true → ((x == b) && q) ≡ false
of_field x a b p q apart passes = grind (arith, nat_tests)

-- quadrant 1, top bits 4: by bits 11 and 10, and of two registers by bits 6 and 5
shifts : (a b : ℕ) → (a == b) ≡ false → (w : ℕ) → is_shift a w ≡ true → is_shift b w ≡ false
shifts a b apart w passes = of_field (bits_of w 10 2) a b (bits_of w 12 1 == 0) (bits_of w 12 1 == 0) apart passes

shift_andi : (a : ℕ) → (a == 2) ≡ false → (w : ℕ) → is_shift a w ≡ true → (bits_of w 10 2 == 2) ≡ false
shift_andi a apart w passes = grind (arith, nat_tests)

shift_registers : (a kind : ℕ) → (a == 3) ≡ false → (w : ℕ) → is_shift a w ≡ true → is_registers kind w ≡ false
shift_registers a kind apart w passes = of_field (bits_of w 10 2) a 3 (bits_of w 12 1 == 0) _ apart passes

andi_registers : (kind w : ℕ) → (bits_of w 10 2 == 2) ≡ true → is_registers kind w ≡ false
andi_registers kind w passes = grind (arith, nat_tests)

registers : (a b : ℕ) → (a == b) ≡ false → (w : ℕ) → is_registers a w ≡ true → is_registers b w ≡ false
registers a b apart w passes = grind (arith, nat_tests)

-- quadrant 1, top bits 3: by whether rd is 2
addi16sp_lui : (w : ℕ) → ((rd_of w == 2) && not (imm_addi16sp w == 0)) ≡ true
    → (not (rd_of w == 2) && not (imm_lui w == 0)) ≡ false
addi16sp_lui w passes = grind (arith, nat_tests)

-- quadrant 2, top bits 4: by bit 12, whether rs2 is 0, and whether rd is
jr_mv : (w : ℕ) → has_rs1_alone 0 w ≡ true → has_rs2 0 w ≡ false
jr_mv w passes = grind (arith, nat_tests)

ebreak_jalr : (w : ℕ) → is_ebreak w ≡ true → has_rs1_alone 1 w ≡ false
ebreak_jalr w passes = grind (arith, nat_tests)

ebreak_add : (w : ℕ) → is_ebreak w ≡ true → has_rs2 1 w ≡ false
ebreak_add w passes = grind (arith, nat_tests)

jalr_add : (w : ℕ) → has_rs1_alone 1 w ≡ true → has_rs2 1 w ≡ false
jalr_add w passes = grind (arith, nat_tests)

by_bit_12 : (p q : ℕ → Bool) (w : ℕ) → ((bits_of w 12 1 == 0) && p w) ≡ true → ((bits_of w 12 1 == 1) && q w) ≡ false
by_bit_12 p q w passed = of_field (bits_of w 12 1) 0 1 (p w) (q w) refl passed

-- what is so of one row, and then of those after it
infixr 30 ◌▸◌
abbrev ◌▸◌ : {A B : Type 0} → A → B → A × B
x ▸ rest = (x, rest)

table_apart : AllApart compressed_table
unfolding compressed_table
table_apart =
    tt ▸ tt ▸ tt ▸ tt ▸ tt ▸ tt ▸ (addi16sp_lui ▸ tt) ▸ tt
    ▸ (shifts 0 1 refl ▸ shift_andi 0 refl ▸ shift_registers 0 0 refl ▸ shift_registers 0 1 refl
    ▸ shift_registers 0 2 refl ▸ shift_registers 0 3 refl ▸ tt)
    ▸ (shift_andi 1 refl ▸ shift_registers 1 0 refl ▸ shift_registers 1 1 refl ▸ shift_registers 1 2 refl
    ▸ shift_registers 1 3 refl ▸ tt)
    ▸ (andi_registers 0 ▸ andi_registers 1 ▸ andi_registers 2 ▸ andi_registers 3 ▸ tt)
    ▸ (registers 0 1 refl ▸ registers 0 2 refl ▸ registers 0 3 refl ▸ tt)
    ▸ (registers 1 2 refl ▸ registers 1 3 refl ▸ tt) ▸ (registers 2 3 refl ▸ tt) ▸ tt
    ▸ tt ▸ tt ▸ tt ▸ tt ▸ tt
    ▸ (jr_mv ▸ by_bit_12 _ _ ▸ by_bit_12 _ _ ▸ by_bit_12 _ _ ▸ tt)
    ▸ (by_bit_12 _ _ ▸ by_bit_12 _ _ ▸ by_bit_12 _ _ ▸ tt)
    ▸ (ebreak_jalr ▸ ebreak_add ▸ tt) ▸ (jalr_add ▸ tt) ▸ tt ▸ tt ▸ tt

pub no_parcel_fits_two_rows : NoParcelFitsTwoRows
no_parcel_fits_two_rows parcel = at_most_one parcel compressed_table table_apart
