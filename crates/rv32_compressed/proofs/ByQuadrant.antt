-- What the compressed table gives in each quadrant.
use Rattle.std.proofs.Common.{◌≡◌, ◌≢◌, ℕ, zero, suc, ◌%◌, ◌<◌, ◌==◌, ◌&&◌, Bool, true, false, cond, if◌then◌else◌}
use Rattle.std.proofs.Common.{List, [], ◌∷◌, Option, None, Some, refl, ◌∙◌, ap, arith}
use Rattle.std.specs.Prelude.{find}
use Rattle.std.specs.Option.{option_map}
use Rattle.rv32_model.specs.declared.instr.Instr.{Instr}
use Rattle.rv32_model.specs.Instructions.{bits_of}
use Rattle.rv32_model.specs.Compressed.{CompressedRow, fits_parcel, compressed_table, decoding16}
use Rattle.rv32_compressed.specs.Quadrants.{quadrant0_of, quadrant1_of, quadrant2_of}

-- the form of the first row that fits, by quadrant and top bits
first_form : ℕ → ℕ → ℕ → List CompressedRow → Option Instr
first_form w quadrant top [] = None
first_form w quadrant top (r ∷ rows) =
    if (quadrant == r.quadrant) && ((top == r.top) && r.when w) then Some (r.form w) else first_form w quadrant top rows

map_cond : (w : ℕ) (b : Bool) (r : CompressedRow) (o : Option CompressedRow)
    → option_map (λ r. r.form w) (cond b (Some r) o) ≡ cond b (Some (r.form w)) (option_map (λ r. r.form w) o)
map_cond w true r o = refl
map_cond w false r o = refl

is_first_form : (w : ℕ) (rows : List CompressedRow)
    → option_map (λ r. r.form w) (find (fits_parcel w) rows) ≡ first_form w (w % 4) (bits_of w 13 3) rows
unfolding first_form
is_first_form w [] = refl
is_first_form w (r ∷ rows) =
    map_cond w (fits_parcel w r) r (find (fits_parcel w) rows)
    ∙ ap (λ o. cond (fits_parcel w r) (Some (r.form w)) o) (is_first_form w rows)

-- a fact of each number below 8
below8 : (P : ℕ → Type 0) → P 0 → P 1 → P 2 → P 3 → P 4 → P 5 → P 6 → P 7 → (n : ℕ) → n < 8 → P n
below8 P a b c d e f g h zero l = a
below8 P a b c d e f g h (suc zero) l = b
below8 P a b c d e f g h (suc (suc zero)) l = c
below8 P a b c d e f g h (suc (suc (suc zero))) l = d
below8 P a b c d e f g h (suc (suc (suc (suc zero)))) l = e
below8 P a b c d e f g h (suc (suc (suc (suc (suc zero))))) l = f
below8 P a b c d e f g h (suc (suc (suc (suc (suc (suc zero)))))) l = g
below8 P a b c d e f g h (suc (suc (suc (suc (suc (suc (suc zero))))))) l = h
below8 P a b c d e f g h (suc (suc (suc (suc (suc (suc (suc (suc n)))))))) l = absurd (omega arith)

at_quadrant : (w q : ℕ) → w % 4 ≡ q → decoding16 w ≡ first_form w q (bits_of w 13 3) compressed_table
unfolding decoding16
at_quadrant w q e = is_first_form w compressed_table ∙ ap (λ x. first_form w x (bits_of w 13 3) compressed_table) e

pub quadrant0_rows : (w : ℕ) → w % 4 ≡ 0 → decoding16 w ≡ quadrant0_of w (bits_of w 13 3)
unfolding first_form compressed_table
quadrant0_rows w e =
    at_quadrant w 0 e
    ∙ below8 (λ top. first_form w 0 top compressed_table ≡ quadrant0_of w top) refl refl refl refl refl refl refl
    refl (bits_of w 13 3) (omega arith)

pub quadrant1_rows : (w : ℕ) → w % 4 ≡ 1 → decoding16 w ≡ quadrant1_of w (bits_of w 13 3)
unfolding first_form compressed_table
quadrant1_rows w e =
    at_quadrant w 1 e
    ∙ below8 (λ top. first_form w 1 top compressed_table ≡ quadrant1_of w top) refl refl refl refl refl refl refl
    refl (bits_of w 13 3) (omega arith)

pub quadrant2_rows : (w : ℕ) → w % 4 ≡ 2 → decoding16 w ≡ quadrant2_of w (bits_of w 13 3)
unfolding first_form compressed_table
quadrant2_rows w e =
    at_quadrant w 2 e
    ∙ below8 (λ top. first_form w 2 top compressed_table ≡ quadrant2_of w top) refl refl refl refl refl refl refl
    refl (bits_of w 13 3) (omega arith)

pub no_quadrant : (w : ℕ) → w % 4 ≢ 0 → w % 4 ≢ 1 → w % 4 ≢ 2 → decoding16 w ≡ None
unfolding first_form compressed_table
no_quadrant w a b c = at_quadrant w 3 (omega arith)

pub ruleset by_quadrants = (quadrant0_rows, quadrant1_rows, quadrant2_rows, no_quadrant)
