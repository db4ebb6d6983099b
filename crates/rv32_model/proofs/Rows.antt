-- No word fits two rows: of each two rows, the values differ in a bit that is under both masks.
use Rattle.std.proofs.Common.{◌≡◌, ℕ, ◌≤◌, ◌==◌, ◌&&◌, Bool, true, false, not, cond, List, [], ◌∷◌, length, refl, sym}
use Rattle.std.proofs.Common.{◌∙◌, ap, arith}
use Rattle.std.specs.Prelude.{bit_and, filter}
use Rattle.std.specs.List.{list_all}
use Rattle.std.proofs.lemmas.Nat.{and_assoc, and_comm}
use Rattle.std.proofs.lemmas.Bool.Decides.{nat_tests}
use Rattle.rv32_model.specs.Instructions.{InstrRow, row_fits, instruction_table}

are_apart : InstrRow → InstrRow → Bool
are_apart r s = not (bit_and r.value s.mask == bit_and s.value r.mask)

all_apart : List InstrRow → Bool
all_apart [] = true
all_apart (r ∷ rows) = list_all (are_apart r) rows && all_apart rows

table_apart : all_apart instruction_table ≡ true
unfolding all_apart are_apart instruction_table
table_apart = refl

two_masks : (w m n : ℕ) → bit_and (bit_and w m) n ≡ bit_and (bit_and w n) m
two_masks w m n = and_assoc n w m ∙ ap (λ x. bit_and w x) (and_comm m n) ∙ sym (and_assoc m w n)

not_both : (w m v n u : ℕ) → not (bit_and v n == bit_and u m) ≡ true → (bit_and w m == v) ≡ true
    → (bit_and w n == u) ≡ false
not_both w m v n u a f =
    let e : bit_and (bit_and w m) n ≡ bit_and (bit_and w n) m = two_masks w m n in
    grind (arith, nat_tests)

none_fits : (w : ℕ) (r : InstrRow) (rows : List InstrRow) → list_all (are_apart r) rows ≡ true → row_fits w r ≡ true
    → filter (row_fits w) rows ≡ []
unfolding are_apart
none_fits w r [] a f = refl
none_fits w r (s ∷ rows) a f =
    let parts : (are_apart r s ≡ true) × (list_all (are_apart r) rows ≡ true) = grind (arith, nat_tests) in
    let here : row_fits w s ≡ false = not_both w r.mask r.value s.mask s.value parts.0 f in
    rw here (none_fits w r rows parts.1 f)

pub one_or_rest : {X : Type 0} (r : X) (rest : List X) (b : Bool) → (b ≡ true → rest ≡ []) → length rest ≤ 1
    → length (cond b (r ∷ rest) rest) ≤ 1
one_or_rest r rest true e h =
    let none : length rest ≡ 0 = ap length (e refl) in
    omega arith
one_or_rest r rest false e h = h

at_most_one : (w : ℕ) (rows : List InstrRow) → all_apart rows ≡ true → length (filter (row_fits w) rows) ≤ 1
unfolding all_apart
at_most_one w [] a = omega arith
at_most_one w (r ∷ rows) a =
    let parts : (list_all (are_apart r) rows ≡ true) × (all_apart rows ≡ true) = grind (arith, nat_tests) in
    one_or_rest r (filter (row_fits w) rows) (row_fits w r) (none_fits w r rows parts.0) (at_most_one w rows parts.1)

pub no_word_fits_two_rows : (w : ℕ) → length (filter (row_fits w) instruction_table) ≤ 1
no_word_fits_two_rows w = at_most_one w instruction_table table_apart
