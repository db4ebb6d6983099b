-- How many flags of a table are set.
use Rattle.std.proofs.Common.{◌≡◌, ◌≢◌, ℕ, zero, suc, ◌+◌, ◌<◌, ◌≤◌, ◌==◌, Bool, true, false, List, [], ◌∷◌, arith}
use Rattle.std.proofs.Common.{refl, length, nat_lt, slice_set, slice_index_or, sym, ap, ◌∙◌, eqb-true}
use Rattle.std.proofs.lemmas.Bool.{false≢true}
use Rattle.std.proofs.lemmas.Bool.Decides.{nat_tests}
use Rattle.board_turns.specs.ReadySlots.{how_many, NoneBeyond}

-- no more than there are
pub at_most_all : (flags : List Bool) → how_many flags ≤ length flags
at_most_all [] = omega arith
at_most_all (true ∷ flags) = omega (arith, at_most_all flags)
at_most_all (false ∷ flags) = omega (arith, at_most_all flags)

-- a flag that is set is one more
pub one_more_set : (flags : List Bool) (place : ℕ) → place < length flags → slice_index_or flags place false ≡ false
    → how_many (slice_set flags place true) ≡ how_many flags + 1
one_more_set [] place h e = absurd (omega (arith, h))
one_more_set (true ∷ flags) zero h e = cc
one_more_set (false ∷ flags) zero h e = omega arith
one_more_set (true ∷ flags) (suc place) h e = omega (arith, one_more_set flags place (omega (arith, h)) e)
one_more_set (false ∷ flags) (suc place) h e = omega (arith, one_more_set flags place (omega (arith, h)) e)

-- and one that is cleared is one less
pub one_less_set : (flags : List Bool) (place : ℕ) → slice_index_or flags place false ≡ true
    → how_many (slice_set flags place false) + 1 ≡ how_many flags
one_less_set [] place e = cc
one_less_set (false ∷ flags) zero e = cc
one_less_set (true ∷ flags) zero e = omega arith
one_less_set (true ∷ flags) (suc place) e = omega (arith, one_less_set flags place e)
one_less_set (false ∷ flags) (suc place) e = omega (arith, one_less_set flags place e)

-- where that many are none, none is set
none_set : (flags : List Bool) → how_many flags ≡ 0 → NoneBeyond 0 flags
none_set [] e place h = refl
none_set (true ∷ flags) e place h = absurd (omega (arith, e))
none_set (false ∷ flags) e zero h = refl
none_set (false ∷ flags) e (suc place) h = none_set flags e place (omega arith)

pub none_counted : (flags : List Bool) → nat_lt 0 (how_many flags) ≡ false → NoneBeyond 0 flags
none_counted flags e = none_set flags (none (how_many flags) e)
  where
    none : (count : ℕ) → nat_lt 0 count ≡ false → count ≡ 0
    none count e = grind (arith, nat_tests)

-- where one is, no other is set
one_set : (flags : List Bool) (place other : ℕ) → how_many flags ≡ 1 → slice_index_or flags place false ≡ true
    → other ≢ place → slice_index_or flags other false ≡ false
one_set [] place other e is apart = refl
one_set (true ∷ flags) zero zero e is apart = absurd (apart refl)
one_set (true ∷ flags) zero (suc other) e is apart = none_set flags (omega (arith, e)) other (omega arith)
one_set (true ∷ flags) (suc place) other e is apart =
    absurd (false≢true (sym (none_set flags (omega (arith, e)) place (omega arith)) ∙ is))
one_set (false ∷ flags) zero other e is apart = absurd (false≢true is)
one_set (false ∷ flags) (suc place) zero e is apart = refl
one_set (false ∷ flags) (suc place) (suc other) e is apart =
    one_set flags place other e is (λ same. apart (ap suc same))

pub one_counted : (flags : List Bool) (place other : ℕ) → (how_many flags == 1) ≡ true
    → slice_index_or flags place false ≡ true → other ≢ place → slice_index_or flags other false ≡ false
one_counted flags place other e = one_set flags place other (eqb-true (how_many flags) 1 e)
