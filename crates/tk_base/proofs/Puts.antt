-- A word that is written over bytes, as the list of them sees it.
use Rattle.std.proofs.Common.{◌≡◌, ℕ, zero, suc, ◌+◌, ◌≤◌, ◌%◌, List, [], ◌∷◌, ◌++◌, length, take, drop, ap, arith}
use native.Mathlib.Numerals.{unary_clauses}
use Rattle.byteorder.specs.Endian.{little_bytes}
use Rattle.tk_base.specs.declared.access.Width.TheVariants.{Word}
use Rattle.tk_base.specs.Bus.{byte_of, put}

lowest_byte : (v : ℕ) → v % 256 ≡ byte_of v 0
lowest_byte v = omega arith

-- bytes of which four are written over, from a place on, are those with the word put there
pub word_over : (xs : List ℕ) (at v : ℕ) → at + 4 ≤ length xs
    → take at xs ++ (little_bytes 4 v ++ drop 4 (drop at xs)) ≡ put xs at Word v
word_over (a ∷ b ∷ c ∷ d ∷ xs) zero v h = ap (λ n. n ∷ byte_of v 1 ∷ byte_of v 2 ∷ byte_of v 3 ∷ xs) (lowest_byte v)
word_over (x ∷ xs) (suc at) v h =
    let one_before = simp unary_clauses at (word_over xs at v (omega arith)) in
    simp unary_clauses (ap (λ ys. x ∷ ys) one_before)
word_over (a ∷ b ∷ c ∷ []) zero v h = absurd (omega arith)
word_over (a ∷ b ∷ []) zero v h = absurd (omega arith)
word_over (a ∷ []) zero v h = absurd (omega arith)
word_over [] at v h = absurd (omega arith)
