-- Counts and sums of bytes, some after others.
use Rattle.std.proofs.Common.{◌≡◌, ℕ, ◌+◌, ◌%◌, ◌^◌, List, ◌++◌, length, ap, ◌∙◌, sym, arith, length-append}
use Rattle.std.proofs.lemmas.List.Sums.{sum_by-append}
use Rattle.std.specs.Prelude.{sum}
use Rattle.run_text.specs.declared.tally.Tally.{Tally}
use Rattle.run_text.specs.Parts.{tally_of}
use Rattle.run_text.specs.Tallies.{tallying}

-- a sum counts mod 2^32, whether it is taken at once or in parts
sum-mod : (a b c : ℕ) → c ≡ a + b → (a % 2 ^ 32 + b) % 2 ^ 32 ≡ c % 2 ^ 32
sum-mod a b c e = omega arith

pub counting-tally_of : (seen bytes : List ℕ) → tallying bytes (tally_of seen) ≡ tally_of (seen ++ bytes)
counting-tally_of seen bytes =
    let Made : ℕ → ℕ → Tally = λ count total. record { count = count; sum = total } in
    ap (λ (count : ℕ). Made count ((sum seen % 2 ^ 32 + sum bytes) % 2 ^ 32)) (sym (length-append seen bytes))
    ∙ ap (Made (length (seen ++ bytes)))
    (sum-mod (sum seen) (sum bytes) (sum (seen ++ bytes)) (sum_by-append (λ (x : ℕ). x) seen bytes))
