-- The script of a soak run has a reading.
use Rattle.std.proofs.Common.{◌≡◌, ℕ, zero, suc, ◌+◌, ◌/◌, ◌^◌, ◌*◌, ◌%◌, ◌<◌, inl, inr, Bool, true, false, ◌&&◌, ◌++◌}
use Rattle.std.proofs.Common.{codes, decimal, refl, ap, ◌∙◌, arith}
use Rattle.std.proofs.lemmas.Bool.{cases_lt}
use Rattle.std.specs.Fmt.{digits}
use Rattle.std.specs.Result.{is_ok}
use Rattle.script_text.specs.Reading.{reading, faults}
use Rattle.script_text.specs.Text.{lines, words}
use Rattle.script_text.specs.Rules.{broken}
use Rattle.script_text.specs.Said.{lines_of}
use Rattle.script_text.specs.Table.{line_of}
use Rattle.image_make.specs.Generator.{next_draw, soak_script}

-- whether a test passes at each number below another
passes_below : ℕ → (ℕ → Bool) → Bool
passes_below zero p = true
passes_below (suc n) p = p n && passes_below n p

passes_at : (n k : ℕ) (p : ℕ → Bool) → passes_below n p ≡ true → k < n → p k ≡ true
unfolding passes_below
passes_at zero k p e h = absurd (omega arith)
passes_at (suc n) k p e h = by_test (p n) refl e (passes_at n k p)
  where
    by_test : (b : Bool) → p n ≡ b → b && passes_below n p ≡ true → (passes_below n p ≡ true → k < n → p k ≡ true)
        → p k ≡ true
    by_test true here others below =
        elim (cases_lt k n) [
          | inl less ↦ below others less
          | inr past ↦ let last : k ≡ n = omega arith in ap p last ∙ here
        ]
    by_test false here others below = cc

-- the script for slices of one turn and so many more has a reading
is_read : ℕ → Bool
is_read more = is_ok (reading (codes "slice " ++ decimal (1 + more) ++ codes "\n"))

each_is_read : passes_below 64 is_read ≡ true
unfolding passes_below is_read reading faults lines words broken lines_of line_of digits
each_is_read = refl

-- a draw, divided by 2^26, is below 64
draw_below : (x : ℕ) → x % 2 ^ 32 / 2 ^ 26 < 64
draw_below x = omega arith

-- so that of every number has a reading
pub soak_reads : (number : ℕ) → is_ok (reading (soak_script number)) ≡ true
unfolding is_read
soak_reads number =
    passes_at 64 (next_draw number / 2 ^ 26) is_read each_is_read (draw_below (number * 1664525 + 1013904223))
