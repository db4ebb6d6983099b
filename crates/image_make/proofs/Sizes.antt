-- How long the two files are.
use Rattle.std.proofs.Common.{◌≡◌, ℕ, zero, suc, ◌+◌, ◌*◌, ◌/◌, ◌^◌, ◌≤◌, List, ◌++◌, length, codes, decimal, refl}
use Rattle.std.proofs.Common.{arith}
use Rattle.std.proofs.lemmas.List.{length-append}
use Rattle.std.proofs.lemmas.Fmt.{length-decimal-le}
use Rattle.tk_outside.specs.Text.{hex_digits}
use Rattle.image_make.specs.Program.{program, header_words}
use Rattle.image_make.specs.Generator.{next_draw, message, object_of, soak_objects, soak_flash, soak_script}
use Rattle.image_make.specs.Parts.{fourth}

length-object : (k x : ℕ) → length (object_of k x) ≡ 172
unfolding object_of program header_words message hex_digits
length-object k x = refl

length-objects : (n k x : ℕ) → length (soak_objects n k x) ≡ n * 172
unfolding soak_objects
length-objects zero k x = refl
length-objects (suc n) k x =
    let first = length-object k x in
    let others = length-objects n (k + 1) (fourth x) in
    omega (arith, first, others, length-append (object_of k x) (soak_objects n (k + 1) (fourth x)))

pub length-soak_flash : (number : ℕ) → length (soak_flash number) ≡ 1376
length-soak_flash number = length-objects 8 0 (next_draw number)

length-line : (digits : List ℕ) → length digits ≤ 2 → length (codes "slice " ++ digits ++ codes "\n") ≤ 9
length-line digits h = omega (arith, h, length-append digits (codes "\n"))

pub length-soak_script : (number : ℕ) → length (soak_script number) ≤ 9
length-soak_script number =
    length-line (decimal (1 + next_draw number / 2 ^ 26)) (length-decimal-le 2 (1 + next_draw number / 2 ^ 26)
    (omega arith) (omega arith) (omega arith))
