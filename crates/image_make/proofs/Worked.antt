-- Worked cases, computed from the definitions: what laws of this crate have, and an image or a word of a wrong tool
-- that each refuses. The bytes were put together by hand from the Tock Binary Format, "TBF Header Base" and "Main".
use Rattle.std.proofs.Common.{◌≡◌, ℕ, ◌++◌, false, List, [], ◌∷◌, slice_index, refl, ap, arith}
use Rattle.tbf_headers.specs.Numbers.{word_at}
use Rattle.rv32_model.specs.Instructions.{decoding, instruction_table}
use Rattle.flash_walk.specs.declared.found.Found.{Found}
use Rattle.flash_walk.specs.Image.{found_at, objects_from}
use Rattle.image_make.specs.declared.assembler.Instruction.TheVariants.{Addi, Ecall}
use Rattle.image_make.specs.declared.assembler.Register.TheVariants.{A0}
use Rattle.image_make.specs.Decoded.{IsWordOf}
use Rattle.image_make.specs.Edited.{IsEnabledTo}
use Rattle.image_make.specs.Outcomes.{found_bytes}
use Rattle.image_make.specs.Packs.{HasContentsOf}

-- An `ecall`; a tool that has its word for an addition.
is_the_call : IsWordOf Ecall 0x73
unfolding decoding instruction_table
is_the_call = refl

none_adds : IsWordOf (Addi A0 A0 1) 0x73 → ⊥
unfolding decoding instruction_table
none_adds is = cc

-- An application of one instruction, of which the last byte but one is this.
abbrev application : ℕ → List ℕ
application byte =
    2 ∷ 0 ∷ 32 ∷ 0 ∷ 36 ∷ 0 ∷ 0 ∷ 0 ∷ 1 ∷ 0 ∷ 0 ∷ 0 ∷ 46 ∷ 0 ∷ 44 ∷ 0
    ∷ 1 ∷ 0 ∷ 12 ∷ 0 ∷ 0 ∷ 0 ∷ 0 ∷ 0 ∷ 0 ∷ 0 ∷ 0 ∷ 0 ∷ 8 ∷ 0 ∷ 0 ∷ 0
    ∷ 0x73 ∷ 0 ∷ byte ∷ 0 ∷ []

-- Two files packed; a tool that changes a byte of the second one.
has_both : HasContentsOf (application 0 ∷ application 0x10 ∷ []) (application 0 ++ application 0x10)
unfolding found_at objects_from
has_both = refl

none_with_another_byte : HasContentsOf (application 0 ∷ application 0x10 ∷ []) (application 0 ++ application 0) → ⊥
unfolding found_at objects_from
none_with_another_byte has = by_second (ap second_byte has)
  where
    -- the byte of the second object that is another
    second_byte : List (List ℕ) → ℕ
    second_byte (one ∷ two ∷ rest) = slice_index two 34
    second_byte other = 0

    by_second : ◌≡◌ {A = ℕ} 0 0x10 → ⊥
    by_second same = omega (arith, same)

-- An object whose flags are 3 is disabled; a tool that clears them all.
none_clears_all : (flash after : List ℕ) (f : Found) → word_at (found_bytes f flash) 8 ≡ 3
    → word_at (found_bytes f after) 8 ≡ 0 → IsEnabledTo false flash after f → ⊥
none_clears_all flash after f before later to = let others = to.others in omega (arith, before, later, others)
