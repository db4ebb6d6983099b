-- Ten hostile applications by number, each in a flash image before one that exits with 7.
use Rattle.std.specs.Prelude.{ℕ, zero, suc, ◌+◌, ◌*◌, ◌-◌, ◌^◌, ◌==◌, if◌then◌else◌, List, [], ◌∷◌, ◌++◌, length, codes}
use Rattle.std.specs.Prelude.{Option, None, Some}
use Rattle.std.specs.Option.{option_map}
use Rattle.image_make.specs.declared.assembler.Register.TheVariants.{Zero, S0, A0, A1, A2, A3, A4}
use Rattle.image_make.specs.declared.assembler.Instruction.{Instruction}
use Rattle.image_make.specs.declared.assembler.Instruction.TheVariants.{Word, Addi, Li, Mv, Jalr, Sw, Ecall}
use Rattle.image_make.specs.Program.{header_words}
use Rattle.image_make.specs.Generator.{assembled}
use Rattle.image_make.specs.Encoding.{code_bytes}

-- the object of an application: its header of 32 bytes, and the words of its program
abbrev pub application_object : List Instruction → List ℕ
application_object code = assembled (header_words (32 + 4 * length code)) ++ code_bytes code

-- It exits with the completion code 7; then come 16 bytes of zero.
abbrev pub exit_7 : List Instruction
exit_7 = Li A4 6 ∷ Li A0 0 ∷ Li A1 7 ∷ Ecall ∷ Word 0 ∷ Word 0 ∷ Word 0 ∷ Word 0 ∷ []

-- The programs, from number 0 on. A program begins with the address after its header in a0 and the start of its block
-- of 1024 bytes in a1; the numbers in a4 and a0 to a3 are those of the system calls (TRD 104, "System Call Arguments").
unfoldable pub programs : List (List Instruction)
programs =
    -- a store just past its block
    (Sw Zero A1 1024 ∷ [])
    -- a grant, by a null subscribe to the console, and a store into it
    ∷ (Mv S0 A1 ∷ Li A4 1 ∷ Li A0 1 ∷ Li A1 1 ∷ Li A2 0 ∷ Li A3 0 ∷ Ecall ∷ Sw Zero S0 928 ∷ [])
    -- a break at the last address of all; an exit with the error
    ∷ (Li A4 5 ∷ Li A0 0 ∷ Li A1 (2 ^ 12 - 1) ∷ Ecall ∷ Li A4 6 ∷ Li A0 0 ∷ Ecall ∷ [])
    -- a read-write buffer of 2^32 - 1 bytes from the start of its block on; an exit with the error
    ∷ (Mv A2 A1 ∷ Li A3 (2 ^ 12 - 1) ∷ Li A4 3 ∷ Li A0 1 ∷ Li A1 1 ∷ Ecall ∷ Li A4 6 ∷ Li A0 0 ∷ Ecall ∷ [])
    -- a read-write buffer of 4 bytes just past its block; an exit with the error
    ∷ (Addi A2 A1 1024 ∷ Li A3 4 ∷ Li A4 3 ∷ Li A0 1 ∷ Li A1 1 ∷ Ecall ∷ Li A4 6 ∷ Li A0 0 ∷ Ecall ∷ [])
    -- a read of the console that still waits when the process exits
    ∷ (Li A4 2 ∷ Li A0 1 ∷ Li A1 2 ∷ Li A2 4 ∷ Ecall ∷ Li A4 6 ∷ Li A0 0 ∷ Li A1 0 ∷ Ecall ∷ [])
    -- a restart, again and again
    ∷ (Li A4 6 ∷ Li A0 1 ∷ Ecall ∷ [])
    -- a jump into the flash of the next object
    ∷ (Jalr Zero A0 64 ∷ [])
    -- a yield that doesn't wait, whose flag is to lie just past its block
    ∷ (Li A4 0 ∷ Li A0 0 ∷ Addi A1 A1 1024 ∷ Ecall ∷ Li A4 6 ∷ Li A0 0 ∷ Li A1 0 ∷ Ecall ∷ [])
    -- a system call of a class that there is not
    ∷ (Li A4 9 ∷ Ecall ∷ [])
    ∷ []

-- what stands in a list of programs at a number
unfoldable pub nth : List (List Instruction) → ℕ → Option (List Instruction)
nth [] n = None
nth (first ∷ others) zero = Some first
nth (first ∷ others) (suc n) = nth others n

-- the program of a number; none where there is no such attack
abbrev pub attack : ℕ → Option (List Instruction)
attack number = nth programs number

-- The script is empty but for the read, to which a byte comes in after the exit.
abbrev pub attack_script : ℕ → List ℕ
attack_script number = if number == 5 then codes "at 50 input 41" else []

-- the flash image of a program
abbrev pub attack_flash : List Instruction → List ℕ
attack_flash code = application_object code ++ application_object exit_7

-- flash image and script of a number, where there is such an attack
abbrev pub attack_files : ℕ → Option (List ℕ × List ℕ)
attack_files number = option_map (λ code. (attack_flash code, attack_script number)) (attack number)
