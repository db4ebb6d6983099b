-- The program of a soak application: it writes its message to the console and waits for the end of the write, in so
-- many rounds, and spins before each next round; then it exits. It is this tool's own.
use Rattle.std.specs.Prelude.{ℕ, ◌-◌, ◌^◌, List, [], ◌∷◌, bit_xor}
use Rattle.image_make.specs.Assembler.{a0, a1, a2, a3, a4, ra, s0, s1, t0, x0}
use Rattle.image_make.specs.Assembler.{addi, bne, ecall, jalr, li}

-- The numbers in a4 and a0 to a3 are those of the system calls (TRD 104, "System Call Arguments"), driver 1 is the
-- console. The program begins at the address in a0; its function for the upcall stands at 128 and its message of eight
-- bytes at 132.
unfoldable pub program : ℕ → ℕ → ℕ → List ℕ
program rounds spins code =
    -- 0
    addi s0 a0 0 ∷ li s1 rounds
    -- 8: subscribe to the end of a write
    ∷ li a4 1 ∷ li a0 1 ∷ li a1 1 ∷ addi a2 s0 128 ∷ li a3 0 ∷ ecall
    -- 32: allow the message
    ∷ li a4 4 ∷ li a0 1 ∷ li a1 1 ∷ addi a2 s0 132 ∷ li a3 8 ∷ ecall
    -- 56: write it
    ∷ li a4 2 ∷ li a0 1 ∷ li a1 1 ∷ li a2 8 ∷ li a3 0 ∷ ecall
    -- 80: wait
    ∷ li a4 0 ∷ li a0 1 ∷ ecall
    -- 92: spin
    ∷ li t0 spins ∷ addi t0 t0 (2 ^ 12 - 1) ∷ bne t0 x0 (2 ^ 13 - 4)
    -- 104: the next round, from the allow on
    ∷ addi s1 s1 (2 ^ 12 - 1) ∷ bne s1 x0 (2 ^ 13 - 76)
    -- 112: exit
    ∷ li a4 6 ∷ li a0 0 ∷ li a1 code ∷ ecall
    -- 128: the upcall's function
    ∷ jalr x0 ra 0
    ∷ []

-- The header of an application of so many bytes (Tock Binary Format, "TBF Header Base" and "Main"): version 2 and 32
-- bytes of header; the bytes in all; enabled; the checksum, which is the exclusive or of the other words; an element
-- Main of 12 bytes, with init offset 0, no protected bytes and 256 bytes of RAM.
unfoldable pub header_words : ℕ → List ℕ
header_words size =
    0x00200002 ∷ size ∷ 1 ∷ bit_xor (bit_xor (bit_xor (bit_xor 0x00200002 size) 1) 0x000C0001) 0x00000100
    ∷ 0x000C0001 ∷ 0 ∷ 0 ∷ 0x00000100 ∷ []
