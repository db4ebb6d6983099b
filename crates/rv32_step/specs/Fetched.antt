-- The bits that are fetched for an instruction, of which one of 16 bits uses the lower half (RISC-V unprivileged
-- manual, "Base Instruction-Length Encoding"). Only proofs use this.
use Rattle.std.specs.Prelude.{◌≡◌, ℕ, ◌%◌, ◌^◌, ◌==◌, if◌then◌else◌, Result, Ok, Err}
use Rattle.tk_base.specs.declared.access.Denial.{Denial}

-- the instruction at the front of the bits
abbrev pub front : ℕ → ℕ
front word = if word % 4 == 3 then word else word % 2 ^ 16

abbrev pub front_of : Result ℕ Denial → Result ℕ Denial
front_of (Ok word) = Ok (front word)
front_of (Err denial) = Err denial

-- an answer begins with the bits that are to be fetched, or is the same denial
abbrev pub Fetches : Result ℕ Denial → Result ℕ Denial → Type 0
Fetches fetched answer = fetched ≡ front_of answer
