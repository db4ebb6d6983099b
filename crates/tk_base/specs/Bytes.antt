-- Bytes in a list (RISC-V unprivileged manual, "Load and Store Instructions").
use Rattle.std.specs.Prelude.{ℕ, ◌++◌, List, drop, length, take}

-- bytes with others written over them from a place on
abbrev pub over : List ℕ → ℕ → List ℕ → List ℕ
over bytes at others = take at bytes ++ (others ++ drop (length others) (drop at bytes))
