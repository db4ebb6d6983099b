-- Multiples of 4, at which words lie (RISC-V unprivileged manual, "Load and Store Instructions").
use Rattle.std.specs.Prelude.{ℕ, ◌+◌, ◌*◌, ◌/◌}

-- the least multiple of 4 that is not below a number
abbrev pub rounded_up : ℕ → ℕ
rounded_up n = (n + 3) / 4 * 4
