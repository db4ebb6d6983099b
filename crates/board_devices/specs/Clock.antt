-- A clock of 32 bits, as that of Tock's alarm, which counts ticks modulo 2^32 (driver 0x0).
use Rattle.std.specs.Prelude.{ℕ, ◌+◌, ◌%◌, ◌^◌}

-- what a clock shows at a time, if it shows a number at time 0
abbrev pub clock_at : ℕ → ℕ → ℕ
clock_at start time = (start + time) % 2 ^ 32
