-- A count and a sum of bytes that go on, while a run is told. `RunText.antt` says them of all bytes at once. They are
-- this tool's own.
use Rattle.std.specs.Prelude.{ℕ, ◌+◌, ◌%◌, ◌^◌, List, length, sum}
use Rattle.run_text.specs.declared.tally.Tally.{Tally}

-- a count and a sum with more bytes
abbrev pub tallying : List ℕ → Tally → Tally
tallying bytes tally = record { count = tally.count + length bytes; sum = (tally.sum + sum bytes) % 2 ^ 32 }
