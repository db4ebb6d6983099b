-- A UART, as a process sees its two halves. How long a byte takes, and how many the ring holds, is this board's own
-- rule.
use Rattle.std.specs.Prelude.{ℕ, ◌-◌, List, [], ◌++◌, drop, length, slice_index_or}
use Rattle.tk_base.specs.declared.limits.TheConstants.{RING_SIZE}

-- the bytes that came in and were not read, the oldest first; the ticks that it takes to send a byte; the time from
-- which on the next bytes can be sent
pub record SerialLine : Type 0 where
  pub ring : List ℕ
  pub ticks : ℕ
  pub free : ℕ

-- that of a lane
abbrev pub line_at : ℕ → List SerialLine → SerialLine
line_at lane lines = slice_index_or lines lane (record { ring = []; ticks = 0; free = 0 })

-- a UART at which bytes came in, the first one first: of all that came in the newest are kept
abbrev pub with_input : List ℕ → SerialLine → SerialLine
with_input bytes line = record line { ring = drop (length (line.ring ++ bytes) - RING_SIZE) (line.ring ++ bytes) }
