-- What a sink tells of itself. It is this tool's own view of an output.
use Rattle.std.specs.Prelude.{ℕ, List, Option}

-- what a sink tells
pub record SinkFacts : Type 0 where
  -- the bytes written so far, where it tells them
  pub written : Option (List ℕ)
  -- how many faults there were; the count stands still at `2^64 - 1`
  pub faults : ℕ
