-- A sink in memory.
use Rattle.std.specs.Prelude.{ℕ, ◌-◌, List, Option, Some, None, length, min, nat_lt, ◌==◌, ◌&&◌, ◌||◌, if◌then◌else◌}
use Rattle.tk_outside.specs.Schedule.{CallCounts, fails_next}

-- what a sink in memory is
pub record KeptText : Type 0 where
  -- the bytes written so far
  pub written : List ℕ
  -- how many bytes one write takes at most
  pub most : ℕ
  -- how many bytes there is room for in all
  pub room : ℕ
  -- the calls that there were, and which are to fail
  pub counts : CallCounts

-- how many bytes of a piece the next write takes, or that it fails
abbrev pub taken_of : KeptText → List ℕ → Option ℕ
taken_of s piece =
    let left = s.room - length s.written in
    if fails_next s.counts || (nat_lt 0 (length piece) && (left == 0)) then None
    else Some (min (min (length piece) s.most) left)
