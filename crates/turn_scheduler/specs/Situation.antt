-- What the choice of the next step rests on. It is this board's own.
use Rattle.std.specs.Prelude.{ℕ, Bool, List, Option}

-- which slots can have a turn, and which device steps are ready; the nearest time at which a device step becomes ready,
-- and the time; the present slot with the turns that it has used of its slice, and the slice
pub record Situation : Type 0 where
  pub ready : List Bool
  pub devices : List Bool
  pub next : Option ℕ
  pub time : ℕ
  pub present : Option ℕ
  pub used : ℕ
  pub slice : ℕ
