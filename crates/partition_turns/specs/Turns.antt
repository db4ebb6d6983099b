-- The turns of a slot in its window. Windows are this board's own.
use Rattle.std.specs.Prelude.{◌≡◌, ◌≤◌, ℕ, ◌+◌, ◌%◌, ◌==◌, true, if◌then◌else◌, List, [], ◌∷◌, All, Option, None, Some}
use Rattle.tk_base.specs.declared.process.Choice.{Choice}
use Rattle.tk_base.specs.declared.process.Choice.TheVariants.{Run, Device, Pass}
use Rattle.partition_turns.specs.LanesView.{LanesView, slot_is_ready}
use Rattle.partition_turns.specs.Windows.{window_choice, window_end, window_slot}

-- how many ticks a choice takes: a turn one, a device step none
abbrev pub ticks_of : Option Choice → ℕ
ticks_of None = 0
ticks_of (Some (Run slot)) = 1
ticks_of (Some (Device device)) = 0
ticks_of (Some (Pass ticks)) = ticks

-- how many turns of a slot it is
abbrev pub turns_by : ℕ → Option Choice → ℕ
turns_by slot None = 0
turns_by slot (Some (Run other)) = if other == slot then 1 else 0
turns_by slot (Some (Device device)) = 0
turns_by slot (Some (Pass ticks)) = 0

-- how many turns of a slot there are among the choices of these situations
abbrev pub turns_among : ℕ → List LanesView → ℕ
turns_among slot [] = 0
turns_among slot (l ∷ rest) = turns_by slot (window_choice l) + turns_among slot rest

-- The choices lead from one time to another: each situation is at the time to which the choices before it lead.
-- Whatever else changes between them may change.
abbrev pub Lead : ℕ → List LanesView → ℕ → Type 0
Lead from [] to = from ≡ to
Lead from (l ∷ rest) to = (l.time ≡ from) × Lead (from + ticks_of (window_choice l)) rest to

-- it is the window of a slot that is ready, where a window has n ticks
pub record IsInOwnWindow (slot n : ℕ) (l : LanesView) : Type 0 where
  pub each : l.n ≡ n
  pub window : window_slot l.time n ≡ slot
  pub ready : slot_is_ready l slot ≡ true

-- each tick from one time to another is one of so many turns
abbrev pub TakeEachTick : ℕ → ℕ → ℕ → Type 0
TakeEachTick from to turns = to ≡ from + turns

-- As long as it is the window of a slot that is ready, each tick is a turn of it.
abbrev pub EachTickIsATurn : Type 0
EachTickIsATurn =
    (slot n from to : ℕ) (steps : List LanesView) → Lead from steps to → All (IsInOwnWindow slot n) steps
    → TakeEachTick from to (turns_among slot steps)

-- turns are as many as a window has ticks
abbrev pub FillWindow : ℕ → ℕ → Type 0
FillWindow n turns = turns ≡ n

-- So from a window's first time to its end a slot that is ready throughout has n turns.
abbrev pub ReadyHasItsWindow : Type 0
ReadyHasItsWindow =
    (slot n from : ℕ) (steps : List LanesView) → 1 ≤ n → from % n ≡ 0 → Lead from steps (window_end from n)
    → All (IsInOwnWindow slot n) steps → FillWindow n (turns_among slot steps)
