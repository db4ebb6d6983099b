-- What kept times tell of alarms: the calls that take such times ask for it. It is this board's own rule.
use Rattle.std.specs.Prelude.{◌≡◌, ◌≢◌, ◌<◌, ℕ, ◌-◌, ◌^◌, true, List, Option, None, Some, slice_get, slice_index_or}
use Rattle.std.specs.Prelude.{Bool, false, fold, nat_lt, option_and_then, IfSome}
use Rattle.std.specs.List.{range_with_len}
use Rattle.tk_base.specs.declared.limits.TheConstants.{SLOT_COUNT}
use Rattle.grant_values.specs.declared.alarm.Armed.{Armed}
use Rattle.process_model.specs.Own.{Own}
use Rattle.driver_model.specs.Alarm.{alarm_in, has_due, nearer, ticks_left, ticks_left_of}

-- a process lives, and has armed an alarm that becomes due at a time that lies ahead; the clock shows `now` at this one
pub record BecomesDue (now time at : ℕ) (o : Option Own) : Type 0 where
  pub own : Own
  pub there : o ≡ Some own
  pub lives : own.lives ≡ true
  pub alarm : Armed
  pub armed : alarm_in own ≡ Some alarm
  pub reference : alarm.reference < 2 ^ 32
  pub delta : alarm.delta < 2 ^ 32
  pub left : ticks_left now alarm ≡ at - time

-- A time that is kept of the process in a slot, if there is one, tells of its alarm: where it lies ahead, the alarm
-- becomes due then; none kept says that none is armed; a time that has come says nothing.
abbrev pub TellsAlarm : ℕ → ℕ → Option ℕ → Option Own → Type 0
TellsAlarm now time None o = option_and_then (ticks_left_of now) o ≡ None
TellsAlarm now time (Some at) o = time < at → BecomesDue now time at o

-- so do those of all slots but one
abbrev pub OthersTell : ℕ → ℕ → ℕ → List (Option ℕ) → List Own → Type 0
OthersTell slot now time times owns = (other : ℕ) → other ≢ slot
    → TellsAlarm now time (slice_index_or times other None) (slice_get owns other)

-- so does that of each slot
abbrev pub AllTell : ℕ → ℕ → List (Option ℕ) → List Own → Type 0
AllTell now time times owns =
    (slot : ℕ) → TellsAlarm now time (slice_index_or times slot None) (slice_get owns slot)

-- the nearest time so far, and then with that which is kept of one slot more
abbrev pub nearer_kept : List (Option ℕ) → Option ℕ → ℕ → Option ℕ
nearer_kept times nearest slot = nearer nearest (slice_index_or times slot None)

-- the nearest of the times that are kept of all slots
unfoldable pub nearest_kept : List (Option ℕ) → Option ℕ
nearest_kept times = fold (nearer_kept times) None (range_with_len 0 SLOT_COUNT)

-- there is a time that comes before another, or there is no other
abbrev pub comes_before : Option ℕ → Option ℕ → Bool
comes_before None other = false
comes_before (Some time) None = true
comes_before (Some time) (Some other) = nat_lt time other

-- each time that is kept of a slot below one lies behind this one
abbrev pub AllBehind : Option ℕ → ℕ → List (Option ℕ) → Type 0
AllBehind None first times = Unit
AllBehind (Some at) first times =
    (slot : ℕ) → slot < first → IfSome (slice_index_or times slot None) (λ other. at < other)

-- no process in a slot below one has an alarm that is due
abbrev pub NoneDueBelow : ℕ → ℕ → List Own → Type 0
NoneDueBelow from now owns = (slot : ℕ) → slot < from → has_due now (slice_get owns slot) ≡ false
