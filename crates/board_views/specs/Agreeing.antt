-- Scripts that agree up to a time make the same steps up to it: an event that comes in then changes none of the steps
-- that begin before that time and end at it or before. It is this board's own rule.
use Rattle.std.specs.Prelude.{◌≡◌, ◌⊎◌, ◌≤◌, ◌<◌, ℕ, true, List, is_some}
use Rattle.script_text.specs.Settings.{ScriptEvent as Arrival, ScriptSettings as Script}
use Rattle.board_devices.specs.Arriving.{inserted}
use Rattle.kernel_model.specs.World.{World}
use Rattle.kernel_model.specs.Run.{Ran, round}
use Rattle.board_opening.specs.Opening.{opening}
use Rattle.board_core.specs.Expecting.{expecting}
use Rattle.board_views.specs.Searches.{choice_in}
use Rattle.board_views.specs.Times.{choice_within, to_time}

-- a script that says an event besides
abbrev pub with_event : Arrival → Script → Script
with_event e script = record script { events = inserted e script.events }

-- the same run, in which it did not come in yet
abbrev pub expects : Arrival → Ran → Ran
expects e r = record r { world = expecting e r.world }

-- each of the first n steps is made, begins before a time, and ends at it or before
abbrev pub AreWithin : ℕ → ℕ → World → Type 0
AreWithin time n w = (i : ℕ) → i < n → is_some (choice_within time (round i w).world) ≡ true

-- So many steps are the same under a script that says an event besides, and the event is still to come in.
abbrev pub ScriptsAgree : Type 0
ScriptsAgree =
    (script : Script) (flash : List ℕ) (event : Arrival) (n : ℕ) →
    AreWithin event.time n (opening script flash) →
    round n (opening (with_event event script) flash) ≡ expects event (round n (opening script flash))

-- and so on from any world
abbrev pub WorldsAgree : Type 0
WorldsAgree =
    (event : Arrival) (n : ℕ) (w : World) → AreWithin event.time n w →
    round n (expecting event w) ≡ expects event (round n w)

-- each of so many steps is made
abbrev pub AreMade : ℕ → World → Type 0
AreMade n w = (i : ℕ) → i < n → is_some (choice_in (round i w).world) ≡ true

-- an event is later than all that was made, where so many steps led to a world
abbrev pub IsLater : Arrival → ℕ → World → Type 0
IsLater event n w = (n ≡ 0) ⊎ (w.clock.time < event.time)

-- A world under a script that says an event besides is the one under the other script, to which the event was added.
abbrev pub IsAsAdded : Arrival → World → World → Type 0
IsAsAdded event w besides = besides ≡ expecting event w

-- An event that is added later than all that was made is as one that the script said from the start.
abbrev pub AddedIsScripted : Type 0
AddedIsScripted =
    (script : Script) (flash : List ℕ) (event : Arrival) (n : ℕ) → AreMade n (opening script flash) →
    IsLater event n (round n (opening script flash)).world →
    IsAsAdded event (round n (opening script flash)).world (round n (opening (with_event event script) flash)).world

-- how a board came to a world that goes on to a time: by so many steps of the round robin, each within that time
pub record ComesWithin (most time : ℕ) (from world : World) : Type 0 where
  pub made : ℕ
  pub few : made ≤ most
  pub reached : world ≡ (round made from).world
  pub within : AreWithin time made from

abbrev pub ToTimeIsWithin : Type 0
ToTimeIsWithin = (most time : ℕ) (w : World) → ComesWithin most time w (to_time most time w)
