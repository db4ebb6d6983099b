-- What it comes to that a driver visits the grant that a process keeps for it (Levy et al., SOSP 2017, section 4).
use Rattle.std.specs.Prelude.{ℕ, ◌≡◌, ◌==◌, Bool, true, false, not, ◌&&◌, List, Option, None, Some, Result, Ok, Err}
use Rattle.tk_base.specs.declared.upcall.Counts.{Counts}
use Rattle.grant_values.specs.declared.drivers.Driver.{Driver}
use Rattle.grant_values.specs.Drivers.{counts_of, driver_of}
use Rattle.grant_values.specs.Values.{KeptValue}
use Rattle.board_memory.specs.Memory.{MemoryBytes}
use Rattle.process_model.specs.Own.{Own}
use Rattle.process_model.specs.Handed.{own_entering, has_place}
use Rattle.process_model.specs.Served.{kept, with_kept}
use Rattle.process_seat.specs.declared.visit.EnterError.{EnterError}
use Rattle.process_seat.specs.declared.visit.EnterError.TheVariants.{NoRoom, Stale}
use Rattle.process_seat.specs.declared.visit.Stale.{Stale as IsStale}
use Rattle.process_seat.specs.declared.visit.Unvisited.{Unvisited}
use Rattle.process_seat.specs.declared.visit.Unvisited.TheVariants.{Gone, NotEntered}
use Rattle.process_seat.specs.declared.seat.Seat.{Seat}
use Rattle.process_seat.specs.Seats.{own_in}
use Rattle.process_seat.specs.Seen.{Seen, VisitorChanges, seen_of}

-- The grants that processes keep for one driver: its number, and its counts.
pub record GrantsOf : Type 0 where
  pub driver : ℕ
  pub counts : Counts

abbrev pub grants_of : ℕ → Counts → GrantsOf
grants_of driver counts = record { driver = driver; counts = counts }

-- A visit: the grants that are visited, what is kept of a value of theirs, the visitor, and what such a visitor leaves
-- by its own contract of a value and of what it sees: an answer, a value, and what is the process's own.
pub record GrantVisit (T V A : Type 0) : Type 1 where
  pub grants : GrantsOf
  pub keeps : T → KeptValue
  pub visitor : V
  pub leaves : V → T → Seen → A → T → Own → Type 0

-- A process as a driver finds it by an id: the life that is meant, flash, and the own in the slot, which may be in
-- another life.
pub record FoundProcess : Type 0 where
  pub life : ℕ
  pub flash : List ℕ
  pub own : Own

-- the process in a seat, in its present life
abbrev pub found_in : MemoryBytes → Seat → FoundProcess
found_in m seat = record { life = seat.life; flash = m.flash; own = own_in m.ram seat }

-- what the driver of some grants sees of a process
abbrev pub seen_by : GrantsOf → List ℕ → Own → Seen
seen_by grants flash own = seen_of grants.driver grants.counts flash own

-- the process of a life is not there: it has ended, or is in another life
abbrev pub is_stale : ℕ → Own → Bool
is_stale life own = not (own.lives && own.life == life)

-- these are the number and the counts of a driver, and among them is the size of the value that it keeps
pub record IsCounted (driver : Driver) (number : ℕ) (counts : Counts) (size : ℕ) : Type 0 where
  pub driver_is : driver_of number ≡ Some driver
  pub counts_are : counts_of number ≡ Some counts
  pub value : size ≡ counts.value

-- What a visitor asks holds of the value that a process keeps for the driver, if it keeps one, and of what the driver
-- sees.
abbrev pub Asks : {T : Type 0} → (T → KeptValue) → (T → Seen → Type 0) → Seen → Type 0
Asks keeps asks seen = (value : _) → kept seen.driver seen.own ≡ Some (keeps value) → asks value seen

-- The visitor was given the value that the process kept, and left by its own contract some value and some own; the
-- process is that own, and keeps that value.
pub record Visited {T V A : Type 0} (visit : GrantVisit T V A) (process : FoundProcess) (answer : A) (new : Own) : Type
    0 where
  pub was : T
  pub kept : kept visit.grants.driver process.own ≡ Some (visit.keeps was)
  pub value : T
  pub own : Own
  pub left : visit.leaves visit.visitor was (seen_by visit.grants process.flash process.own) answer value own
  pub serves : VisitorChanges visit.grants.driver process.own own
  pub after : new ≡ with_kept visit.grants.driver (visit.keeps value) own

-- A driver enters a process: it visits the value that is kept, or the fresh one, which is made; or the process is not
-- there; or there is no room. Where it is refused the process is as it was.
abbrev pub Enters : {T V A : Type 0} → GrantVisit T V A → FoundProcess → Result A EnterError → Own → Type 0
Enters visit process (Ok answer) new =
    (is_stale process.life process.own ≡ false) × (has_place visit.grants.driver process.own ≡ true)
    × Visited visit (record process { own = own_entering visit.grants.driver process.own }) answer new
Enters visit process (Err Stale) new = (is_stale process.life process.own ≡ true) × (new ≡ process.own)
Enters visit process (Err NoRoom) new =
    (is_stale process.life process.own ≡ false) × (has_place visit.grants.driver process.own ≡ false)
    × (new ≡ process.own)

-- A driver visits a process, and makes nothing: it visits the value that is kept; or none is; or the process is not
-- there. A visitor that was not run is handed back, and the process is as it was.
abbrev pub Visits : {T V A : Type 0} → GrantVisit T V A → FoundProcess → Result A (Unvisited V) → Own → Type 0
Visits visit process (Ok answer) new = (is_stale process.life process.own ≡ false) × Visited visit process answer new
Visits visit process (Err (NotEntered back)) new =
    (is_stale process.life process.own ≡ false) × (kept visit.grants.driver process.own ≡ None)
    × (back ≡ visit.visitor) × (new ≡ process.own)
Visits visit process (Err (Gone back)) new =
    (is_stale process.life process.own ≡ true) × (back ≡ visit.visitor) × (new ≡ process.own)

-- A driver looks at the value that a process keeps, or sees that it keeps none; or the process is not there.
abbrev pub Peeks : {T : Type 0} → GrantsOf → (T → KeptValue) → FoundProcess → Result (Option T) IsStale → Type 0
Peeks grants keeps process (Ok (Some value)) =
    (is_stale process.life process.own ≡ false) × (kept grants.driver process.own ≡ Some (keeps value))
Peeks grants keeps process (Ok None) =
    (is_stale process.life process.own ≡ false) × (kept grants.driver process.own ≡ None)
Peeks grants keeps process (Err stale) = is_stale process.life process.own ≡ true
