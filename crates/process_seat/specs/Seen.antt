-- What a driver sees of a process while it visits the process's grant, and what it may change (Levy et al., SOSP 2017,
-- section 4).
use Rattle.std.specs.Prelude.{ℕ, ◌≡◌, ◌<◌, ◌≤◌, ◌+◌, ◌⊎◌, List, [], ◌++◌, length, slice_index, Option, None, Some}
use Rattle.std.specs.List.{AllByRecursion}
use Rattle.tk_base.specs.declared.access.TheConstants.{RAM_START}
use Rattle.tk_base.specs.declared.upcall.Counts.{Counts}
use Rattle.grant_values.specs.Drivers.{counts_of}
use Rattle.tk_base.specs.declared.kinds.PairKind.TheVariants.{ReadWrite, Readable}
use Rattle.grant_model.specs.Grants.{Grant, grant_of, pairs_of}
use Rattle.board_memory.specs.Memory.{MemoryBytes}
use Rattle.process_model.specs.Own.{Own}
use Rattle.process_seat.specs.Seats.{SitsIn, own_in}
use Rattle.process_seat.specs.declared.seat.Seat.{Seat}
use Rattle.process_seat.specs.declared.entered.Entered.{Entered}

-- the driver with its counts, flash, and what is the process's own
pub record Seen : Type 0 where
  pub driver : ℕ
  pub counts : Counts
  pub flash : List ℕ
  pub own : Own

abbrev pub seen_of : ℕ → Counts → List ℕ → Own → Seen
seen_of driver counts flash own = record { driver = driver; counts = counts; flash = flash; own = own }

-- What contracts see of a process that was entered; they name none of its fields. Its own, and what its driver sees:
abbrev pub own_entered : Entered → Own
own_entered e = own_in e.memory.now.ram e.seat.now

abbrev pub seen : Entered → Seen
seen e = seen_of e.driver e.counts e.memory.now.flash (own_entered e)

-- a process in its seat, lent to its driver
pub record IsLentTo (driver : ℕ) (counts : Counts) (m : MemoryBytes) (seat : Seat) : Type 0 where
  pub sits : SitsIn m seat
  pub counts_are : counts_of driver ≡ Some counts

abbrev pub IsLent : Entered → Type 0
IsLent e = IsLentTo e.driver e.counts e.memory.now e.seat.now

-- the buffers of a grant that its driver may write: the read-write and the readable ones
abbrev pub writable_of : Option Grant → List (ℕ × ℕ)
writable_of None = []
writable_of (Some g) = pairs_of ReadWrite g ++ pairs_of Readable g

-- those that a process has allowed a driver
abbrev pub writable_buffers : ℕ → Own → List (ℕ × ℕ)
writable_buffers driver own = writable_of (grant_of driver own.grants)

-- an address lies in none of some buffers
abbrev pub LiesOutside : ℕ → List (ℕ × ℕ) → Type 0
LiesOutside a buffers = AllByRecursion (λ b. (a < b.0) ⊎ (b.0 + b.1 ≤ a)) buffers

-- bytes from a first address on are as they were, but for those in some buffers
pub record SameButIn (buffers : List (ℕ × ℕ)) (first : ℕ) (old new : List ℕ) : Type 0 where
  pub long : length new ≡ length old
  pub each : (k : ℕ) → LiesOutside (first + k) buffers → slice_index new k ≡ slice_index old k

-- a driver has changed of a process's own the bytes in its read-write or readable buffers, what is pending and how many
-- upcalls were dropped, and nothing else
pub record VisitorChanges (driver : ℕ) (old new : Own) : Type 0 where
  pub rest : new ≡ record old { ram = new.ram; inbox = new.inbox }
  pub bytes : SameButIn (writable_buffers driver old) old.layout.start old.ram new.ram

-- the same of a seat and of all of memory
pub record ServesIn (driver : ℕ) (m : MemoryBytes) (seat : Seat) (m' : MemoryBytes) (seat' : Seat) : Type 0 where
  pub seat_is : seat' ≡ record seat { inbox = seat'.inbox }
  pub flash : m'.flash ≡ m.flash
  pub bytes : SameButIn (writable_buffers driver (own_in m.ram seat)) RAM_START m.ram m'.ram

-- a visitor has kept what it was lent, and changed no more than it may
pub record Framed (old new : Entered) : Type 0 where
  pub memory : new.memory.ghost_name ≡ old.memory.ghost_name
  pub seat : new.seat.ghost_name ≡ old.seat.ghost_name
  pub driver : new.driver ≡ old.driver
  pub counts : new.counts ≡ old.counts
  pub serves : ServesIn old.driver old.memory.now old.seat.now new.memory.now new.seat.now

-- what a visitor need not prove again: it may change nothing, and do one thing after another
pub record FramesJoin : Type 0 where
  pub none : (e : Entered) → Framed e e
  pub both : (a b c : Entered) → IsLent a → Framed a b → Framed b c → Framed a c
