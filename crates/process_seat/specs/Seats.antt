-- A process in its seat: how the one RAM holds its block. Contracts see `own_in`; the rest is for proofs alone. The two
-- parts of a block are those of Levy et al., SOSP 2017, section 4.
use Rattle.std.specs.Prelude.{ℕ, ◌≡◌, ◌<◌, ◌≤◌, ◌+◌, ◌-◌, ◌==◌, ◌||◌, Bool, IsTrue, true, false, if◌then◌else◌, List}
use Rattle.std.specs.Prelude.{[], ◌++◌, length, take, drop, slice_range, Some}
use Rattle.std.specs.List.{AllByRecursion}
use Rattle.tk_base.specs.declared.access.TheConstants.{FLASH_START, RAM_START}
use Rattle.upcall_queue.specs.Pending.{empty}
use Rattle.process_layout.specs.LayoutView.{LayoutView}
use Rattle.process_layout.specs.Bounds.{Bounds, bounds_of}
use Rattle.process_layout.specs.Interval.{lies_within}
use Rattle.process_layout.specs.Ordered.{IsOrdered}
use Rattle.tk_base.specs.declared.kinds.PairKind.{PairKind}
use Rattle.tk_base.specs.declared.kinds.PairKind.TheVariants.{Upcall as Subscribed, ReadOnly}
use Rattle.grant_values.specs.Words.{bytes_of_words}
use Rattle.grant_values.specs.Values.{KeptValue, value_words}
use Rattle.grant_model.specs.Grants.{Grant, grant_of, entered, pair_of}
use Rattle.grant_model.specs.Encoding.{EncodesGrants, Tells, decode_grants}
use Rattle.grant_region.specs.Region.{below, fits, roomed}
use Rattle.grant_region.specs.declared.room.NoRoom.{NoRoom}
use Rattle.swap_tables.specs.declared.handover.Handover.{Handover}
use Rattle.swap_tables.specs.Swaps.{held_pair, with_swapped_pair}
use Rattle.process_model.specs.declared.place.Footprint.{Footprint}
use Rattle.process_model.specs.Own.{Own, kernel_break_of}
use Rattle.process_model.specs.Handed.{lies_in_ram}
use Rattle.process_model.specs.Flash.{HasObject}
use Rattle.board_memory.specs.Memory.{MemoryBytes, ram_between, with_run}
use Rattle.process_seat.specs.Places.{FitsMemory, has_permissions}
use Rattle.process_seat.specs.Windows.{SameOutside}
use Rattle.process_seat.specs.declared.seat.Seat.{Seat}

abbrev pub first_seat : List ℕ → Footprint → Seat
first_seat flash f = record {
  object = f.object;
  layout = f.layout;
  inbox = empty;
  life = 0;
  lives = true;
  decoded = false;
  has_permissions = has_permissions flash f.object;
}

-- what is the own of a process whose block has these two parts
abbrev pub owned : Seat → List ℕ → List ℕ → Own
owned seat app kernel = record {
  object = seat.object;
  layout = bounds_of seat.layout;
  ram = app;
  grants = decode_grants kernel;
  inbox = seat.inbox;
  life = seat.life;
  lives = seat.lives;
}

-- the two parts of a block in RAM
abbrev pub app_in : List ℕ → LayoutView → List ℕ
app_in ram e = ram_between ram e.start e.kernel_break

-- the kernel's part of a block in RAM, from the kernel break on: the grants
abbrev pub kernel_in : List ℕ → LayoutView → List ℕ
kernel_in ram e = ram_between ram e.kernel_break e.end

-- what is the own of a process whose block lies in RAM: its grants are in the bytes from the kernel break on
abbrev pub own_in : List ℕ → Seat → Own
own_in ram seat = record {
  object = seat.object;
  layout = bounds_of seat.layout;
  ram = ram_between ram seat.layout.start seat.layout.kernel_break;
  grants = decode_grants (ram_between ram seat.layout.kernel_break seat.layout.end);
  inbox = seat.inbox;
  life = seat.life;
  lives = seat.lives;
}

-- a buffer that has bytes and may be written lies below the mark
abbrev pub LiesBelowMark : Bounds → ℕ × ℕ → Type 0
LiesBelowMark e pair = 0 < pair.1 → (e.start ≤ pair.0) × (pair.0 + pair.1 ≤ e.mark)

-- a read-only buffer that has bytes lies there, or in accessible flash
abbrev pub MayBeRead : Bounds → ℕ × ℕ → Type 0
MayBeRead e pair =
    0 < pair.1 → IsTrue (lies_within e.start e.mark pair.0 pair.1
    || lies_within e.flash_start e.flash_end pair.0 pair.1)

-- a pair of a kind lies where it may; of an upcall nothing is asked
abbrev pub LiesInPlace : PairKind → Bounds → ℕ × ℕ → Type 0
LiesInPlace Subscribed e pair = Unit
LiesInPlace ReadOnly e pair = MayBeRead e pair
LiesInPlace writable e pair = LiesBelowMark e pair

-- the pairs of a grant lie where they may
pub record Holds (e : Bounds) (g : Grant) : Type 0 where
  pub each : (kind : PairKind) (n : ℕ) → LiesInPlace kind e (pair_of kind n (Some g))

-- the bytes from the kernel break on are the areas of grants, whose buffers lie where they may
pub record IsKept (e : Bounds) (kernel : List ℕ) : Type 0 where
  pub laid : EncodesGrants kernel
  pub held : AllByRecursion (Holds e) (decode_grants kernel)

-- a process in its seat, over so many bytes of flash and over RAM
pub record IsSeated (flash : ℕ) (ram : List ℕ) (seat : Seat) : Type 0 where
  pub object : HasObject flash seat.object (bounds_of seat.layout)
  pub kept : IsKept (bounds_of seat.layout) (kernel_in ram seat.layout)

-- memory has a process's block where a layout says: the layout is settled, and from its kernel break on grants are kept
pub record HasBlock (m : MemoryBytes) (e : LayoutView) : Type 0 where
  pub settled : FitsMemory (length m.flash) (length m.ram) e
  pub kept : IsKept (bounds_of e) (kernel_in m.ram e)

-- a process sits in memory: the layout of its seat is settled, and it is seated
pub record SitsIn (m : MemoryBytes) (seat : Seat) : Type 0 where
  pub settled : FitsMemory (length m.flash) (length m.ram) seat.layout
  pub seated : IsSeated (length m.flash) m.ram seat

-- a seat tells whether its object has a Permissions TLV
abbrev pub TellsPermissions : List ℕ → Seat → Type 0
TellsPermissions flash seat = seat.has_permissions ≡ has_permissions flash seat.object

-- A seat with the block of its process changes, in memory that is the same elsewhere: it lies where it lay and is of
-- the same object, and the process sits in memory as before.
pub record Reseats (m : MemoryBytes) (seat : Seat) (m' : MemoryBytes) (seat' : Seat) : Type 0 where
  pub flash : m'.flash ≡ m.flash
  pub elsewhere : SameOutside (seat.layout.start - RAM_START) (seat.layout.end - RAM_START) m.ram m'.ram
  pub start : seat'.layout.start ≡ seat.layout.start
  pub end : seat'.layout.end ≡ seat.layout.end
  pub object : seat'.object ≡ seat.object
  pub permissions : seat'.has_permissions ≡ seat.has_permissions
  pub sits : SitsIn m' seat'

-- A block that lay as a layout says lies as another one says, in memory that is the same elsewhere: the process's own
-- bytes are as they were, as far as they are still its own, and these are its grants.
pub record Regrants (m : MemoryBytes) (e : LayoutView) (m' : MemoryBytes) (e' : LayoutView) (gs : List Grant) : Type
    0 where
  pub ordered : IsOrdered e'
  pub flash : m'.flash ≡ m.flash
  pub elsewhere : SameOutside (e.start - RAM_START) (e.end - RAM_START) m.ram m'.ram
  pub app : app_in m'.ram e' ≡ below e' (app_in m.ram e)
  pub tells : Tells (kernel_in m'.ram e') gs

-- a swap in a block of memory gives the former pair, and leaves the new one among the grants
pub record SwapsIn (h : Handover) (m : MemoryBytes) (e : LayoutView) (m' : MemoryBytes) (e' : LayoutView)
    (answer : ℕ × ℕ) : Type 0 where
  pub former : answer ≡ held_pair h.kind h.driver h.number (kernel_in m.ram e)
  pub layout : e' ≡ roomed h.driver e (grant_of h.driver (decode_grants (kernel_in m.ram e)))
  pub grants : Regrants m e m' e' (with_swapped_pair h (decode_grants (kernel_in m.ram e)))

-- whether a driver is entered by the process of a block in RAM, or its grant fits
abbrev pub fits_in : ℕ → List ℕ → LayoutView → Bool
fits_in driver ram e = fits e driver (grant_of driver (decode_grants (kernel_in ram e)))

-- where there is no room for a grant, the answer tells of the process the break and the kernel break
pub record TellsBreaks (own : Own) (answer : NoRoom) : Type 0 where
  pub brk : answer.brk ≡ own.layout.brk
  pub lowest : answer.lowest ≡ kernel_break_of own

-- room was made in a block of memory for a driver's grant, where there was none
pub record MakesRoom (driver : ℕ) (m : MemoryBytes) (e : LayoutView) (m' : MemoryBytes) (e' : LayoutView) : Type 0 where
  pub layout : e' ≡ roomed driver e (grant_of driver (decode_grants (kernel_in m.ram e)))
  pub grants : Regrants m e m' e' (entered driver (decode_grants (kernel_in m.ram e)))

-- the bytes of a buffer that may be read, which has none where its size is 0
abbrev pub readable_bytes : MemoryBytes → LayoutView → ℕ × ℕ → List ℕ
readable_bytes m e buffer =
    if buffer.1 == 0 then []
    else (if lies_in_ram (bounds_of e) buffer.0 buffer.1 then ram_between m.ram buffer.0 (buffer.0 + buffer.1)
    else slice_range m.flash (buffer.0 - FLASH_START) (buffer.0 + buffer.1 - FLASH_START))

-- the kernel's bytes of a block in which a value of so many bytes is another one, at a place from the kernel break on
abbrev pub value_put : List ℕ → ℕ → ℕ → KeptValue → List ℕ
value_put kernel at size value = take at kernel ++ (bytes_of_words (value_words value) ++ drop size (drop at kernel))

-- memory in whose block it stands
abbrev pub with_value_in : MemoryBytes → LayoutView → ℕ → ℕ → KeptValue → MemoryBytes
with_value_in m e at size value = with_run m e.kernel_break (value_put (kernel_in m.ram e) at size value)
