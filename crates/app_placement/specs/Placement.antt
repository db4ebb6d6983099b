-- Where applications are placed in RAM: the memory of a process is one block, with its grants at the end (Levy et al.,
-- SOSP 2017, section 4). The order of blocks and the roundings are this board's own.
use Rattle.std.specs.Prelude.{◌≡◌, ◌≤◌, ◌<◌, ℕ, ◌+◌, ◌*◌, ◌/◌, ◌%◌, ◌==◌, Bool, true, false, not, ◌||◌, nat_lt}
use Rattle.std.specs.Prelude.{nat_le, if◌then◌else◌, List, [], ◌∷◌, length, take, count_by, slice_index_or, Option}
use Rattle.std.specs.Prelude.{Some, None, option_map, unwrap_or, Result, Ok, Err, is_ok, IfOk}
use Rattle.tk_base.specs.declared.access.TheConstants.{FLASH_START, RAM_START}
use Rattle.tk_base.specs.declared.limits.TheConstants.{RAM_UNIT, SLOT_COUNT}
use Rattle.tk_base.specs.declared.process.PlaceFault.{PlaceFault}
use Rattle.tk_base.specs.declared.process.PlaceFault.TheVariants.{NoSlot, FixedTaken, NoRoom}
use Rattle.process_layout.specs.LayoutView.{LayoutView, extents_at_start}
use Rattle.flash_walk.specs.Image.{size_at, object_bytes, verdict_of}
use Rattle.flash_walk.specs.declared.found.Verdict.TheVariants.{App}
use Rattle.tbf_headers.specs.Meaning.{header_reading, of_app}
use Rattle.app_placement.specs.Applications.{application}
use Rattle.app_placement.specs.declared.application.Application.{Application}
use Rattle.app_placement.specs.declared.placed.Filled.{Filled}
use Rattle.app_placement.specs.declared.placed.Placed.{Placed}
use Rattle.app_placement.specs.declared.placed.Room.{Room}

-- the length of a block: minimum RAM and 768 bytes, rounded up to a multiple of 1024
abbrev pub block_length : ℕ → ℕ
block_length minimum_ram = (minimum_ram + 768 + 1023) / 1024 * 1024

-- where a slot's share of RAM starts where there are time partitions: for each slot as many whole units as all of them
-- can have
abbrev pub share_start : ℕ → ℕ → ℕ
share_start ram slot = RAM_START + slot * (ram / SLOT_COUNT / RAM_UNIT * RAM_UNIT)

-- where the next block may lie: in the share of its slot; or, without time partitions, from the last end on
abbrev pub room_of : Bool → ℕ → Filled → Room
room_of true ram filled = record { from = share_start ram filled.count; to = share_start ram (filled.count + 1) }
room_of false ram filled = record { from = filled.last_end; to = RAM_START + ram }

-- the fixed RAM start is not where the share starts; or, without time partitions, it is no multiple of 8, or lies
-- below the last end
abbrev pub is_start_taken : Bool → ℕ → Option ℕ → Bool
is_start_taken partition from None = false
is_start_taken partition from (Some fixed) =
    if partition then not (fixed == from) else not (fixed % 8 == 0) || nat_lt fixed from

-- the memory of an application whose block starts at an address, as it is at the application's start
abbrev pub extents : Application → ℕ → LayoutView
extents app start =
    extents_at_start app.flash_from app.flash_to start (start + block_length app.minimum_ram) app.minimum_ram

-- An application's place in so many bytes of RAM, its slot and the memory that it has there, or the first cause for
-- which it has none. Its block starts at the fixed RAM start, if there is one, or else where it may lie first.
unfoldable pub place_of : Bool → ℕ → Filled → Application → Result (ℕ × LayoutView) PlaceFault
place_of partition ram filled app =
    let room = room_of partition ram filled in
    let start = unwrap_or app.fixed_start room.from in
    if nat_le SLOT_COUNT filled.count then Err NoSlot
    else (if is_start_taken partition room.from app.fixed_start then Err FixedTaken
    else (if nat_lt room.to (start + block_length app.minimum_ram) then Err NoRoom
    else Ok (filled.count, extents app start)))

-- an application that is placed takes a slot and its block; one that is not leaves all as it was
abbrev pub filled_after : Filled → Result (ℕ × LayoutView) PlaceFault → Filled
filled_after filled (Err fault) = filled
filled_after filled (Ok place) = record { last_end = place.1.end; count = filled.count + 1 }

-- the places of applications, one after another
unfoldable pub places_from : Bool → ℕ → Filled → List Application → List Placed
places_from partition ram filled [] = []
places_from partition ram filled (app ∷ apps) =
    record { offset = app.offset; place = place_of partition ram filled app }
    ∷ places_from partition ram (filled_after filled (place_of partition ram filled app)) apps

-- the block of an application that is placed lies in RAM
abbrev pub LiesInRam : ℕ → Placed → Type 0
LiesInRam ram p = IfOk p.place (λ q. (RAM_START ≤ q.1.start) × (q.1.end ≤ RAM_START + ram))

-- of two that are placed the first has the lower slot, and its block ends before the other's starts
abbrev pub LiesBefore : Placed → Placed → Type 0
LiesBefore p q = IfOk p.place (λ a. IfOk q.place (λ b. (a.0 < b.0) × (a.1.end ≤ b.1.start)))

-- accessible flash lies in the object of a size at an offset, and is made of whole words
pub record IsAccessible (offset size from to : ℕ) : Type 0 where
  pub from_object : FLASH_START + offset ≤ from
  pub within_object : to ≤ FLASH_START + offset + size
  pub not_empty : from < to
  pub from_aligned : from % 4 ≡ 0
  pub to_aligned : to % 4 ≡ 0

-- the accessible flash of an application that is placed lies in its object, which lies in flash, below RAM
abbrev pub LiesInFlash : List ℕ → Placed → Type 0
LiesInFlash flash p =
    IfOk p.place (λ q. IsAccessible p.offset (size_at flash p.offset) q.1.flash_start q.1.flash_end
    × (p.offset + size_at flash p.offset ≤ length flash) × (q.1.flash_end ≤ RAM_START))

-- the object at an offset is an application
abbrev pub IsApp : List ℕ → ℕ → Type 0
IsApp flash offset = verdict_of (FLASH_START + offset) (header_reading (object_bytes flash offset)) ≡ App

-- the memory that the application at an offset asks for, from its block's start on
abbrev pub asked_extents : List ℕ → ℕ → ℕ → Option LayoutView
asked_extents flash offset start =
    option_map (λ app. extents app start) (of_app (application offset) (header_reading (object_bytes flash offset)))

-- the object of each is an application, and the memory of one that is placed is what its header asks for, from
-- its block's start on
abbrev pub IsLaidOut : List ℕ → Placed → Type 0
IsLaidOut flash p =
    IsApp flash p.offset × IfOk p.place (λ q. asked_extents flash p.offset q.1.start ≡ Some q.1)

abbrev pub is_placed : Placed → Bool
is_placed p = is_ok p.place

-- the slot of one that is placed is the number of those placed before it
abbrev pub AreNumbered : List Placed → Type 0
AreNumbered places =
    (k : ℕ) (d : Placed) → k < length places
    → IfOk (slice_index_or places k d).place (λ q. q.0 ≡ count_by is_placed (take k places))
