-- What holds of all places, and one step of placing. An application's place begins at or above the end of what is
-- filled (`Follows`), and what is filled then ends no lower (`FilledMore`); so by one induction on the applications
-- (`places_are`) each block lies in RAM, before all later ones, and the slots are taken in order, no more than there
-- are.
use Rattle.std.proofs.Common.{◌≡◌, ℕ, zero, suc, ◌+◌, ◌%◌, ◌<◌, ◌≤◌, Bool, true, false, nat_lt, nat_le, cond, List, []}
use Rattle.std.proofs.Common.{◌∷◌, length, Option, Some, None, Result, Ok, Err, IfOk, All, AllPairs, take, get_or}
use Rattle.std.proofs.Common.{is_ok, option_map, refl, sym, ap, ◌∙◌, subst, arith}
use Rattle.std.specs.List.{count_by}
use Rattle.std.proofs.lemmas.Bool.{cond_both, leb-false, ltb-false}
use Rattle.std.proofs.lemmas.Result.{IfOk-weaker}
use Rattle.std.proofs.lemmas.Bool.Decides.{nat_tests}
use Rattle.std.proofs.lemmas.List.Elements.{All-nil, All-cons, All-weaker}
use Rattle.std.proofs.lemmas.List.Sums.{sum_by-cons}
use Rattle.std.proofs.lemmas.List.Kept.{AllPairs-cons}
use Rattle.tk_base.specs.declared.access.TheConstants.{RAM_START}
use Rattle.tk_base.specs.declared.limits.TheConstants.{FLASH_LIMIT, SLOT_COUNT}
use Rattle.tk_base.specs.declared.process.PlaceFault.{PlaceFault}
use Rattle.tk_base.specs.declared.process.PlaceFault.TheVariants.{NoSlot, FixedTaken, NoRoom}
use Rattle.flash_walk.specs.declared.found.Found.{Found}
use Rattle.flash_walk.specs.Image.{size_at, object_bytes}
use Rattle.app_placement.specs.declared.application.Application.{Application}
use Rattle.app_placement.specs.declared.placed.Filled.{Filled}
use Rattle.app_placement.specs.declared.placed.Placed.{Placed}
use Rattle.app_placement.specs.declared.placed.Room.{Room}
use Rattle.app_placement.proofs.Objects.{IsFound, asked_of_found}
use Rattle.app_placement.proofs.Shares.{shares_fit, share_aligned}
use Rattle.app_placement.specs.Applications.{application_of}
use Rattle.app_placement.specs.Parts.{application_in}
use Rattle.tbf_headers.specs.Meaning.{header_reading}
use Rattle.app_placement.specs.Placement.{block_length, is_start_taken, extents, room_of}
use Rattle.app_placement.specs.Parts.{Place, block_start}
use Rattle.app_placement.specs.Placement.{filled_after, places_from, LiesInRam, LiesBefore, LiesInFlash}
use Rattle.app_placement.specs.Parts.{placements}
use Rattle.app_placement.specs.Placement.{place_of, IsAccessible, IsLaidOut, is_placed, AreNumbered}

-- how far RAM and the slots can be filled
pub record IsFilled (partition : Bool) (ram : ℕ) (filled : Filled) : Type 0 where
  pub from : RAM_START ≤ filled.last_end
  pub to : filled.last_end ≤ RAM_START + ram
  pub aligned : filled.last_end % 8 ≡ 0
  pub few : filled.count ≤ SLOT_COUNT
  pub below : filled.last_end ≤ (room_of partition ram filled).from

-- where the next block may lie there is nothing yet, and RAM does not end
record IsRoom (ram last_end : ℕ) (room : Room) : Type 0 where
  after : last_end ≤ room.from
  aligned : room.from % 8 ≡ 0
  within : room.to ≤ RAM_START + ram

next_room : (partition : Bool) (ram : ℕ) (filled : Filled) → IsFilled partition ram filled → filled.count < SLOT_COUNT
    → IsRoom ram filled.last_end (room_of partition ram filled)
next_room true ram filled f free = record {
  after = f.below;
  aligned = share_aligned ram filled.count;
  within = omega (arith, shares_fit ram (filled.count + 1) (omega (arith, free)));
}
next_room false ram filled f free = record { after = f.below; aligned = f.aligned; within = omega arith }

-- a place that follows those before it
record Follows (partition : Bool) (ram : ℕ) (filled : Filled) (q : Place) : Type 0 where
  slot : q.0 ≡ filled.count
  free : filled.count < SLOT_COUNT
  start : filled.last_end ≤ q.1.start
  block : q.1.start ≤ q.1.end
  room : q.1.end ≤ (room_of partition ram filled).to
  end : q.1.end ≤ RAM_START + ram
  aligned : q.1.end % 8 ≡ 0

start_not_taken : (partition : Bool) (from : ℕ) (fixed : Option ℕ) → from % 8 ≡ 0
    → is_start_taken partition from fixed ≡ false
    → (from ≤ block_start from fixed) × (block_start from fixed % 8 ≡ 0)
start_not_taken partition from None h e = (omega arith, h)
start_not_taken true from (Some fixed) h e = (grind (arith, nat_tests), grind (arith, nat_tests))
start_not_taken false from (Some fixed) h e = (grind (arith, nat_tests), grind (arith, nat_tests))

block_end-aligned : (start minimum : ℕ) → start % 8 ≡ 0 → (start + block_length minimum) % 8 ≡ 0
block_end-aligned start minimum h = omega arith

ok_of_cond : (P : Place → Type 0) (b : Bool) (fault : PlaceFault) (r : Result Place PlaceFault) → (b ≡ false → IfOk r P)
    → IfOk (cond b (Err fault) r) P
ok_of_cond P b fault r h = cond_both b (Err fault) r (λ r. IfOk r P) (λ e. tt) h

place_by : (partition : Bool) (ram : ℕ) (filled : Filled) (app : Application) (P : Place → Type 0)
    → (nat_le SLOT_COUNT filled.count ≡ false
    → is_start_taken partition (room_of partition ram filled).from app.fixed_start ≡ false
    → nat_lt (room_of partition ram filled).to
    (block_start (room_of partition ram filled).from app.fixed_start + block_length app.minimum_ram) ≡ false
    → P (filled.count, extents app (block_start (room_of partition ram filled).from app.fixed_start)))
    → IfOk (place_of partition ram filled app) P
unfolding place_of
place_by partition ram filled app P h =
    ok_of_cond P (nat_le SLOT_COUNT filled.count) NoSlot _ (λ free.
    ok_of_cond P (is_start_taken partition (room_of partition ram filled).from app.fixed_start) FixedTaken _ (λ taken.
    ok_of_cond P _ NoRoom _ (λ fits. h free taken fits)))

place_of-follows : (partition : Bool) (ram : ℕ) (filled : Filled) (app : Application) → IsFilled partition ram filled
    → IfOk (place_of partition ram filled app) (Follows partition ram filled)
place_of-follows partition ram filled app f =
    let room = room_of partition ram filled in
    let start = block_start room.from app.fixed_start in
    let end = start + block_length app.minimum_ram in
    place_by partition ram filled app (Follows partition ram filled) (λ free taken fits.
    let few = leb-false SLOT_COUNT filled.count free in
    let r = next_room partition ram filled f (omega (arith, few)) in
    let s = start_not_taken partition room.from app.fixed_start r.aligned taken in
    let last = ltb-false room.to end fits in
    record {
      slot = refl;
      free = omega (arith, few);
      start = omega (arith, s.0, r.after);
      block = omega arith;
      room = omega (arith, last);
      end = omega (arith, last, r.within);
      aligned = block_end-aligned start app.minimum_ram s.1;
    })

-- the next room begins where that of the place ends, or later
below_after : (partition : Bool) (ram : ℕ) (filled : Filled) (q : Place) → q.1.end ≤ (room_of partition ram filled).to
    → q.1.end ≤ (room_of partition ram (filled_after filled (Ok q))).from
below_after true ram filled q h = h
below_after false ram filled q h = omega arith

-- what is filled afterwards
pub record FilledMore (partition : Bool) (ram : ℕ) (before after : Filled) : Type 0 where
  pub filled : IsFilled partition ram after
  pub end : before.last_end ≤ after.last_end
  pub count : before.count ≤ after.count

filled_after-more : (partition : Bool) (ram : ℕ) (filled : Filled) (r : Result Place PlaceFault)
    → IsFilled partition ram filled
    → IfOk r (Follows partition ram filled) → FilledMore partition ram filled (filled_after filled r)
filled_after-more partition ram filled (Err fault) f h = record { filled = f; end = omega arith; count = omega arith }
filled_after-more partition ram filled (Ok q) f h = record {
  filled = record {
    from = omega arith;
    to = omega arith;
    aligned = h.aligned;
    few = omega arith;
    below = below_after partition ram filled q h.room;
  };
  end = omega arith;
  count = omega arith;
}

pub filled_after-filled : (partition : Bool) (ram : ℕ) (filled : Filled) (app : Application)
    → IsFilled partition ram filled
    → FilledMore partition ram filled (filled_after filled (place_of partition ram filled app))
filled_after-filled partition ram filled app f =
    filled_after-more partition ram filled (place_of partition ram filled app) f
    (place_of-follows partition ram filled app f)

-- a place lies in RAM above an end, in a slot not below a number
abbrev LiesAbove : ℕ → ℕ → ℕ → Placed → Type 0
LiesAbove ram last_end count p =
    IfOk p.place (λ q. (last_end ≤ q.1.start) × (q.1.end ≤ RAM_START + ram) × (count ≤ q.0))

-- one that is placed lies before one that lies above what is filled after it
LiesBefore-above : (partition : Bool) (ram : ℕ) (filled : Filled) (offset : ℕ) (r : Result Place PlaceFault)
    → IfOk r (Follows partition ram filled) → (p : Placed)
    → LiesAbove ram (filled_after filled r).last_end (filled_after filled r).count p
    → LiesBefore (record { offset = offset; place = r }) p
LiesBefore-above partition ram filled offset (Err fault) h p above = tt
LiesBefore-above partition ram filled offset (Ok a) h p above =
    IfOk-weaker p.place _ _ (λ b h'. (omega (arith, h.slot, h'.2), h'.0)) above

-- nothing is filled at first
pub none_filled : (partition : Bool) (ram : ℕ) → IsFilled partition ram (record { last_end = RAM_START; count = 0 })
none_filled partition ram = record {
  from = omega arith;
  to = omega arith;
  aligned = refl;
  few = omega arith;
  below = elim partition as (λ p. RAM_START ≤ (room_of p ram (record { last_end = RAM_START; count = 0 })).from) [
    | true ↦ omega arith
    | false ↦ omega arith
  ];
}

-- what an application asks for in its object lies in flash
accessible_in_flash : (flash : List ℕ) (f : Found) (offset from to : ℕ) → length flash ≤ FLASH_LIMIT → IsFound flash f
    → offset ≡ f.offset → IsAccessible f.offset f.size from to
    → IsAccessible offset (size_at flash offset) from to × (offset + size_at flash offset ≤ length flash)
    × (to ≤ RAM_START)
accessible_in_flash flash f offset from to short found e a =
    let size : size_at flash offset ≡ f.size = ap (size_at flash) e ∙ sym found.size in
    let within : f.offset + f.size ≤ length flash = found.object.within in (
      record {
        from_object = omega arith;
        within_object = omega arith;
        not_empty = a.not_empty;
        from_aligned = a.from_aligned;
        to_aligned = a.to_aligned;
      },
      omega arith,
      omega arith,
    )

pub place_of-in_flash : (flash : List ℕ) (f : Found) (partition : Bool) (ram : ℕ) (filled : Filled) (app : Application)
    → length flash ≤ FLASH_LIMIT → IsFound flash f → app.offset ≡ f.offset
    → IsAccessible f.offset f.size app.flash_from app.flash_to
    → LiesInFlash flash (record { offset = app.offset; place = place_of partition ram filled app })
place_of-in_flash flash f partition ram filled app short found e a =
    place_by partition ram filled app (λ q. IsAccessible app.offset (size_at flash app.offset) q.1.flash_start
    q.1.flash_end × (app.offset + size_at flash app.offset ≤ length flash) × (q.1.flash_end ≤ RAM_START))
    (λ free taken fits.
    accessible_in_flash flash f app.offset app.flash_from app.flash_to short found e a)

-- an application's memory is what its header asks for
pub place_of-laid_out : (flash : List ℕ) (f : Found) (partition : Bool) (ram : ℕ) (filled : Filled) (app : Application)
    → IsFound flash f → app.offset ≡ f.offset → application_of flash f ≡ Some app
    → IsLaidOut flash (record { offset = app.offset; place = place_of partition ram filled app })
place_of-laid_out flash f partition ram filled app found e h =
    let asked = asked_of_found flash f app found e h in (
      asked.0,
      place_by partition ram filled app (λ q. option_map (λ (a : Application). extents a q.1.start)
          (application_in app.offset (header_reading (object_bytes flash app.offset))) ≡ Some q.1)
          (λ free taken fits. rw asked.1 refl),
    )

-- the slots are taken in order from a number on
abbrev AreNumberedFrom : ℕ → List Placed → Type 0
AreNumberedFrom n places = (k : ℕ) (d : Placed) → k < length places
    → IfOk (get_or places k d).place (λ q. q.0 ≡ n + count_by is_placed (take k places))

slot_is : (r : Result Place PlaceFault) (m n : ℕ) → m ≡ n → IfOk r (λ q. q.0 ≡ m) → IfOk r (λ q. q.0 ≡ n)
slot_is r m n e h = subst (λ (k : ℕ). IfOk r (λ q. q.0 ≡ k)) e h

sum_of_count : (n : ℕ) (p : Placed) (places : List Placed)
    → n + cond (is_placed p) 1 0 + count_by is_placed places ≡ n + count_by is_placed (p ∷ places)
sum_of_count n p places = let e = sum_by-cons (λ (q : Placed). cond (is_placed q) 1 0) p places in omega arith

AreNumberedFrom-cons : (n : ℕ) (p : Placed) (places : List Placed) → IfOk p.place (λ q. q.0 ≡ n)
    → AreNumberedFrom (n + cond (is_placed p) 1 0) places → AreNumberedFrom n (p ∷ places)
AreNumberedFrom-cons n p places h hs zero d lt = slot_is p.place n (n + 0) (omega arith) h
AreNumberedFrom-cons n p places h hs (suc k) d lt =
    slot_is (get_or places k d).place (n + cond (is_placed p) 1 0 + count_by is_placed (take k places))
    (n + count_by is_placed (p ∷ take k places)) (sum_of_count n p (take k places)) (hs k d (omega arith))

count-filled_after : (filled : Filled) (r : Result Place PlaceFault)
    → (filled_after filled r).count ≡ filled.count + cond (is_ok r) 1 0
count-filled_after filled (Err fault) = omega arith
count-filled_after filled (Ok q) = refl

-- places from what is filled on, each after those before it
record AreFrom (ram : ℕ) (filled : Filled) (places : List Placed) : Type 0 where
  above : All (LiesAbove ram filled.last_end filled.count) places
  apart : AllPairs LiesBefore places
  numbered : AreNumberedFrom filled.count places
  few : filled.count + count_by is_placed places ≤ SLOT_COUNT

places_are : (partition : Bool) (ram : ℕ) (filled : Filled) (apps : List Application) → IsFilled partition ram filled
    → AreFrom ram filled (places_from partition ram filled apps)
unfolding places_from
places_are partition ram filled [] f = record {
  above = All-nil _;
  apart = λ i j d i<j j<n. absurd (omega arith);
  numbered = λ k d lt. absurd (omega arith);
  few = omega (arith, f.few);
}
places_are partition ram filled (app ∷ apps) f =
    let r = place_of partition ram filled app in
    let after = filled_after filled r in
    let follows = place_of-follows partition ram filled app f in
    let more = filled_after-more partition ram filled r f follows in
    let first : Placed = record { offset = app.offset; place = r } in
    let others = places_from partition ram after apps in
    let rest = places_are partition ram after apps more.filled in
    let count = count-filled_after filled r in
    let sum = sum_of_count filled.count first others in
    record {
      above = All-cons (LiesAbove ram filled.last_end filled.count) first others
          (IfOk-weaker r (Follows partition ram filled) _ (λ q h. (h.start, h.end, omega (arith, h.slot))) follows)
          (All-weaker (LiesAbove ram after.last_end after.count) (LiesAbove ram filled.last_end filled.count)
          (λ p h. IfOk-weaker p.place _ _ (λ q at.
          (omega (arith, at.0, more.end), at.1, omega (arith, at.2, more.count))) h) others rest.above);
      apart = AllPairs-cons LiesBefore first others
          (All-weaker (LiesAbove ram after.last_end after.count) (LiesBefore first)
          (λ p h. LiesBefore-above partition ram filled app.offset r follows p h) others rest.above) rest.apart;
      numbered = AreNumberedFrom-cons filled.count first others
          (IfOk-weaker r (Follows partition ram filled) _ (λ q h. h.slot) follows)
          (subst (λ (n : ℕ). AreNumberedFrom n others) count rest.numbered);
      few = omega (arith, rest.few, sum, count);
    }

-- each block lies in RAM
pub placements-in_ram : (partition : Bool) (ram : ℕ) (apps : List Application)
    → All (LiesInRam ram) (placements partition ram apps)
placements-in_ram partition ram apps =
    All-weaker (LiesAbove ram RAM_START 0) (LiesInRam ram) (λ p h. IfOk-weaker p.place _ _ (λ q at. (at.0, at.1)) h)
    (placements partition ram apps) (places_are partition ram _ apps (none_filled partition ram)).above

-- each block lies apart from the others
pub placements-apart : (partition : Bool) (ram : ℕ) (apps : List Application)
    → AllPairs LiesBefore (placements partition ram apps)
placements-apart partition ram apps = (places_are partition ram _ apps (none_filled partition ram)).apart

-- the slots are taken in order
pub placements-numbered : (partition : Bool) (ram : ℕ) (apps : List Application)
    → AreNumbered (placements partition ram apps)
placements-numbered partition ram apps k d lt =
    let places = placements partition ram apps in
    slot_is (get_or places k d).place (0 + count_by is_placed (take k places)) (count_by is_placed (take k places))
    (omega arith)
    ((places_are partition ram _ apps (none_filled partition ram)).numbered k d lt)

-- no more are placed than there are slots
pub placements-few : (partition : Bool) (ram : ℕ) (apps : List Application)
    → count_by is_placed (placements partition ram apps) ≤ SLOT_COUNT
placements-few partition ram apps =
    omega (arith, (places_are partition ram _ apps (none_filled partition ram)).few)
