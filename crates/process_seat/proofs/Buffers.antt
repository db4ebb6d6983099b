-- The buffers that a driver was allowed, in the memory that is lent: each lies where it may (`Holds` of its grant,
-- found by induction on the grants), so one that may be written lies below the mark, in RAM, and its bytes are a window
-- of memory; one that may only be read lies there or in flash.
use Rattle.std.proofs.Common.{◌≡◌, ℕ, zero, suc, ◌+◌, ◌-◌, ◌<◌, ◌≤◌, ◌^◌, ◌==◌, ◌||◌, IsTrue, Bool, true, false, cond}
use Rattle.std.proofs.Common.{List, [], ◌∷◌, length, map, take, drop, Option, None, Some, refl, sym, ap, subst, ◌∙◌}
use Rattle.std.proofs.Common.{rules, arith, inl, inr}
use Rattle.std.specs.Prelude.{slice_range, slice_index, slice_index_or}
use Rattle.std.specs.List.{AllByRecursion, range_with_len}
use Rattle.std.proofs.lemmas.Bool.{eqb-true, cases_Bool}
use Rattle.std.proofs.lemmas.Bool.Decides.{nat_tests}
use Rattle.std.proofs.lemmas.Grind.{same_number_lists}
use Rattle.std.proofs.lemmas.List.{length-take, length-drop, places}
use Rattle.std.proofs.lemmas.List.FromFn.{length-map-range_with_len, get_or-map-range_with_len}
use Rattle.tk_base.specs.declared.access.TheConstants.{FLASH_START, RAM_START}
use Rattle.process_layout.specs.LayoutView.{LayoutView}
use Rattle.process_layout.specs.Bounds.{Bounds, bounds_of}
use Rattle.process_layout.specs.Interval.{lies_within}
use Rattle.tk_base.specs.declared.kinds.PairKind.{PairKind}
use Rattle.tk_base.specs.declared.kinds.PairKind.TheVariants.{Upcall, ReadOnly}
use Rattle.tk_base.specs.Kinds.{is_writable}
use Rattle.grant_model.specs.Grants.{Grant, grant_of, pair_of}
use Rattle.board_memory.specs.Memory.{MemoryBytes, ram_between}
use Rattle.process_model.specs.Handed.{HoldsInPlace, held, may_keep, lies_in_ram, lies_in_flash}
use Rattle.process_model.specs.Flash.{flash_byte}
use Rattle.process_model.specs.Served.{bytes_at, ram_at}
use Rattle.process_seat.specs.declared.seat.Seat.{Seat}
use Rattle.process_seat.specs.Buffers.{buffer_start, last_of}
use Rattle.process_seat.specs.Places.{FitsMemory}
use Rattle.process_seat.proofs.Holding.{lies_zero}
use Rattle.process_seat.specs.Seats.{Holds, SitsIn, LiesBelowMark, LiesInPlace, MayBeRead, app_in, readable_bytes}
use Rattle.process_seat.specs.Seats.{own_in}

-- what holds of all grants holds of a driver's
pub all_of : (P : Grant → Type 0) (driver : ℕ) (g : Grant) (gs : List Grant) → AllByRecursion P gs
    → grant_of driver gs ≡ Some g → P g
all_of P driver g [] all is = absurd (cc)
all_of P driver g (x ∷ gs) all is = elim (cases_Bool (x.driver == driver)) [
  | inl e ↦ let now = rw e at is in let same : x ≡ g = cc in subst P same all.0
  | inr e ↦ all_of P driver g gs all.1 (rw e at is)
]

pub pair_at : (P : ℕ × ℕ → Type 0) (ps : List (ℕ × ℕ)) (n : ℕ) → P (0, 0) → AllByRecursion P ps
    → P (slice_index_or ps n (0, 0))
pair_at P [] n none all = none
pair_at P (p ∷ ps) zero none all = all.0
pair_at P (p ∷ ps) (suc n) none all = pair_at P ps n none all.1

lies_by : (kind : PairKind) (e : Bounds) (n : ℕ) (o : Option Grant) → ((g : Grant) → o ≡ Some g → Holds e g)
    → LiesInPlace kind e (pair_of kind n o)
lies_by kind e n None holds = lies_zero kind e
lies_by kind e n (Some g) holds = (holds g refl).each kind n

-- what may be written lies below the mark
pub below_mark : (kind : PairKind) (e : Bounds) (pair : ℕ × ℕ) → IsTrue (is_writable kind) → LiesInPlace kind e pair
    → LiesBelowMark e pair
below_mark Upcall e pair can lies = absurd (cc)
below_mark ReadOnly e pair can lies = absurd (cc)
below_mark other e pair can lies = lies

module _ (m : MemoryBytes) (seat : Seat) (t : SitsIn m seat) (kind : PairKind) (driver n : ℕ) where
  pub lies_held : LiesInPlace kind (bounds_of seat.layout) (held kind driver n (own_in m.ram seat))
  lies_held = let gs = (own_in m.ram seat).grants in
      lies_by kind (bounds_of seat.layout) n (grant_of driver gs)
      (λ g is. all_of (Holds (bounds_of seat.layout)) driver g gs t.seated.kept.held is)

  pub below_held : IsTrue (is_writable kind) → LiesBelowMark (bounds_of seat.layout)
      (held kind driver n (own_in m.ram seat))
  below_held can = below_mark kind (bounds_of seat.layout) (held kind driver n (own_in m.ram seat)) can lies_held

-- where a buffer lies, it may be allowed
rw_allowed : (e : Bounds) (pair : ℕ × ℕ) → e.mark ≤ e.brk → LiesBelowMark e pair
    → IsTrue (pair.1 == 0 || lies_in_ram e pair.0 pair.1)
rw_allowed e pair below lies = grind (arith, nat_tests, lies)

ro_allowed : (e : Bounds) (pair : ℕ × ℕ) → e.mark ≤ e.brk → MayBeRead e pair → IsTrue (may_keep ReadOnly e pair)
ro_allowed e pair below may = grind (arith, nat_tests, may)

allowed : (kind : PairKind) (e : Bounds) (pair : ℕ × ℕ) → e.mark ≤ e.brk → LiesInPlace kind e pair
    → IsTrue (may_keep kind e pair)
allowed Upcall e pair below lies = refl
allowed ReadOnly e pair below lies = ro_allowed e pair below lies
allowed other e pair below lies = rw_allowed e pair below lies

pub in_place : (m : MemoryBytes) (seat : Seat) → SitsIn m seat → HoldsInPlace (own_in m.ram seat)
in_place m seat t = record {
  each = λ kind driver number. allowed kind (bounds_of seat.layout) (held kind driver number (own_in m.ram seat))
      t.settled.ordered.buffers (lies_held m seat t kind driver number);
}

-- an interval that has no places has no bytes
pub no_range : (xs : List ℕ) (a b : ℕ) → b ≤ a → slice_range xs a b ≡ []
no_range xs a b h = let z : b - a ≡ 0 = omega arith in ap (λ (n : ℕ). take n (drop a xs)) z

-- bytes of a process's own, by their addresses
pub own_window : (ram : List ℕ) (e : LayoutView) (at size : ℕ) → RAM_START ≤ e.start → e.start ≤ at
    → at + size ≤ e.kernel_break → e.kernel_break ≤ RAM_START + length ram
    → ram_between ram at (at + size) ≡ slice_range (app_in ram e) (at - e.start) (at - e.start + size)
own_window ram e at size from low high to =
    same_number_lists _ _ (search (rules, places)) (λ k h. grind (arith, places))

-- a part of flash has the bytes by their addresses, where it lies in flash
flash_window : (flash : List ℕ) (at size : ℕ) → FLASH_START ≤ at → at + size ≤ FLASH_START + length flash
    → slice_range flash (at - FLASH_START) (at + size - FLASH_START) ≡ map (flash_byte flash) (range_with_len at size)
flash_window flash at size low high =
    same_number_lists _ _ (long ∙ sym (length-map-range_with_len (flash_byte flash) at size))
    (λ k less. let inside : k < size = omega (arith, long, less) in
    let place : at - FLASH_START + k ≡ at + k - FLASH_START = omega (arith, low) in
    byte k inside ∙ ap (slice_index flash) place
    ∙ sym (get_or-map-range_with_len (flash_byte flash) at size k (at + k) 0 inside refl))
  where
    long : length (slice_range flash (at - FLASH_START) (at + size - FLASH_START)) ≡ size
    long = simp (length-take, length-drop) (omega (arith, low, high))

    byte : (k : ℕ) → k < size
        → slice_index (slice_range flash (at - FLASH_START) (at + size - FLASH_START)) k
        ≡ slice_index flash (at - FLASH_START + k)
    byte k inside = grind (arith, places)

-- a buffer in RAM
module _ (m : MemoryBytes) (seat : Seat) (s : FitsMemory (length m.flash) (length m.ram) seat.layout) where
  pub own_bytes : (buffer : ℕ × ℕ) → seat.layout.start ≤ buffer.0 → buffer.0 + buffer.1 ≤ seat.layout.brk
      → ram_between m.ram buffer.0 (buffer.0 + buffer.1) ≡ ram_at (own_in m.ram seat) buffer
  own_bytes buffer low high =
      own_window m.ram seat.layout buffer.0 buffer.1 s.from low (omega (arith, s.ordered.grants))
      (omega (arith, s.to, s.ordered.end))

  -- a buffer that may be read and does not lie in RAM has its bytes in flash
  in_flash : (buffer : ℕ × ℕ) → lies_in_ram (bounds_of seat.layout) buffer.0 buffer.1 ≡ false
      → IsTrue (lies_within seat.layout.start seat.layout.mark buffer.0 buffer.1
      || lies_in_flash (bounds_of seat.layout) buffer.0 buffer.1)
      → (FLASH_START ≤ buffer.0) × (buffer.0 + buffer.1 ≤ FLASH_START + length m.flash)
  in_flash buffer is h =
      which (lies_within seat.layout.start seat.layout.mark buffer.0 buffer.1)
      (lies_in_flash (bounds_of seat.layout) buffer.0 buffer.1) not_below by_flash h
    where
      not_below : lies_within seat.layout.start seat.layout.mark buffer.0 buffer.1 ≡ true → ⊥
      not_below at =
          let high : buffer.0 + buffer.1 ≤ seat.layout.mark = grind (arith, nat_tests) in
          let low : seat.layout.start ≤ buffer.0 = grind (arith, nat_tests) in
          let to : buffer.0 + buffer.1 ≤ seat.layout.brk = omega (arith, s.ordered.buffers) in
          grind (arith, nat_tests)

      by_flash : lies_in_flash (bounds_of seat.layout) buffer.0 buffer.1 ≡ true
          → (FLASH_START ≤ buffer.0) × (buffer.0 + buffer.1 ≤ FLASH_START + length m.flash)
      by_flash at =
          let low : seat.layout.flash_start ≤ buffer.0 = grind (arith, nat_tests) in
          let high : buffer.0 + buffer.1 ≤ seat.layout.flash_end = grind (arith, nat_tests) in
          (omega (arith, low, s.flash_from), omega (arith, high, s.flash_to))

      which : {X : Type 0} (x y : Bool) → (x ≡ true → ⊥) → (y ≡ true → X) → IsTrue (x || y) → X
      which true y f g h = absurd (f refl)
      which false true f g h = g refl
      which false false f g h = absurd (cc)

  read_by : (buffer : ℕ × ℕ) (a b : Bool) → buffer.1 == 0 ≡ a → lies_in_ram (bounds_of seat.layout) buffer.0 buffer.1
      ≡ b
      → MayBeRead (bounds_of seat.layout) buffer
      → cond a [] (cond b (ram_between m.ram buffer.0 (buffer.0 + buffer.1))
      (slice_range m.flash (buffer.0 - FLASH_START) (buffer.0 + buffer.1 - FLASH_START)))
      ≡ cond b (ram_at (own_in m.ram seat) buffer) (map (flash_byte m.flash) (range_with_len buffer.0 buffer.1))
  read_by buffer true true none is may = let z : buffer.1 ≡ 0 = eqb-true buffer.1 0 none in
      sym (no_range (own_in m.ram seat).ram (buffer.0 - seat.layout.start) (buffer.0 - seat.layout.start + buffer.1)
      (omega arith))
  read_by buffer true false none is may =
      ap (λ (n : ℕ). map (flash_byte m.flash) (range_with_len buffer.0 n)) (sym (eqb-true buffer.1 0 none))
  read_by buffer false true none is may = own_bytes buffer (grind (arith, nat_tests)) (grind (arith, nat_tests))
  read_by buffer false false none is may =
      let some : 0 < buffer.1 = grind (arith, nat_tests) in
      let f = in_flash buffer is (may some) in
      flash_window m.flash buffer.0 buffer.1 f.0 f.1

  -- what is lent to be read
  pub read_is : (buffer : ℕ × ℕ) → MayBeRead (bounds_of seat.layout) buffer
      → readable_bytes m seat.layout buffer ≡ bytes_at (flash_byte m.flash) (own_in m.ram seat) buffer
  read_is buffer may = read_by buffer (buffer.1 == 0) (lies_in_ram (bounds_of seat.layout) buffer.0 buffer.1) refl refl
      may

  -- where a buffer that may be written lies in memory, which has no bytes where its size is 0
  pub record EndsAt (buffer : ℕ × ℕ) (from to : ℕ) : Type 0 where
    pub from_low : RAM_START ≤ from
    pub order : from ≤ to
    pub to_high : to ≤ RAM_START + length m.ram
    pub bytes : ram_between m.ram from to ≡ ram_at (own_in m.ram seat) buffer

  ends_by : (buffer : ℕ × ℕ) (a : Bool) → buffer.1 == 0 ≡ a → LiesBelowMark (bounds_of seat.layout) buffer
      → EndsAt buffer (cond a seat.layout.start buffer.0) (cond a seat.layout.start (buffer.0 + buffer.1))
  ends_by buffer true none lies =
      let z : buffer.1 ≡ 0 = eqb-true buffer.1 0 none in
      record {
        from_low = s.from;
        order = omega arith;
        to_high = omega (arith, s.to, s.ordered.block, s.ordered.grants, s.ordered.end);
        bytes = no_range m.ram (seat.layout.start - RAM_START) (seat.layout.start - RAM_START) (omega arith)
            ∙ sym (no_range (own_in m.ram seat).ram (buffer.0 - seat.layout.start)
            (buffer.0 - seat.layout.start + buffer.1) (omega arith));
      }
  ends_by buffer false none lies =
      let some : 0 < buffer.1 = grind (arith, nat_tests) in
      let l = lies some in
      record {
        from_low = omega (arith, s.from, l.0);
        order = omega arith;
        to_high = omega (arith, s.to, s.ordered.buffers, s.ordered.grants, s.ordered.end, l.1);
        bytes = own_bytes buffer l.0 (omega (arith, s.ordered.buffers, l.1));
      }

  pub ends_at : (buffer : ℕ × ℕ) → LiesBelowMark (bounds_of seat.layout) buffer
      → EndsAt buffer (buffer_start seat.layout buffer) (last_of seat.layout buffer)
  ends_at buffer lies = ends_by buffer (buffer.1 == 0) refl lies

  pub small : (buffer : ℕ × ℕ) → LiesBelowMark (bounds_of seat.layout) buffer → buffer.0 < 2 ^ 32
      → buffer.0 + buffer.1 < 2 ^ 32
  small buffer lies fits = by_size (buffer.1 == 0) refl
    where
      by_size : (a : Bool) → buffer.1 == 0 ≡ a → buffer.0 + buffer.1 < 2 ^ 32
      by_size true none = let z : buffer.1 ≡ 0 = eqb-true buffer.1 0 none in omega arith
      by_size false none = let some : 0 < buffer.1 = grind (arith, nat_tests) in let l = lies some in
          omega (arith, l.1, s.fits, s.ordered.buffers, s.ordered.grants, s.ordered.end)
