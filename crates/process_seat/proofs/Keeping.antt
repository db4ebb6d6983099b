-- A value that a driver keeps of a process. Its words stand at a place of the driver's area, so other words put there,
-- as many, change the kernel's part alone, and the grants read from it are the same with that value. It stands there
-- still after a visitor was run, since visitors leave the kernel's part.
use Rattle.std.proofs.Common.{◌≡◌, ℕ, ◌+◌, ◌-◌, ◌*◌, ◌/◌, ◌≤◌, inl, List, length, take, drop, Some, refl, sym, ap, ap₂}
use Rattle.std.proofs.Common.{subst, ◌∙◌, arith}
use Rattle.std.specs.Prelude.{option_map}
use Rattle.std.specs.List.{AllByRecursion}
use Rattle.tk_base.specs.declared.access.TheConstants.{RAM_START}
use Rattle.tk_base.specs.declared.upcall.Counts.{Counts}
use Rattle.grant_values.specs.declared.drivers.Driver.{Driver}
use Rattle.grant_values.specs.Drivers.{driver_of}
use Rattle.grant_values.specs.Words.{IsWord, words_of}
use Rattle.grant_values.specs.Values.{KeptValue, value_by, value_told, value_words}
use Rattle.grant_values.specs.ByNumber.{value_or_none}
use Rattle.grant_model.specs.Grants.{Grant, grant_of, shape_of, with_grant, with_value}
use Rattle.grant_model.specs.Encoding.{CanBeKept, Tells, decode_grants}
use Rattle.grant_model.specs.Laws.{IsValue, value_bytes}
use Rattle.process_layout.specs.Bounds.{bounds_of}
use Rattle.board_memory.specs.Memory.{MemoryBytes}
use Rattle.tk_base.specs.Bytes.{over}
use Rattle.process_model.specs.Own.{Own}
use Rattle.process_model.specs.Served.{kept, with_kept}
use Rattle.process_seat.specs.declared.seat.Seat.{Seat}
use Rattle.process_seat.specs.Windows.{SameOutside}
use Rattle.process_seat.specs.Seats.{Holds, Reseats, app_in, kernel_in, own_in, owned, value_put, with_value_in}
use Rattle.process_seat.specs.Seen.{IsLentTo, Seen, ServesIn}
use Rattle.process_seat.specs.Visits.{Asks, GrantVisit, IsCounted, Visited, found_in, seen_by}
use Rattle.process_seat.proofs.Blocks.{length_kernel, run_is}
use Rattle.process_seat.proofs.Holding.{all_with}
use Rattle.process_seat.proofs.Reseated.{ram_reseats, reseats_on}
use Rattle.process_seat.proofs.Values.{shape_is}
use Rattle.process_seat.proofs.Windows.{over_outside, over_window, widened, windows_same}
use Rattle.process_seat.proofs.Serving.{kernel_same, serving_own, serving_reseats, still_lent}

-- how many bytes the value of a driver has
pub size_of : (driver : Driver) (number size count : ℕ) (counts : Counts) → IsCounted driver number counts size
    → size ≡ 4 * count → value_bytes number ≡ size
size_of driver number size count counts c whole =
    ap (λ (k : Counts). 4 * (k.value / 4)) (shape_is number counts c.counts_are) ∙ omega (arith, c.value)

-- the driver can keep a value whose words are as many, and tell it
pub can_be_kept : (driver : Driver) (number size count : ℕ) (counts : Counts) → IsCounted driver number counts size
    → size ≡ 4 * count → (value : KeptValue) → length (value_words value) ≡ count
    → AllByRecursion IsWord (value_words value) → value_by (value_words value) driver ≡ value → CanBeKept number value
can_be_kept driver number size count counts c whole value many fit back =
    let k : (shape_of number).value ≡ counts.value =
    ap (λ (k : Counts). k.value) (shape_is number counts c.counts_are) in
    record {
      count = omega (arith, c.value);
      words = fit;
      told = ap (value_or_none (value_by (value_words value))) c.driver_is ∙ back;
    }

-- what words tell of a driver is what they tell of its number
pub told_is : (driver : Driver) (number : ℕ) (words : List ℕ) → driver_of number ≡ Some driver
    → value_told number words ≡ value_by words driver
told_is driver number words is = ap (value_or_none (value_by words)) is

-- the value that is kept
pub kept_is : (driver : ℕ) (own : Own) (g : Grant) → grant_of driver own.grants ≡ Some g
    → kept driver own ≡ Some g.value
kept_is driver own g is = ap (option_map (λ (g : Grant). g.value)) is

-- another value was put at its place
module _ (driver : ℕ) (counts : Counts) (m : MemoryBytes) (seat : Seat) (l : IsLentTo driver counts m seat)
    (at size : ℕ) (value : KeptValue) (v : IsValue (kernel_in m.ram seat.layout) at size driver)
    (can : CanBeKept driver value)
    (long : length (value_put (kernel_in m.ram seat.layout) at size value) ≡ length (kernel_in m.ram seat.layout)) where
  from : seat.layout.kernel_break - RAM_START + length (value_put (kernel_in m.ram seat.layout) at size value)
      ≡ seat.layout.end - RAM_START
  from = let s = l.sits.settled in
      omega (arith, long, length_kernel m seat.layout s, s.from, s.ordered.block, s.ordered.grants, s.ordered.end)

  fits : seat.layout.kernel_break - RAM_START + length (value_put (kernel_in m.ram seat.layout) at size value)
      ≤ length m.ram
  fits = let s = l.sits.settled in omega (arith, from, s.to, s.from)

  left : with_value_in m seat.layout at size value
      ≡ record m {
        ram =
            over m.ram (seat.layout.kernel_break - RAM_START) (value_put (kernel_in m.ram seat.layout) at size value);
      }
  left = run_is m seat.layout.kernel_break (value_put (kernel_in m.ram seat.layout) at size value) fits

  tells : Tells (value_put (kernel_in m.ram seat.layout) at size value)
      (with_grant driver (with_value value) (decode_grants (kernel_in m.ram seat.layout)))
  tells = v.put value can

  same : SameOutside (seat.layout.kernel_break - RAM_START) (seat.layout.end - RAM_START) m.ram
      (over m.ram (seat.layout.kernel_break - RAM_START) (value_put (kernel_in m.ram seat.layout) at size value))
  same = subst (λ (n : ℕ). SameOutside (seat.layout.kernel_break - RAM_START) n m.ram
      (over m.ram (seat.layout.kernel_break - RAM_START) (value_put (kernel_in m.ram seat.layout) at size value))) from
      (over_outside m.ram (value_put (kernel_in m.ram seat.layout) at size value) (seat.layout.kernel_break - RAM_START)
      fits)

  kernel_is : kernel_in (over m.ram (seat.layout.kernel_break - RAM_START)
      (value_put (kernel_in m.ram seat.layout) at size value)) seat.layout
      ≡ value_put (kernel_in m.ram seat.layout) at size value
  kernel_is = over_window m.ram (value_put (kernel_in m.ram seat.layout) at size value)
      (seat.layout.kernel_break - RAM_START) (seat.layout.end - RAM_START) fits (sym from)

  app_is : app_in (over m.ram (seat.layout.kernel_break - RAM_START)
      (value_put (kernel_in m.ram seat.layout) at size value)) seat.layout ≡ app_in m.ram seat.layout
  app_is = windows_same m.ram (over m.ram (seat.layout.kernel_break - RAM_START)
      (value_put (kernel_in m.ram seat.layout) at size value)) (seat.layout.kernel_break - RAM_START)
      (seat.layout.end - RAM_START) (seat.layout.start - RAM_START) (seat.layout.kernel_break - RAM_START) same
      (inl (omega arith))

  -- what is the process's own
  pub kept_own : own_in (with_value_in m seat.layout at size value).ram seat
      ≡ with_kept driver value (own_in m.ram seat)
  kept_own =
      ap (λ (x : MemoryBytes). own_in x.ram seat) left
      ∙ ap₂ (owned seat) app_is kernel_is
      ∙ ap (λ (gs : List Grant). record (own_in m.ram seat) { grants = gs }) tells.grants

  -- it is a seat as before
  pub kept_reseats : Reseats m seat (with_value_in m seat.layout at size value) seat
  kept_reseats =
      let s = l.sits.settled in
      let ys = over m.ram (seat.layout.kernel_break - RAM_START)
      (value_put (kernel_in m.ram seat.layout) at size value) in
      let elsewhere =
      widened m.ram ys (seat.layout.kernel_break - RAM_START) (seat.layout.end - RAM_START)
      (seat.layout.start - RAM_START) (seat.layout.end - RAM_START) same
      (omega (arith, s.ordered.block, s.ordered.grants)) (omega arith) in
      let held = all_with (Holds (bounds_of seat.layout)) (Holds (bounds_of seat.layout)) driver (with_value value)
      (decode_grants (kernel_in m.ram seat.layout)) (λ g h. h) (λ g is h. record { each = h.each })
      l.sits.seated.kept.held in
      subst (λ (x : MemoryBytes). Reseats m seat x seat) (sym left)
      (ram_reseats m seat seat ys elsewhere refl refl refl refl s (record {
        object = l.sits.seated.object;
        kept = rw kernel_is (record { laid = tells.laid; held = rw tells.grants held });
      }))

-- a value stands where it stood once its driver has served the process
pub value_again : (driver : ℕ) (counts : Counts) (m : MemoryBytes) (seat : Seat) → IsLentTo driver counts m seat
    → (at size : ℕ) → IsValue (kernel_in m.ram seat.layout) at size driver → (m1 : MemoryBytes) (seat1 : Seat)
    → ServesIn driver m seat m1 seat1 → IsValue (kernel_in m1.ram seat1.layout) at size driver
value_again driver counts m seat l at size v m1 seat1 w =
    subst (λ (x : Seat). IsValue (kernel_in m1.ram x.layout) at size driver) (sym w.seat_is)
    (rw (kernel_same driver counts m seat l m1 seat1 w) v)

-- a visitor was run between the reading of a value and the keeping of it
module _ {T V A : Type 0} (visit : GrantVisit T V A) (m : MemoryBytes) (seat : Seat)
    (l : IsLentTo visit.grants.driver visit.grants.counts m seat) (at size : ℕ)
    (v : IsValue (kernel_in m.ram seat.layout) at size visit.grants.driver) (was : T)
    (is : visit.keeps was
    ≡ value_told visit.grants.driver (words_of (take size (drop at (kernel_in m.ram seat.layout))))) where
  was_kept : kept visit.grants.driver (own_in m.ram seat) ≡ Some (visit.keeps was)
  was_kept =
      kept_is visit.grants.driver (own_in m.ram seat) v.grant v.is
      ∙ ap Some (sym (is ∙ ap (value_told visit.grants.driver) v.taken ∙ v.fits.told))

  -- what it asks
  pub asks_by : (asks : T → Seen → Type 0) → Asks visit.keeps asks (seen_by visit.grants m.flash (own_in m.ram seat))
      → asks was (seen_by visit.grants m.flash (own_in m.ram seat))
  asks_by asks may = may was was_kept

  module _ (m1 : MemoryBytes) (seat1 : Seat) (w : ServesIn visit.grants.driver m seat m1 seat1) (value : T)
      (can : CanBeKept visit.grants.driver (visit.keeps value))
      (long : length (value_put (kernel_in m1.ram seat1.layout) at size (visit.keeps value))
      ≡ length (kernel_in m1.ram seat1.layout)) where
    again : IsLentTo visit.grants.driver visit.grants.counts m1 seat1
    again = still_lent visit.grants.driver visit.grants.counts m seat l m1 seat1 w

    stands : IsValue (kernel_in m1.ram seat1.layout) at size visit.grants.driver
    stands = value_again visit.grants.driver visit.grants.counts m seat l at size v m1 seat1 w

    -- what it left
    pub visited_by : (answer : A)
        → visit.leaves visit.visitor was (seen_by visit.grants m.flash (own_in m.ram seat)) answer value
        (own_in m1.ram seat1)
        → Visited visit (found_in m seat) answer
        (own_in (with_value_in m1 seat1.layout at size (visit.keeps value)).ram seat1)
    visited_by answer left = record {
      was = was;
      kept = was_kept;
      value = value;
      own = own_in m1.ram seat1;
      left = left;
      serves = serving_own visit.grants.driver visit.grants.counts m seat l m1 seat1 w;
      after = kept_own visit.grants.driver visit.grants.counts m1 seat1 again at size (visit.keeps value) stands can
          long;
    }

    pub visit_reseats : Reseats m seat (with_value_in m1 seat1.layout at size (visit.keeps value)) seat1
    visit_reseats =
        reseats_on m seat m1 seat1 (with_value_in m1 seat1.layout at size (visit.keeps value)) seat1
        (serving_reseats visit.grants.driver visit.grants.counts m seat l m1 seat1 w)
        (kept_reseats visit.grants.driver visit.grants.counts m1 seat1 again at size (visit.keeps value) stands can
        long)
