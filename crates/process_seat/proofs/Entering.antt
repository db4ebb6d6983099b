-- Room for a driver's grant in a block, and the process that has entered the driver.
use Rattle.std.proofs.Common.{◌≡◌, ℕ, ◌+◌, ◌-◌, ◌||◌, nat_le, is_some, take, List, ◌++◌, length}
use Rattle.std.proofs.Common.{Option, None, Some, Result, Ok}
use Rattle.std.proofs.Common.{Err, refl, sym, ap, ap₂, ◌∙◌, arith}
use Rattle.std.specs.Prelude.{OnOk}
use Rattle.std.specs.List.{AllByRecursion}
use Rattle.process_layout.specs.LayoutView.{LayoutView}
use Rattle.process_layout.specs.Bounds.{Bounds, bounds_of}
use Rattle.process_layout.specs.Ordered.{IsOrdered}
use Rattle.grant_values.specs.Drivers.{cost_of}
use Rattle.grant_model.specs.Grants.{Grant, costs, grant_of, entering, entered, shape_of}
use Rattle.grant_model.specs.Encoding.{area_of, decode_grants}
use Rattle.grant_model.specs.Laws.{IsValue, PairsStandByKind, ValuesAreFound, value_bytes, value_offset}
use Rattle.grant_model.specs.declared.places.Area.{Area}
use Rattle.grant_region.specs.declared.room.NoRoom.{NoRoom}
use Rattle.grant_region.specs.Region.{Leaves, Parts, below, fits, roomed}
use Rattle.board_memory.specs.Memory.{MemoryBytes, with_run}
use Rattle.process_model.specs.Own.{kernel_break_of}
use Rattle.process_model.specs.Handed.{has_place, own_entering}
use Rattle.process_seat.specs.declared.seat.Seat.{Seat}
use Rattle.process_seat.specs.Places.{FitsMemory}
use Rattle.process_seat.specs.Seats.{Holds, MakesRoom, Reseats, SitsIn, TellsBreaks}
use Rattle.process_seat.specs.Seats.{app_in, fits_in, kernel_in, own_in}
use Rattle.process_seat.proofs.Blocks.{AreLent, break_is, regrants_in, room_in}
use Rattle.process_seat.proofs.Holding.{entering_holds}
use Rattle.process_seat.proofs.Regranted.{regranted}

pub on_both : {A E P Q R : Type 0} (r : Result A E) → (P → Q → R) → OnOk r P → OnOk r Q → OnOk r R
on_both (Ok a) f p q = f p q
on_both (Err e) f p q = tt

-- room that is made in the two parts of a block is made in memory
pub makes_room : (m : MemoryBytes) (e : LayoutView) → FitsMemory (length m.flash) (length m.ram) e
    → (driver : ℕ) (before after : Parts) → AreLent m e before → after.kernel ≡ before.kernel → IsOrdered after.layout
    → after.layout ≡ roomed driver e (grant_of driver (decode_grants before.kernel))
    → Leaves before after (entered driver (decode_grants before.kernel))
    → MakesRoom driver m e (with_run m e.start (after.app ++ after.kernel)) after.layout
makes_room m e s driver before after lent same o layout left = record {
  layout = room_in m e s driver before after lent layout;
  grants = regrants_in m e s driver before after lent layout (entered driver) (ap length same) o left;
}

-- and the driver's value stands in the area that is answered
pub area_stands : ValuesAreFound → (driver : ℕ) (m : MemoryBytes) (e : LayoutView) (m' : MemoryBytes) (e' : LayoutView)
    (kernel : List ℕ) → kernel ≡ kernel_in m.ram e → (area : Area) → MakesRoom driver m e m' e'
    → Some area ≡ area_of driver (entered driver (decode_grants kernel))
    → IsValue (kernel_in m'.ram e') (value_offset driver area) (value_bytes driver) driver
area_stands law driver m e m' e' kernel same area made is =
    law.at driver (kernel_in m'.ram e') area made.grants.tells.laid
    (is ∙ ap (λ (xs : List ℕ). area_of driver (entered driver (decode_grants xs))) same
    ∙ ap (area_of driver) (sym made.grants.tells.grants))

-- room for a driver's grant moves the kernel break alone, to where the grants then begin
pub roomed_bounds : (driver : ℕ) (e : LayoutView) (g : Option Grant) → bounds_of (roomed driver e g) ≡ bounds_of e
roomed_bounds driver e None = refl
roomed_bounds driver e (Some g) = refl

pub roomed_break : (driver : ℕ) (e : LayoutView) (gs : List Grant) (g : Option Grant)
    → e.kernel_break ≡ e.end - costs gs → (roomed driver e g).kernel_break ≡ e.end - costs (entering driver gs g)
roomed_break driver e gs None is = omega (arith, is)
roomed_break driver e gs (Some g) is = is

-- a grant fits by the layout of the seat where it does by that of the process's own
pub same_room : (driver : ℕ) (m : MemoryBytes) (seat : Seat) → SitsIn m seat
    → fits_in driver m.ram seat.layout ≡ has_place driver (own_in m.ram seat)
same_room driver m seat t = by_grant (grant_of driver (own_in m.ram seat).grants)
  where
    by_grant : (g : Option Grant)
        → fits seat.layout driver g
        ≡ (is_some g || nat_le (seat.layout.brk + cost_of (shape_of driver)) (kernel_break_of (own_in m.ram seat)))
    by_grant None =
        ap (nat_le (seat.layout.brk + cost_of (shape_of driver)))
        (break_is m seat.layout t.settled t.seated.kept.laid)
    by_grant (Some g) = refl

-- the two breaks that a seat's layout has are those of the process's own
pub breaks_told : (m : MemoryBytes) (seat : Seat) → SitsIn m seat → (answer : NoRoom)
    → (answer.brk ≡ seat.layout.brk) × (answer.lowest ≡ seat.layout.kernel_break)
    → TellsBreaks (own_in m.ram seat) answer
breaks_told m seat t answer is = record {
  brk = is.0;
  lowest = is.1 ∙ break_is m seat.layout t.settled t.seated.kept.laid;
}

-- the process's own bytes, as far as they are still its own
module _ (driver : ℕ) (m : MemoryBytes) (seat : Seat) (t : SitsIn m seat) (f : LayoutView)
    (layout : f ≡ roomed driver seat.layout (grant_of driver (own_in m.ram seat).grants)) where
  pub same_bounds : bounds_of f ≡ bounds_of seat.layout
  same_bounds = ap bounds_of layout ∙ roomed_bounds driver seat.layout (grant_of driver (own_in m.ram seat).grants)

  pub still_own : below f (app_in m.ram seat.layout) ≡ (own_entering driver (own_in m.ram seat)).ram
  still_own =
      let gs = (own_in m.ram seat).grants in
      ap₂ (λ (kernel_break start : ℕ). take (kernel_break - start) (app_in m.ram seat.layout))
      (ap (λ (x : LayoutView). x.kernel_break) layout ∙ roomed_break driver seat.layout gs (grant_of driver gs)
      (break_is m seat.layout t.settled t.seated.kept.laid)) (ap (λ (b : Bounds). b.start) same_bounds)

module _ (driver : ℕ) (m : MemoryBytes) (seat : Seat) (m' : MemoryBytes) (f : LayoutView)
    (r : MakesRoom driver m seat.layout m' f) where
  -- what is the process's own
  pub entered_own : SitsIn m seat → own_in m'.ram (record seat { layout = f }) ≡ own_entering driver (own_in m.ram seat)
  entered_own t =
      let own = own_in m.ram seat in
      ap₂ (λ (a : List ℕ) (gs : List Grant). record own { layout = bounds_of f; ram = a; grants = gs })
      (r.grants.app ∙ still_own driver m seat t f r.layout) r.grants.tells.grants
      ∙ ap (λ (b : Bounds). record (own_entering driver own) { layout = b }) (same_bounds driver m seat t f r.layout)

  -- it is a seat as before
  pub entered_reseats : PairsStandByKind → SitsIn m seat → Reseats m seat m' (record seat { layout = f })
  entered_reseats law t =
      let gs = decode_grants (kernel_in m.ram seat.layout) in
      let held : AllByRecursion (Holds (bounds_of f)) (entered driver gs) =
      rw (same_bounds driver m seat t f r.layout)
      (entering_holds law (bounds_of seat.layout) driver gs (grant_of driver gs) t.seated.kept.held) in
      regranted m seat t driver m' f (entered driver gs) r.layout r.grants f.mark seat.inbox r.grants.ordered.buffers
      held
