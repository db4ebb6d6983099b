-- A seat whose break was moved.
use Rattle.std.proofs.Common.{◌≡◌, ℕ, ◌≤◌, true, false, Bool, List, length, refl, sym, arith, rules, ◌%◌}
use Rattle.std.specs.Bool.{OnTrue, OnFalse}
use Rattle.std.proofs.lemmas.Bool.Decides.{nat_tests}
use Rattle.tk_base.specs.Numbers.{rounded_up}
use Rattle.process_layout.specs.LayoutView.{LayoutView}
use Rattle.process_layout.specs.Bounds.{Bounds, bounds_of, permits_break}
use Rattle.board_memory.specs.Memory.{MemoryBytes}
use Rattle.grant_model.specs.Encoding.{decode_grants}
use Rattle.process_seat.specs.declared.seat.Seat.{Seat}
use Rattle.process_seat.specs.Places.{FitsMemory}
use Rattle.process_seat.specs.Seats.{IsKept, Holds, Reseats, SitsIn, kernel_in}
use Rattle.process_seat.proofs.Holding.{all_grants, holds_on}
use Rattle.process_seat.proofs.Reseated.{others_settled, same_memory}

-- a break that may be moved leaves a layout in order
pub break_settled : (flash ram : ℕ) (e f : LayoutView) (new : ℕ) → FitsMemory flash ram e
    → permits_break (bounds_of e) e.kernel_break new ≡ true
    → f ≡ record e { brk = rounded_up new } → FitsMemory flash ram f
break_settled flash ram e f new s permits is =
    let o = s.ordered in
    let low : e.start ≤ rounded_up new = grind (arith, nat_tests) in
    let high : rounded_up new ≤ e.kernel_break = grind (arith, nat_tests) in
    let mark : e.mark ≤ rounded_up new = grind (arith, nat_tests) in
    let aligned : rounded_up new % 4 ≡ 0 = omega arith in
    rw is (others_settled flash ram e (rounded_up new) e.kernel_break e.mark s (search (rules, o)))

-- what is kept of a process does not see its break
kept_with_break : (e : Bounds) (brk : ℕ) (kernel : List ℕ) → IsKept e kernel
    → IsKept (record e { brk = brk }) kernel
kept_with_break e brk kernel k = record {
  laid = k.laid;
  held = all_grants (Holds e) (Holds (record e { brk = brk })) (decode_grants kernel) (λ g h.
      holds_on e (record e { brk = brk }) g
      (record { start = refl; mark = omega arith; flash_start = refl; flash_end = refl }) h) k.held;
}

-- a break that was moved, or refused, leaves a seat
pub break_reseats : (m : MemoryBytes) (seat : Seat) (new : ℕ) (e : LayoutView) (moved : Bool) → SitsIn m seat
    → moved ≡ permits_break (bounds_of seat.layout) seat.layout.kernel_break new
    → OnTrue moved (e ≡ record seat.layout { brk = rounded_up new })
    → OnFalse moved (e ≡ seat.layout) → Reseats m seat m (record seat { layout = e })
break_reseats m seat new e true t permits was kept =
    let f : LayoutView = record seat.layout { brk = rounded_up new } in
    rw was (same_memory m seat (record seat { layout = f }) refl refl refl refl (record {
      settled = break_settled (length m.flash) (length m.ram) seat.layout f new t.settled (sym permits) refl;
      seated = record {
        object = let o = t.seated.object in search (rules, o);
        kept = kept_with_break (bounds_of seat.layout) (rounded_up new) (kernel_in m.ram seat.layout) t.seated.kept;
      };
    }))
break_reseats m seat new e false t permits was kept =
    rw kept (same_memory m seat seat refl refl refl refl t)
