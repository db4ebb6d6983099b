-- A seat whose process was started again: its block is zeroed where it lies, so it has no grants and the kernel break
-- is the block's end; the layout is in order with the new break, and what is its own is the definition's
-- (`own_restarted`). All RAM outside of the block is as it was (`Reseats`).
use Rattle.std.proofs.Common.{rules}
use Rattle.std.proofs.Common.{◌≡◌, ℕ, ◌+◌, ◌-◌, ◌%◌, ◌≤◌, true, List, [], length, refl, sym, ap, subst, ◌∙◌, arith}
use Rattle.std.specs.Prelude.{slice_range}
use Rattle.std.specs.List.{AllByRecursion}
use Rattle.upcall_queue.specs.declared.inbox.Inbox.{Inbox}
use Rattle.upcall_queue.specs.Pending.{cleared}
use Rattle.tk_base.specs.declared.access.TheConstants.{RAM_START}
use Rattle.process_layout.specs.LayoutView.{LayoutView, with_break}
use Rattle.process_layout.specs.Bounds.{Bounds, bounds_of}
use Rattle.board_memory.specs.Memory.{MemoryBytes, IsPlaced, block_cleared}
use Rattle.tk_base.specs.Bytes.{over}
use Rattle.grant_model.specs.Encoding.{decode_grants}
use Rattle.grant_model.specs.Laws.{IsReadBack}
use Rattle.process_model.specs.Own.{own_restarted}
use Rattle.process_seat.specs.declared.seat.Seat.{Seat}
use Rattle.process_seat.specs.Places.{FitsMemory}
use Rattle.process_seat.specs.Windows.{SameOutside}
use Rattle.process_seat.specs.Seats.{IsKept, Holds, Reseats, SitsIn, own_in}
use Rattle.std.proofs.lemmas.Grind.{same_number_lists}
use Rattle.process_seat.proofs.Windows.{over_outside, over_window, short, zeros, length_zeros}
use Rattle.process_seat.proofs.Reseated.{others_settled, placed_of, ram_reseats}

-- a layout of a start is in order
pub start_settled : (flash ram : ℕ) (e f : LayoutView) (brk : ℕ) → FitsMemory flash ram e → e.start ≤ brk → brk ≤ e.end
    → brk % 4 ≡ 0 → f ≡ with_break brk e → FitsMemory flash ram f
start_settled flash ram e f brk s from to aligned is =
    let o = s.ordered in
    let last : e.end ≤ e.end = omega arith in
    rw is (others_settled flash ram e brk e.end e.start s (search (rules, o, last)))

-- an empty part has no grants
pub no_bytes : (xs : List ℕ) (a : ℕ) → slice_range xs a a ≡ []
no_bytes xs a =
    same_number_lists (slice_range xs a a) [] (omega (arith, short xs a a))
    (λ k h. absurd (omega (arith, short xs a a)))

pub none_back : IsReadBack → decode_grants [] ≡ []
none_back law = (law.back [] tt).grants

pub none_kept : IsReadBack → (e : Bounds) → IsKept e []
none_kept law e =
    record { laid = (law.back [] tt).laid; held = subst (AllByRecursion (Holds e)) (sym (none_back law)) tt }

-- a process started again: its seat in memory, and what is its own
pub record Restarts (m : MemoryBytes) (seat : Seat) (brk : ℕ) (m' : MemoryBytes) (new : Seat) : Type 0 where
  pub reseats : Reseats m seat m' new
  pub own : own_in m'.ram new ≡ own_restarted brk (own_in m.ram seat)

-- a process that starts again, at a break that may be its first
module _ (m : MemoryBytes) (seat : Seat) (t : SitsIn m seat) (brk : ℕ) (from : seat.layout.start ≤ brk)
    (to : brk ≤ seat.layout.end) (aligned : brk % 4 ≡ 0) where
  layout_again : FitsMemory (length m.flash) (length m.ram) (with_break brk seat.layout)
  layout_again =
      start_settled (length m.flash) (length m.ram) seat.layout (with_break brk seat.layout) brk t.settled
      from to aligned refl

  -- its block is cleared where it lies
  pub clears : (f : LayoutView) → f ≡ with_break brk seat.layout → IsPlaced f m
  clears f at = placed_of m f (rw at layout_again)

  abbrev cleared_ram : List ℕ
  cleared_ram = over m.ram (seat.layout.start - RAM_START) (zeros (seat.layout.end - seat.layout.start))

  fits : seat.layout.start - RAM_START + length (zeros (seat.layout.end - seat.layout.start)) ≤ length m.ram
  fits = let s = t.settled in
      omega (arith, length_zeros (seat.layout.end - seat.layout.start))

  ends : seat.layout.end - RAM_START
      ≡ seat.layout.start - RAM_START + length (zeros (seat.layout.end - seat.layout.start))
  ends = let s = t.settled in
      omega (arith, length_zeros (seat.layout.end - seat.layout.start))

  -- the seat of the new life
  abbrev seat_again : Seat
  seat_again = record seat {
    layout = with_break brk seat.layout;
    inbox = cleared seat.inbox;
    life =
        seat.life + 1;
    lives = true;
  }

  again_reseats : IsReadBack → Reseats m seat (record m { ram = cleared_ram }) seat_again
  again_reseats law =
      let elsewhere : SameOutside (seat.layout.start - RAM_START) (seat.layout.end - RAM_START) m.ram cleared_ram =
      rw ends (over_outside m.ram (zeros (seat.layout.end - seat.layout.start)) (seat.layout.start - RAM_START) fits) in
      let object = t.seated.object in
      ram_reseats m seat seat_again cleared_ram elsewhere refl refl refl refl layout_again (record {
        object = search (rules, object);
        kept = rw (no_bytes cleared_ram (seat.layout.end - RAM_START))
            (none_kept law (bounds_of (with_break brk seat.layout)));
      })

  again_own : IsReadBack → own_in cleared_ram seat_again ≡ own_restarted brk (own_in m.ram seat)
  again_own law =
      let whole : slice_range cleared_ram (seat.layout.start - RAM_START) (seat.layout.end - RAM_START)
      ≡ zeros (seat.layout.end - seat.layout.start) =
      over_window m.ram (zeros (seat.layout.end - seat.layout.start)) (seat.layout.start - RAM_START)
      (seat.layout.end - RAM_START) fits ends in
      let none : decode_grants (slice_range cleared_ram (seat.layout.end - RAM_START) (seat.layout.end - RAM_START))
      ≡ [] = ap decode_grants (no_bytes cleared_ram (seat.layout.end - RAM_START)) ∙ none_back law in
      rw (whole, none) refl

  -- as the code leaves memory and the seat
  pub restarts : IsReadBack → (m' : MemoryBytes) (f : LayoutView) (inbox : Inbox) → f ≡ with_break brk seat.layout
      → inbox ≡ cleared seat.inbox → m' ≡ block_cleared f m
      → Restarts m seat brk m' (record seat { layout = f; inbox = inbox; life = seat.life + 1; lives = true })
  restarts law m' f inbox at none left =
      rw (left, at, none) (record { reseats = again_reseats law; own = again_own law })
