-- A seat that changes, with the RAM in its block.
use Rattle.std.proofs.Common.{◌≡◌, ℕ, ◌-◌, true, false, Bool, List, length, refl, sym, ap, ◌∙◌, rules}
use Rattle.upcall_queue.specs.declared.inbox.Inbox.{Inbox}
use Rattle.upcall_queue.specs.Pending.{cleared}
use Rattle.tk_base.specs.declared.access.TheConstants.{RAM_START}
use Rattle.process_layout.specs.LayoutView.{LayoutView}
use Rattle.process_layout.specs.Bounds.{bounds_of, layout_within}
use Rattle.process_layout.specs.Ordered.{IsOrdered}
use Rattle.board_memory.specs.Memory.{MemoryBytes, IsPlaced}
use Rattle.process_model.specs.Own.{layout_of, own_ended}
use Rattle.process_seat.specs.declared.seat.Seat.{Seat}
use Rattle.process_seat.specs.Places.{FitsMemory}
use Rattle.process_seat.specs.Windows.{SameOutside}
use Rattle.process_seat.specs.Seats.{IsSeated, Reseats, SitsIn, own_in}
use Rattle.process_seat.proofs.Blocks.{break_is}

-- a seat's layout lies in memory
pub placed_of : (m : MemoryBytes) (e : LayoutView) → FitsMemory (length m.flash) (length m.ram) e → IsPlaced e m
placed_of m e s = search rules

-- in memory as long as before a layout is settled as before
pub settled_in : (m m' : MemoryBytes) (e : LayoutView) → m'.flash ≡ m.flash → length m'.ram ≡ length m.ram
    → FitsMemory (length m.flash) (length m.ram) e → FitsMemory (length m'.flash) (length m'.ram) e
settled_in m m' e flash long s =
    rw (long, flash) s

-- RAM that was not changed is the same everywhere
pub nowhere : (xs : List ℕ) (from to : ℕ) → SameOutside from to xs xs
nowhere xs from to = record { long = refl; each = λ k side. refl }

-- the layout of a process's own is that of its seat
pub own_layout : (m : MemoryBytes) (seat : Seat) → SitsIn m seat → layout_of (own_in m.ram seat) ≡ seat.layout
own_layout m seat t =
    ap (layout_within (bounds_of seat.layout)) (sym (break_is m seat.layout t.settled t.seated.kept.laid))

-- a seat changes once more
pub reseats_on : (m : MemoryBytes) (seat : Seat) (m1 : MemoryBytes) (seat1 : Seat) (m2 : MemoryBytes) (seat2 : Seat)
    → Reseats m seat m1 seat1 → Reseats m1 seat1 m2 seat2 → Reseats m seat m2 seat2
reseats_on m seat m1 seat1 m2 seat2 a b =
    let same = rw (a.start, a.end) at b.elsewhere in
    record {
      flash = b.flash ∙ a.flash;
      elsewhere = record {
        long = same.long ∙ a.elsewhere.long;
        each = λ k side. same.each k side ∙ a.elsewhere.each k side;
      };
      start = b.start ∙ a.start;
      end = b.end ∙ a.end;
      object = b.object ∙ a.object;
      permissions = b.permissions ∙ a.permissions;
      sits = b.sits;
    }

-- a seat changes, and RAM in its block
pub ram_reseats : (m : MemoryBytes) (seat new : Seat) (ram : List ℕ)
    → SameOutside (seat.layout.start - RAM_START) (seat.layout.end - RAM_START) m.ram ram
    → new.layout.start ≡ seat.layout.start → new.layout.end ≡ seat.layout.end → new.object ≡ seat.object
    → new.has_permissions ≡ seat.has_permissions → FitsMemory (length m.flash) (length m.ram) new.layout
    → IsSeated (length m.flash) ram new → Reseats m seat (record m { ram = ram }) new
ram_reseats m seat new ram elsewhere start end object permissions settled seated = record {
  flash = refl;
  elsewhere = elsewhere;
  start = start;
  end = end;
  object = object;
  permissions = permissions;
  sits = record {
    settled = settled_in m (record m { ram = ram }) new.layout refl elsewhere.long settled;
    seated =
        seated;
  };
}

-- a seat changes, and RAM does not
pub same_memory : (m : MemoryBytes) (seat new : Seat) → new.layout.start ≡ seat.layout.start
    → new.layout.end ≡ seat.layout.end → new.object ≡ seat.object → new.has_permissions ≡ seat.has_permissions
    → SitsIn m new → Reseats m seat m new
same_memory m seat new start end object permissions sits = search (rules, nowhere)

-- a layout in order whose breaks are others, in order too
pub others_settled : (flash ram : ℕ) (e : LayoutView) (brk kernel_break mark : ℕ) → FitsMemory flash ram e
    → let f = record e { brk = brk; kernel_break = kernel_break; mark = mark } in IsOrdered f → FitsMemory flash ram f
others_settled flash ram e brk kernel_break mark s ordered = search rules

-- so does what is scheduled, and whether the process lives
pub requeued : (m : MemoryBytes) (seat : Seat) (inbox : Inbox) (lives : Bool) → SitsIn m seat
    → Reseats m seat m (record seat { inbox = inbox; lives = lives })
requeued m seat inbox lives t =
    same_memory m seat (record seat { inbox = inbox; lives = lives }) refl refl refl refl
    (record { settled = t.settled; seated = record { object = t.seated.object; kept = t.seated.kept } })

-- so does whether its instructions were decoded, in memory that is the same
pub known : (m : MemoryBytes) (seat : Seat) (m' : MemoryBytes) → m' ≡ m → SitsIn m seat
    → Reseats m seat m' (record seat { decoded = true })
known m seat m' same t =
    rw same (same_memory m seat (record seat { decoded = true }) refl refl refl refl
    (record { settled = t.settled; seated = record { object = t.seated.object; kept = t.seated.kept } }))

pub ended_own : (ram : List ℕ) (seat : Seat) (inbox : Inbox) → inbox ≡ cleared seat.inbox
    → own_in ram (record seat { inbox = inbox; lives = false }) ≡ own_ended (own_in ram seat)
ended_own ram seat inbox none = ap (λ (i : Inbox). own_in ram (record seat { inbox = i; lives = false })) none
