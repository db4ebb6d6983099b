-- A seat whose block has room for one grant more, or has other pairs in its grants.
use Rattle.std.proofs.Common.{◌≡◌, ℕ, ◌≤◌, List, length, Option, None, Some, refl, rules}
use Rattle.std.specs.List.{AllByRecursion}
use Rattle.process_layout.specs.LayoutView.{LayoutView}
use Rattle.process_layout.specs.Bounds.{bounds_of}
use Rattle.process_layout.specs.Ordered.{IsOrdered}
use Rattle.grant_model.specs.Grants.{Grant, grant_of}
use Rattle.grant_model.specs.Encoding.{decode_grants}
use Rattle.grant_region.specs.Region.{roomed}
use Rattle.board_memory.specs.Memory.{MemoryBytes}
use Rattle.process_model.specs.declared.place.Object.{Object}
use Rattle.process_model.specs.Flash.{HasObject}
use Rattle.upcall_queue.specs.declared.inbox.Inbox.{Inbox}
use Rattle.process_seat.specs.declared.seat.Seat.{Seat}
use Rattle.process_seat.specs.Places.{FitsMemory}
use Rattle.process_seat.specs.Seats.{Holds, Regrants, Reseats, SitsIn, kernel_in}
use Rattle.process_seat.proofs.Blocks.{SameEnds, roomed_ends}
use Rattle.process_seat.proofs.Reseated.{others_settled, settled_in}

-- a layout with another mark
abbrev pub remarked : ℕ → LayoutView → LayoutView
remarked mark e = record e { mark = mark }

-- a layout with room for a driver's grant, and with another mark, lies where it lay
room_settled : (flash ram driver mark : ℕ) (e : LayoutView) (g : Option Grant) → FitsMemory flash ram e
    → IsOrdered (remarked mark (roomed driver e g)) → FitsMemory flash ram (remarked mark (roomed driver e g))
room_settled flash ram driver mark e None s o =
    others_settled flash ram e e.brk (roomed driver e None).kernel_break mark s o
room_settled flash ram driver mark e (Some g) s o = others_settled flash ram e e.brk e.kernel_break mark s o

room_object : (flash driver mark : ℕ) (object : Object) (e : LayoutView) (g : Option Grant)
    → HasObject flash object (bounds_of e)
    → HasObject flash object (bounds_of (remarked mark (roomed driver e g)))
room_object flash driver mark object e None h = search (rules, h)
room_object flash driver mark object e (Some g) h = search (rules, h)

-- a mark at or below the break keeps a layout in order
mark_ordered : (mark : ℕ) (e : LayoutView) → IsOrdered e → mark ≤ e.brk → IsOrdered (remarked mark e)
mark_ordered mark e o low = search (rules, o)

module _ (m : MemoryBytes) (seat : Seat) (t : SitsIn m seat) (driver : ℕ) (m' : MemoryBytes) (f : LayoutView)
    (gs : List Grant) (layout : f
    ≡ roomed driver seat.layout (grant_of driver (decode_grants (kernel_in m.ram seat.layout))))
    (r : Regrants m seat.layout m' f gs) where
  -- it is a seat as before, with any mark that the buffers of its grants permit, and whatever is pending
  pub regranted : (mark : ℕ) (inbox : Inbox) → mark ≤ f.brk → AllByRecursion (Holds (bounds_of (remarked mark f))) gs
      → Reseats m seat m' (record seat { layout = remarked mark f; inbox = inbox })
  regranted mark inbox low held =
      let g = grant_of driver (decode_grants (kernel_in m.ram seat.layout)) in
      let ends : SameEnds seat.layout f =
      rw layout (roomed_ends driver seat.layout g) in
      record {
        flash = r.flash;
        elsewhere = r.elsewhere;
        start = ends.start;
        end = ends.end;
        object = refl;
        permissions = refl;
        sits = record {
          settled = settled_in m m' (remarked mark f) r.flash r.elsewhere.long
              (rw layout (room_settled (length m.flash) (length m.ram) driver mark seat.layout g t.settled
              (rw layout at (mark_ordered mark f r.ordered low))));
          seated = record {
            object = rw (r.flash, layout)
                (room_object (length m.flash) driver mark seat.object seat.layout g t.seated.object);
            kept = record {
              laid = r.tells.laid;
              held = rw r.tells.grants held;
            };
          };
        };
      }
