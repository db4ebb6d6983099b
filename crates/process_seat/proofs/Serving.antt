-- What a driver has changed of a process in its seat, and what it has left. It changed bytes in the buffers alone that
-- it may write (`ServesIn`), all of which lie below the mark; so the kernel's part, the grants and the layout stay, the
-- seat is one as before, and it may be served once more (`serving_on`).
use Rattle.std.proofs.Common.{get_or, ◌≡◌, ℕ, suc, ◌+◌, ◌-◌, ◌<◌, ◌≤◌, ◌⊎◌, inl, inr}
use Rattle.std.proofs.Common.{List, []}
use Rattle.std.proofs.Common.{◌∷◌, ◌++◌, length, slice_index, Option, None, Some, refl, sym, ap, subst, ◌∙◌, arith}
use Rattle.std.specs.Prelude.{slice_range}
use Rattle.std.specs.List.{AllByRecursion}
use Rattle.std.proofs.lemmas.Bool.{cases_lt}
use Rattle.std.proofs.lemmas.List.{places}
use Rattle.tk_base.specs.declared.access.TheConstants.{RAM_START}
use Rattle.tk_base.specs.declared.upcall.Counts.{Counts}
use Rattle.process_layout.specs.LayoutView.{LayoutView}
use Rattle.process_layout.specs.Bounds.{Bounds, bounds_of}
use Rattle.tk_base.specs.declared.kinds.PairKind.TheVariants.{ReadWrite, Readable}
use Rattle.grant_model.specs.Grants.{Grant, grant_of, pairs_of}
use Rattle.board_memory.specs.Memory.{MemoryBytes}
use Rattle.process_model.specs.Own.{Own}
use Rattle.upcall_queue.specs.declared.inbox.Inbox.{Inbox}
use Rattle.process_seat.specs.declared.seat.Seat.{Seat}
use Rattle.process_seat.specs.Places.{FitsMemory}
use Rattle.process_seat.specs.Windows.{SameOutside}
use Rattle.process_seat.specs.Seats.{Holds, IsSeated, LiesBelowMark, Reseats, app_in, kernel_in, own_in, owned}
use Rattle.process_seat.specs.Seen.{IsLentTo, LiesOutside, SameButIn, VisitorChanges, ServesIn, writable_buffers}
use Rattle.process_seat.specs.Seen.{writable_of}
use Rattle.process_seat.proofs.Buffers.{all_of}
use Rattle.process_seat.proofs.Reseated.{settled_in}
use Rattle.process_seat.proofs.Windows.{length_window, short, window_at, windows_same, widened}

all_at : (P : ℕ × ℕ → Type 0) (ps : List (ℕ × ℕ)) → ((n : ℕ) → P (get_or ps n (0, 0))) → AllByRecursion P ps
all_at P [] each = tt
all_at P (p ∷ ps) each = (each 0, all_at P ps (λ n. each (suc n)))

all_joined : (P : ℕ × ℕ → Type 0) (ps qs : List (ℕ × ℕ)) → AllByRecursion P ps → AllByRecursion P qs
    → AllByRecursion P (ps ++ qs)
all_joined P [] qs p q = q
all_joined P (pair ∷ ps) qs p q = (p.0, all_joined P ps qs p.1 q)

-- all buffers that the driver may write lie below the mark
all_below : (e : Bounds) (o : Option Grant) → ((g : Grant) → o ≡ Some g → Holds e g)
    → AllByRecursion (LiesBelowMark e) (writable_of o)
all_below e None holds = tt
all_below e (Some g) holds =
    let each = (holds g refl).each in
    all_joined (LiesBelowMark e) (pairs_of ReadWrite g) (pairs_of Readable g)
    (all_at (LiesBelowMark e) (pairs_of ReadWrite g) (each ReadWrite))
    (all_at (LiesBelowMark e) (pairs_of Readable g) (each Readable))

-- an address outside of a layout's own part lies in none of them
outside : (e : LayoutView) (a : ℕ) (buffers : List (ℕ × ℕ)) → e.mark ≤ e.kernel_break
    → (a < e.start) ⊎ (e.kernel_break ≤ a) → AllByRecursion (LiesBelowMark (bounds_of e)) buffers
    → LiesOutside a buffers
outside e a [] mark side all = tt
outside e a (b ∷ bs) mark side all = (one (cases_lt 0 b.1) side, outside e a bs mark side all.1)
  where
    one : (0 < b.1) ⊎ (b.1 ≤ 0) → (a < e.start) ⊎ (e.kernel_break ≤ a) → (a < b.0) ⊎ (b.0 + b.1 ≤ a)
    one (inl n) (inl l) = inl (omega (arith, (all.0 n).0))
    one (inl n) (inr l) = inr (omega (arith, (all.0 n).1))
    one (inr none) at = elim (cases_lt a b.0) [ inl l ↦ inl l | inr l ↦ inr (omega arith) ]

past : (xs : List ℕ) (k : ℕ) → length xs ≤ k → slice_index xs k ≡ 0
past xs k h = grind (arith, places)

-- a window of bytes that are the same but in some buffers
window_but : (buffers : List (ℕ × ℕ)) (xs ys : List ℕ) (from a b : ℕ) → RAM_START ≤ from → a ≡ from - RAM_START
    → b ≤ length xs → SameButIn buffers RAM_START xs ys
    → SameButIn buffers from (slice_range xs a b) (slice_range ys a b)
window_but buffers xs ys from a b low at to same = record {
  long = long;
  each = λ k out. elim (cases_lt k (b - a)) [
    | inl h ↦
        let is : from + k ≡ RAM_START + (a + k) = omega arith in
        window_at ys a b k h ∙ same.each (a + k) (subst (λ (n : ℕ). LiesOutside n buffers) is out)
        ∙ sym (window_at xs a b k h)
    | inr h ↦
        past (slice_range ys a b) k (omega (arith, short ys a b))
        ∙ sym (past (slice_range xs a b) k (omega (arith, short xs a b)))
  ];
}
  where
    long : length (slice_range ys a b) ≡ length (slice_range xs a b)
    long = length_window ys a b (omega (arith, same.long)) ∙ sym (length_window xs a b to)

-- a driver has served a process in its seat
module _ (driver : ℕ) (counts : Counts) (m : MemoryBytes) (seat : Seat) (l : IsLentTo driver counts m seat)
    (m' : MemoryBytes) (seat' : Seat) (v : ServesIn driver m seat m' seat') where
  own_part : SameOutside (seat.layout.start - RAM_START) (seat.layout.kernel_break - RAM_START) m.ram m'.ram
  own_part =
      let s = l.sits.settled in
      let gs = (own_in m.ram seat).grants in
      let all : AllByRecursion (LiesBelowMark (bounds_of seat.layout)) (writable_buffers driver (own_in m.ram seat)) =
      all_below (bounds_of seat.layout) (grant_of driver gs)
      (λ g is. all_of (Holds (bounds_of seat.layout)) driver g gs l.sits.seated.kept.held is) in
      record {
        long = v.bytes.long;
        each = λ k side.
            v.bytes.each k (outside seat.layout (RAM_START + k) (writable_buffers driver (own_in m.ram seat))
            (omega (arith, s.ordered.buffers, s.ordered.grants))
            (elim side [ inl low ↦ inl (omega arith) | inr high ↦ inr (omega arith) ]) all);
      }

  pub kernel_same : kernel_in m'.ram seat.layout ≡ kernel_in m.ram seat.layout
  kernel_same = windows_same m.ram m'.ram (seat.layout.start - RAM_START) (seat.layout.kernel_break - RAM_START)
      (seat.layout.kernel_break - RAM_START) (seat.layout.end - RAM_START) own_part (inr (omega arith))

  layout_same : seat'.layout ≡ seat.layout
  layout_same = ap (λ (x : Seat). x.layout) v.seat_is

  seated_with : (inbox : Inbox) → IsSeated (length m'.flash) m'.ram (record seat { inbox = inbox })
  seated_with inbox = record {
    object = rw v.flash l.sits.seated.object;
    kept = rw kernel_same l.sits.seated.kept;
  }

  settled_same : FitsMemory (length m'.flash) (length m'.ram) seat.layout
  settled_same = settled_in m m' seat.layout v.flash v.bytes.long l.sits.settled

  -- it is lent as before
  pub still_lent : IsLentTo driver counts m' seat'
  still_lent = record {
    sits = record {
      settled = rw layout_same settled_same;
      seated = subst (IsSeated (length m'.flash) m'.ram) (sym v.seat_is) (seated_with seat'.inbox);
    };
    counts_are = l.counts_are;
  }

  -- it is a seat as before
  pub serving_reseats : Reseats m seat m' seat'
  serving_reseats = record {
    flash = v.flash;
    elsewhere = widened m.ram m'.ram (seat.layout.start - RAM_START) (seat.layout.kernel_break - RAM_START)
        (seat.layout.start - RAM_START) (seat.layout.end - RAM_START) own_part (omega arith)
        (omega (arith, l.sits.settled.ordered.end));
    start = ap (λ (x : LayoutView). x.start) layout_same;
    end = ap (λ (x : LayoutView). x.end) layout_same;
    object = ap (λ (x : Seat). x.object) v.seat_is;
    permissions = ap (λ (x : Seat). x.has_permissions) v.seat_is;
    sits = still_lent.sits;
  }

  -- what is the process's own
  own_with : (inbox : Inbox)
      → own_in m'.ram (record seat { inbox = inbox })
      ≡ record (own_in m.ram seat) {
        ram = app_in m'.ram seat.layout;
        inbox = inbox;
      }
  own_with inbox = ap (owned (record seat { inbox = inbox }) (app_in m'.ram seat.layout)) kernel_same

  pub own_same : own_in m'.ram seat'
      ≡ record (own_in m.ram seat) {
        ram = app_in m'.ram seat.layout;
        inbox = seat'.inbox;
      }
  own_same = ap (own_in m'.ram) v.seat_is ∙ own_with seat'.inbox

  app_bytes : SameButIn (writable_buffers driver (own_in m.ram seat)) seat.layout.start (app_in m.ram seat.layout)
      (app_in m'.ram seat.layout)
  app_bytes = window_but (writable_buffers driver (own_in m.ram seat)) m.ram m'.ram seat.layout.start
      (seat.layout.start - RAM_START) (seat.layout.kernel_break - RAM_START) l.sits.settled.from refl
      (omega (arith, l.sits.settled.to, l.sits.settled.from, l.sits.settled.ordered.end)) v.bytes

  pub serving_own : VisitorChanges driver (own_in m.ram seat) (own_in m'.ram seat')
  serving_own = record {
    rest = own_same
        ∙ sym (ap (λ (o : Own). record (own_in m.ram seat) { ram = o.ram; inbox = o.inbox })
        own_same);
    bytes = subst (λ (xs : List ℕ). SameButIn (writable_buffers driver (own_in m.ram seat)) seat.layout.start
        (app_in m.ram seat.layout) xs) (sym (ap (λ (o : Own). o.ram) own_same)) app_bytes;
  }

  -- the buffers that it may write are the same
  pub buffers_same : writable_buffers driver (own_in m'.ram seat') ≡ writable_buffers driver (own_in m.ram seat)
  buffers_same = ap (λ (o : Own). writable_buffers driver o) own_same

-- it serves it once more
pub serving_on : (driver : ℕ) (counts : Counts) (m : MemoryBytes) (seat : Seat) (m1 : MemoryBytes) (seat1 : Seat)
    (m2 : MemoryBytes) (seat2 : Seat) → IsLentTo driver counts m seat → ServesIn driver m seat m1 seat1
    → ServesIn driver m1 seat1 m2 seat2 → ServesIn driver m seat m2 seat2
serving_on driver counts m seat m1 seat1 m2 seat2 l v w = record {
  seat_is = w.seat_is ∙ ap (λ (x : Seat). record x { inbox = seat2.inbox }) v.seat_is;
  flash = w.flash ∙ v.flash;
  bytes = record {
    long = w.bytes.long ∙ v.bytes.long;
    each = λ k out.
        w.bytes.each k (rw (buffers_same driver counts m seat l m1 seat1 v) out) ∙ v.bytes.each k out;
  };
}

-- it need not change anything
pub serving_nothing : (driver : ℕ) (m : MemoryBytes) (seat : Seat) → ServesIn driver m seat m seat
serving_nothing driver m seat =
    record { seat_is = refl; flash = refl; bytes = record { long = refl; each = λ k out. refl } }
