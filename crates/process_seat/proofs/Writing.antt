-- Bytes that a driver wrote into a buffer of a process: a window of RAM was written over, which is the own's bytes
-- written over at the buffer (`over_within`), and nothing outside of it changed. The buffer may be written, so it lies
-- below the mark; one without bytes changes nothing. This file alone cuts RAM at a buffer.
use Rattle.std.proofs.Common.{◌≡◌, ℕ, ◌+◌, ◌-◌, ◌<◌, ◌≤◌, ◌⊎◌, inl, inr, ◌==◌, Bool, IsTrue, true, false, cond, List}
use Rattle.std.proofs.Common.{[], ◌∷◌, ◌++◌, length, take, Option, None, Some, refl, sym, ap, ◌∙◌}
use Rattle.std.proofs.Common.{rules, arith}
use Rattle.std.specs.Prelude.{slice_range}
use Rattle.std.specs.List.{AllByRecursion}
use Rattle.std.proofs.lemmas.Bool.{cases_lt}
use Rattle.std.proofs.lemmas.Bool.{eqb-true}
use Rattle.std.proofs.lemmas.Bool.Decides.{nat_tests}
use Rattle.std.proofs.lemmas.Grind.{same_number_lists}
use Rattle.std.proofs.lemmas.List.{places, take-append-drop, length-take}
use Rattle.tk_base.specs.declared.access.TheConstants.{RAM_START}
use Rattle.tk_base.specs.declared.upcall.Counts.{Counts}
use Rattle.tk_base.specs.declared.kinds.PairKind.{PairKind}
use Rattle.tk_base.specs.declared.kinds.PairKind.TheVariants.{ReadWrite, Readable}
use Rattle.tk_base.specs.Kinds.{is_writable}
use Rattle.grant_model.specs.Grants.{Grant, grant_of, pair_of, pairs_of}
use Rattle.process_layout.specs.Bounds.{bounds_of}
use Rattle.board_memory.specs.Memory.{MemoryBytes, with_run}
use Rattle.tk_base.specs.Bytes.{over}
use Rattle.process_model.specs.Handed.{held}
use Rattle.process_model.specs.Served.{ram_at, fitting, with_written}
use Rattle.process_seat.specs.declared.seat.Seat.{Seat}
use Rattle.process_seat.specs.Seats.{LiesBelowMark, own_in}
use Rattle.process_seat.specs.Seen.{IsLentTo, LiesOutside, ServesIn, writable_of}
use Rattle.process_seat.specs.Buffers.{buffer_start}
use Rattle.process_seat.proofs.Blocks.{run_is}
use Rattle.process_seat.proofs.Buffers.{below_held, own_bytes, pair_at, no_range}
use Rattle.process_seat.proofs.Serving.{own_same, serving_nothing}
use Rattle.process_seat.proofs.Windows.{length_window, over_outside}

-- nothing that is written changes nothing
over_nothing : (xs : List ℕ) (at : ℕ) → over xs at [] ≡ xs
over_nothing xs at = take-append-drop at xs

-- a window that holds what was written
over_within : (xs ys : List ℕ) (at a b : ℕ) → a ≤ at → at + length ys ≤ b → b ≤ length xs
    → slice_range (over xs at ys) a b ≡ over (slice_range xs a b) (at - a) ys
over_within xs ys at a b low high to = same_number_lists _ _ (search (rules, places)) (λ k h. grind (arith, places))

-- bytes written into a run that was taken out, and that is put back
over_run : (xs ys : List ℕ) (at size offset : ℕ) → at + size ≤ length xs → offset + length ys ≤ size
    → over xs at (over (slice_range xs at (at + size)) offset ys) ≡ over xs (at + offset) ys
over_run xs ys at size offset to fits = same_number_lists _ _ (search (rules, places)) (λ k h. grind (arith, places))

length_over : (xs ys : List ℕ) (at : ℕ) → at + length ys ≤ length xs → length (over xs at ys) ≡ length xs
length_over xs ys at fits = (over_outside xs ys at fits).long

-- what holds of all of two lists holds of each
all_parts : (P : ℕ × ℕ → Type 0) (ps qs : List (ℕ × ℕ)) → AllByRecursion P (ps ++ qs)
    → AllByRecursion P ps × AllByRecursion P qs
all_parts P [] qs all = (tt, all)
all_parts P (pair ∷ ps) qs all = let later = all_parts P ps qs all.1 in ((all.0, later.0), later.1)

-- what lies outside of all buffers lies outside of one
outside_at : (kind : PairKind) (o : Option Grant) (n a : ℕ) → IsTrue (is_writable kind) → LiesOutside a (writable_of o)
    → let b = pair_of kind n o in (a < b.0) ⊎ (b.0 + b.1 ≤ a)
outside_at kind None n a can out = inr (omega arith)
outside_at kind (Some g) n a can out = pair_at Beside (pairs_of kind g) n (inr (omega arith)) (of_kind kind can)
  where
    Beside : ℕ × ℕ → Type 0
    Beside b = (a < b.0) ⊎ (b.0 + b.1 ≤ a)

    of_kind : (k : PairKind) → IsTrue (is_writable k) → AllByRecursion Beside (pairs_of k g)
    of_kind ReadWrite can = (all_parts Beside (pairs_of ReadWrite g) (pairs_of Readable g) out).0
    of_kind Readable can = (all_parts Beside (pairs_of ReadWrite g) (pairs_of Readable g) out).1
    of_kind other can = absurd (cc)

-- bytes were written into a buffer of a process, from an offset in it on, as many as fit
pub record Wrote (kind : PairKind) (driver n offset : ℕ) (bs : List ℕ) (m : MemoryBytes) (seat : Seat)
    (m' : MemoryBytes) : Type 0 where
  pub serves : ServesIn driver m seat m' seat
  pub own : own_in m'.ram seat ≡ with_written kind driver n offset bs (own_in m.ram seat)

module _ (kind : PairKind) (can : IsTrue (is_writable kind)) (driver n : ℕ) (counts : Counts) (m : MemoryBytes)
    (seat : Seat) (l : IsLentTo driver counts m seat) (offset : ℕ) (bs : List ℕ) where
  none_fit : (size : ℕ) → size ≤ offset → take (size - offset) bs ≡ []
  none_fit size h = let z : size - offset ≡ 0 = omega arith in ap (λ (k : ℕ). take k bs) z

  -- nothing was written
  nothing : (m' : MemoryBytes) → m' ≡ m → fitting (held kind driver n (own_in m.ram seat)) offset bs ≡ []
      → Wrote kind driver n offset bs m seat m'
  nothing m' same none =
      rw same (record { serves = serving_nothing driver m seat; own = rw (none, over_nothing) refl })

  -- bytes in RAM were written
  some_in : (buffer : ℕ × ℕ) → buffer ≡ held kind driver n (own_in m.ram seat) → seat.layout.start ≤ buffer.0
      → buffer.0 + buffer.1 ≤ seat.layout.mark → offset ≤ buffer.1 → (m' : MemoryBytes)
      → m' ≡ record m { ram = over m.ram (buffer.0 - RAM_START + offset) (fitting buffer offset bs) }
      → Wrote kind driver n offset bs m seat m'
  some_in buffer is low high order m' made =
      let s = l.sits.settled in
      let own = own_in m.ram seat in
      let fit = fitting buffer offset bs in
      let at = buffer.0 - RAM_START + offset in
      let long : length fit ≤ buffer.1 - offset = omega (arith, length-take (buffer.1 - offset) bs) in
      let fits : at + length fit ≤ length m.ram =
      omega (arith, s.to, s.from, s.ordered.buffers, s.ordered.grants, s.ordered.end) in
      let out = over_outside m.ram fit at fits in
      let serves : ServesIn driver m seat (record m { ram = over m.ram at fit }) seat = record {
        seat_is = refl;
        flash = refl;
        bytes = record {
          long = out.long;
          each = λ k lies.
              out.each k (places_of k at (length fit)
              (rw is (outside_at kind (grant_of driver own.grants) n (RAM_START + k) can lies)) refl long);
        };
      } in
      rw made (record {
        serves = serves;
        own = own_same driver counts m seat l (record m { ram = over m.ram at fit }) seat serves
            ∙ ap (λ (xs : List ℕ). record own { ram = xs })
            (over_within m.ram fit at (seat.layout.start - RAM_START) (seat.layout.kernel_break - RAM_START)
            (omega (arith, s.from)) (omega (arith, s.from, s.ordered.buffers, s.ordered.grants))
            (omega (arith, s.to, s.from, s.ordered.end)))
            ∙ rw (place s.from low, is);
      })
    where
      place : RAM_START ≤ seat.layout.start → seat.layout.start ≤ buffer.0
          → buffer.0 - RAM_START + offset - (seat.layout.start - RAM_START) ≡ buffer.0 - seat.layout.start + offset
      place from low = omega arith

      places_of : (k at size : ℕ) → (RAM_START + k < buffer.0) ⊎ (buffer.0 + buffer.1 ≤ RAM_START + k)
          → at ≡ buffer.0 - RAM_START + offset → size ≤ buffer.1 - offset → (k < at) ⊎ (at + size ≤ k)
      places_of k at size (inl h) e g = inl (omega arith)
      places_of k at size (inr h) e g = inr (omega (arith, l.sits.settled.from))

  -- as the code leaves memory
  wrote_by : (buffer : ℕ × ℕ) (a : Bool) → buffer.1 == 0 ≡ a → buffer ≡ held kind driver n (own_in m.ram seat)
      → (lent left : List ℕ) → lent ≡ ram_at (own_in m.ram seat) buffer
      → left ≡ over lent offset (take (length lent - offset) bs) → LiesBelowMark (bounds_of seat.layout) buffer
      → Wrote kind driver n offset bs m seat (with_run m (cond a seat.layout.start buffer.0) left)
  wrote_by buffer true none is lent left was made lies =
      let s = l.sits.settled in
      let z : buffer.1 ≡ 0 = eqb-true buffer.1 0 none in
      let empty : lent ≡ [] =
      was ∙ no_range (own_in m.ram seat).ram (buffer.0 - seat.layout.start)
      (buffer.0 - seat.layout.start + buffer.1) (omega arith) in
      let gone : left ≡ [] =
      made ∙ ap (λ (xs : List ℕ). over xs offset (take (length xs - offset) bs)) empty
      ∙ ap (over [] offset) (none_fit 0 (omega arith)) ∙ over_nothing [] offset in
      nothing (with_run m seat.layout.start left)
      (ap (with_run m seat.layout.start) gone
      ∙ run_is m seat.layout.start [] (omega
      (arith, s.to, s.from, s.ordered.block, s.ordered.grants, s.ordered.end))
      ∙ ap (λ (xs : List ℕ). record m { ram = xs }) (over_nothing m.ram (seat.layout.start - RAM_START)))
      (ap (λ (b : ℕ × ℕ). fitting b offset bs) (sym is) ∙ none_fit buffer.1 (omega arith))
  wrote_by buffer false none is lent left was made lies =
      let s = l.sits.settled in
      let some : 0 < buffer.1 = grind (arith, nat_tests) in
      let at = lies some in
      let end : buffer.0 + buffer.1 ≤ seat.layout.brk = omega (arith, at.1, s.ordered.buffers) in
      let to : buffer.0 - RAM_START + buffer.1 ≤ length m.ram =
      omega (arith, s.to, s.from, s.ordered.grants, s.ordered.end, at.0) in
      let same : buffer.0 + buffer.1 - RAM_START ≡ buffer.0 - RAM_START + buffer.1 = omega (arith, s.from, at.0) in
      let run : lent ≡ slice_range m.ram (buffer.0 - RAM_START) (buffer.0 - RAM_START + buffer.1) =
      was ∙ sym (own_bytes m seat s buffer at.0 end) ∙ ap (slice_range m.ram (buffer.0 - RAM_START)) same in
      let size : length lent ≡ buffer.1 =
      ap length run ∙ length_window m.ram (buffer.0 - RAM_START) (buffer.0 - RAM_START + buffer.1) to
      ∙ omega arith in
      let now : left ≡ over (slice_range m.ram (buffer.0 - RAM_START) (buffer.0 - RAM_START + buffer.1)) offset
      (fitting buffer offset bs) =
      made ∙ ap (λ (k : ℕ). over lent offset (take (k - offset) bs)) size
      ∙ ap (λ (xs : List ℕ). over xs offset (fitting buffer offset bs)) run in
      by_offset (cases_lt buffer.1 offset) now to at.0 at.1
    where
      by_offset : (buffer.1 < offset) ⊎ (offset ≤ buffer.1)
          → left ≡ over (slice_range m.ram (buffer.0 - RAM_START) (buffer.0 - RAM_START + buffer.1)) offset
          (fitting buffer offset bs) → buffer.0 - RAM_START + buffer.1 ≤ length m.ram → seat.layout.start ≤ buffer.0
          → buffer.0 + buffer.1 ≤ seat.layout.mark → Wrote kind driver n offset bs m seat (with_run m buffer.0 left)
      by_offset (inl past) now to low high =
          let xs = slice_range m.ram (buffer.0 - RAM_START) (buffer.0 - RAM_START + buffer.1) in
          let none : fitting buffer offset bs ≡ [] = none_fit buffer.1 (omega arith) in
          let whole : left ≡ xs = now ∙ ap (over xs offset) none ∙ over_nothing xs offset in
          let back : over m.ram (buffer.0 - RAM_START) xs ≡ m.ram =
          ap (over m.ram (buffer.0 - RAM_START)) (sym (over_nothing xs 0))
          ∙ over_run m.ram [] (buffer.0 - RAM_START) buffer.1 0 to (omega arith)
          ∙ over_nothing m.ram (buffer.0 - RAM_START + 0) in
          let size : length xs ≡ buffer.1 =
          length_window m.ram (buffer.0 - RAM_START) (buffer.0 - RAM_START + buffer.1) to ∙ omega arith in
          nothing (with_run m buffer.0 left)
          (ap (with_run m buffer.0) whole ∙ run_is m buffer.0 xs (omega arith)
          ∙ ap (λ (ys : List ℕ). record m { ram = ys }) back)
          (ap (λ (b : ℕ × ℕ). fitting b offset bs) (sym is) ∙ none)
      by_offset (inr order) now to low high =
          let xs = slice_range m.ram (buffer.0 - RAM_START) (buffer.0 - RAM_START + buffer.1) in
          let fit = fitting buffer offset bs in
          let long : length fit ≤ buffer.1 - offset = omega (arith, length-take (buffer.1 - offset) bs) in
          let size : length xs ≡ buffer.1 =
          length_window m.ram (buffer.0 - RAM_START) (buffer.0 - RAM_START + buffer.1) to ∙ omega arith in
          let room : offset + length fit ≤ length xs = omega arith in
          let left_size : length left ≡ buffer.1 = ap length now ∙ length_over xs fit offset room ∙ size in
          some_in buffer is low high order (with_run m buffer.0 left)
          (run_is m buffer.0 left (omega arith)
          ∙ ap (λ (ys : List ℕ). record m { ram = over m.ram (buffer.0 - RAM_START) ys }) now
          ∙ ap (λ (ys : List ℕ). record m { ram = ys })
          (over_run m.ram fit (buffer.0 - RAM_START) buffer.1 offset to (omega arith)))

  pub wrote : (lent left : List ℕ) → lent ≡ ram_at (own_in m.ram seat) (held kind driver n (own_in m.ram seat))
      → left ≡ over lent offset (take (length lent - offset) bs)
      → Wrote kind driver n offset bs m seat (with_run m
      (buffer_start seat.layout (held kind driver n (own_in m.ram seat))) left)
  wrote lent left was made =
      let buffer = held kind driver n (own_in m.ram seat) in
      wrote_by buffer (buffer.1 == 0) refl refl lent left was made (below_held m seat l.sits kind driver n can)

  -- how many bytes the buffer has
  pub size_is : (lent : List ℕ) → lent ≡ ram_at (own_in m.ram seat) (held kind driver n (own_in m.ram seat))
      → length lent ≡ (held kind driver n (own_in m.ram seat)).1
  size_is lent was = let buffer = held kind driver n (own_in m.ram seat) in
      by_size buffer (buffer.1 == 0) refl (below_held m seat l.sits kind driver n can) was
    where
      by_size : (buffer : ℕ × ℕ) (a : Bool) → buffer.1 == 0 ≡ a → LiesBelowMark (bounds_of seat.layout) buffer
          → lent ≡ ram_at (own_in m.ram seat) buffer → length lent ≡ buffer.1
      by_size buffer true none lies was =
          let z : buffer.1 ≡ 0 = eqb-true buffer.1 0 none in
          ap length (was ∙ no_range (own_in m.ram seat).ram (buffer.0 - seat.layout.start)
          (buffer.0 - seat.layout.start + buffer.1) (omega arith)) ∙ sym z
      by_size buffer false none lies was =
          let s = l.sits.settled in
          let some : 0 < buffer.1 = grind (arith, nat_tests) in
          let at = lies some in
          let end : buffer.0 + buffer.1 ≤ seat.layout.brk = omega (arith, at.1, s.ordered.buffers) in
          ap length (was ∙ sym (own_bytes m seat s buffer at.0 end))
          ∙ length_window m.ram (buffer.0 - RAM_START) (buffer.0 + buffer.1 - RAM_START)
          (omega (arith, s.to, s.from, s.ordered.grants, s.ordered.end)) ∙ omega (arith, s.from, at.0)

-- a whole run is written over
over_all : (xs bytes : List ℕ) → length bytes ≡ length xs → bytes ≡ over xs 0 (take (length xs - 0) bytes)
over_all xs bytes long = same_number_lists _ _ (search (rules, places)) (λ k h. grind (arith, places))

-- other bytes stand in a buffer that was lent
pub buffer_written : (kind : PairKind) → IsTrue (is_writable kind) → (driver n : ℕ) (counts : Counts) (m : MemoryBytes)
    (seat : Seat) → IsLentTo driver counts m seat
    → (bytes : List ℕ)
    → length bytes ≡ length (ram_at (own_in m.ram seat) (held kind driver n (own_in m.ram seat)))
    → Wrote kind driver n 0 bytes m seat (with_run m (buffer_start seat.layout (held kind driver n (own_in m.ram seat)))
    bytes)
buffer_written kind can driver n counts m seat l bytes long = let lent =
    ram_at (own_in m.ram seat) (held kind driver n (own_in m.ram seat)) in
    wrote kind can driver n counts m seat l 0 bytes lent bytes refl (over_all lent bytes long)
