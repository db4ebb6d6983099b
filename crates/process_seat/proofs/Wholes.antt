-- The bytes of the buffers that a process has allowed a driver.
use Rattle.std.proofs.Common.{◌≡◌, ℕ, zero, suc, ◌+◌, ◌-◌, ◌<◌, ◌≤◌, ◌==◌, Bool, true, false, cond, List}
use Rattle.std.proofs.Common.{[], ◌∷◌, ◌++◌, length, map, take, drop, refl, sym, ap, ◌∙◌, arith}
use Rattle.std.specs.Prelude.{slice_range}
use Rattle.std.specs.List.{range_with_len}
use Rattle.std.proofs.lemmas.Bool.{eqb-true}
use Rattle.std.proofs.lemmas.Bool.Decides.{nat_tests}
use Rattle.std.proofs.lemmas.List.{length-take, length-drop, take-append-drop}
use Rattle.std.proofs.lemmas.List.FromFn.{length-map-range_with_len}
use Rattle.tk_base.specs.declared.access.TheConstants.{RAM_START}
use Rattle.process_layout.specs.Bounds.{bounds_of}
use Rattle.board_memory.specs.Memory.{MemoryBytes}
use Rattle.process_model.specs.Own.{Own}
use Rattle.process_model.specs.Handed.{lies_in_ram}
use Rattle.process_model.specs.Flash.{flash_byte}
use Rattle.process_model.specs.Served.{bytes_at, ram_at, own_written}
use Rattle.tk_base.specs.Bytes.{over}
use Rattle.process_seat.specs.declared.seat.Seat.{Seat}
use Rattle.process_seat.specs.Places.{FitsMemory}
use Rattle.process_seat.specs.Seats.{LiesBelowMark, app_in, own_in}
use Rattle.process_seat.proofs.Windows.{length_window}

-- so many bytes from a place on, where there are so many
length_range : (xs : List ℕ) (at size : ℕ) → at + size ≤ length xs → length (slice_range xs at (at + size)) ≡ size
length_range xs at size h = simp (length-take, length-drop) (omega arith)

length_none : (xs : List ℕ) (at size : ℕ) → size ≡ 0 → length (slice_range xs at (at + size)) ≡ size
length_none xs at size h = simp (length-take, length-drop) (omega arith)

module _ (m : MemoryBytes) (seat : Seat) (s : FitsMemory (length m.flash) (length m.ram) seat.layout) where
  -- of RAM
  in_ram : (buffer : ℕ × ℕ) → seat.layout.start ≤ buffer.0 → buffer.0 + buffer.1 ≤ seat.layout.brk
      → length (ram_at (own_in m.ram seat) buffer) ≡ buffer.1
  in_ram buffer low high =
      let own = length_window m.ram (seat.layout.start - RAM_START) (seat.layout.kernel_break - RAM_START)
      (omega (arith, s.to, s.ordered.end)) in
      length_range (app_in m.ram seat.layout) (buffer.0 - seat.layout.start) buffer.1
      (omega (arith, own, s.from, s.ordered.grants))

  pub rw_whole : (buffer : ℕ × ℕ) → LiesBelowMark (bounds_of seat.layout) buffer
      → length (ram_at (own_in m.ram seat) buffer) ≡ buffer.1
  rw_whole buffer lies = by_size (buffer.1 == 0) refl
    where
      by_size : (a : Bool) → buffer.1 == 0 ≡ a → length (ram_at (own_in m.ram seat) buffer) ≡ buffer.1
      by_size true none =
          length_none (own_in m.ram seat).ram (buffer.0 - seat.layout.start) buffer.1 (eqb-true buffer.1 0 none)
      by_size false none =
          let some : 0 < buffer.1 = grind (arith, nat_tests) in
          let l = lies some in
          in_ram buffer l.0 (omega (arith, s.ordered.buffers, l.1))

  pub ro_whole : (buffer : ℕ × ℕ) → length (bytes_at (flash_byte m.flash) (own_in m.ram seat) buffer) ≡ buffer.1
  ro_whole buffer = by_place (buffer.1 == 0) (lies_in_ram (bounds_of seat.layout) buffer.0 buffer.1) refl refl
    where
      by_place : (a b : Bool) → buffer.1 == 0 ≡ a → lies_in_ram (bounds_of seat.layout) buffer.0 buffer.1 ≡ b
          → length (cond b (ram_at (own_in m.ram seat) buffer)
          (map (flash_byte m.flash) (range_with_len buffer.0 buffer.1))) ≡ buffer.1
      by_place a false none is = length-map-range_with_len (flash_byte m.flash) buffer.0 buffer.1
      by_place true true none is =
          length_none (own_in m.ram seat).ram (buffer.0 - seat.layout.start) buffer.1 (eqb-true buffer.1 0 none)
      by_place false true none is = in_ram buffer (grind (arith, nat_tests)) (grind (arith, nat_tests))

same_front : (n m : ℕ) (xs : List ℕ) → take n (take m xs) ++ drop (length (take n (take m xs))) xs ≡ xs
same_front zero m xs = refl
same_front (suc n) zero xs = refl
same_front (suc n) (suc m) [] = refl
same_front (suc n) (suc m) (x ∷ xs) = ap (λ ys. x ∷ ys) (same_front n m xs)

merged : (n m : ℕ) (bs xs : List ℕ) → length bs ≤ length (take m xs)
    → take n (bs ++ drop (length bs) (take m xs)) ++ drop (length (take n (bs ++ drop (length bs) (take m xs)))) xs
    ≡ take n bs ++ drop (length (take n bs)) xs
merged zero m bs xs h = refl
merged (suc n) m [] xs h = same_front (suc n) m xs
merged (suc n) zero (b ∷ bs) xs h = absurd (omega (arith, h))
merged (suc n) (suc m) (b ∷ bs) [] h = absurd (omega (arith, h))
merged (suc n) (suc m) (b ∷ bs) (x ∷ xs) h = ap (λ ys. b ∷ ys) (merged n m bs xs (omega (arith, h)))

over_merged : (at place n m : ℕ) (bs xs : List ℕ) → at ≡ place → length bs ≤ length (take m (drop place xs))
    → over xs at (take n (over (take m (drop place xs)) 0 bs)) ≡ over xs at (take n bs)
over_merged at place n m bs xs e h =
    ap (λ k. over xs k (take n (over (take m (drop place xs)) 0 bs))) e
    ∙ (ap (λ ys. take place xs ++ ys) (merged n m bs (drop place xs) h) ∙ ap (λ k. over xs k (take n bs)) (sym e))

-- bytes were put at a buffer's start, and that was written over the buffer
pub front_written : (own : Own) (buffer : ℕ × ℕ) (bs : List ℕ) → length bs ≤ length (ram_at own buffer)
    → own_written buffer 0 (over (ram_at own buffer) 0 bs) own ≡ own_written buffer 0 bs own
front_written own buffer bs h =
    let place = buffer.0 - own.layout.start in
    ap (λ ram. record own { ram = ram }) (over_merged (place + 0) place _ _ bs own.ram (omega arith) h)

over_same : (at place n m : ℕ) (xs : List ℕ) → at ≡ place → over xs at (take n (take m (drop place xs))) ≡ xs
over_same at place n m xs e =
    ap (λ k. over xs k (take n (take m (drop place xs)))) e
    ∙ (ap (λ ys. take place xs ++ ys) (same_front n m (drop place xs)) ∙ take-append-drop place xs)

-- a buffer's own bytes were written over it
pub same_written : (own : Own) (buffer : ℕ × ℕ) → own_written buffer 0 (ram_at own buffer) own ≡ own
same_written own buffer =
    let place = buffer.0 - own.layout.start in
    ap (λ ram. record own { ram = ram }) (over_same (place + 0) place _ _ own.ram (omega arith))
