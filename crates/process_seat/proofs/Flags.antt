-- A byte of the process's own was written.
use Rattle.std.proofs.Common.{◌≡◌, ℕ, zero, suc, ◌+◌, ◌-◌, ◌<◌, ◌≤◌, true, List, [], ◌∷◌, length, take, refl, sym, ap}
use Rattle.std.proofs.Common.{ap₂, subst, ◌∙◌, arith}
use Rattle.std.specs.Prelude.{slice_set, if◌then◌else◌}
use Rattle.std.proofs.lemmas.Bool.Decides.{nat_tests}
use Rattle.std.proofs.lemmas.List.{drop-set-lt, length-set}
use Rattle.process_layout.specs.Bounds.{bounds_of}
use Rattle.board_memory.specs.Memory.{MemoryBytes, ram_between, with_run}
use Rattle.process_model.specs.Handed.{lies_in_ram}
use Rattle.process_model.specs.Flag.{with_flag}
use Rattle.process_seat.specs.declared.seat.Seat.{Seat}
use Rattle.process_seat.specs.Seats.{IsKept, Reseats, SitsIn, app_in, kernel_in, own_in, owned}
use Rattle.process_seat.proofs.Blocks.{lent_app, lent_kernel, length_block, run_app, run_elsewhere, run_kernel}
use Rattle.process_seat.proofs.Reseated.{ram_reseats}

take-set-lt : (n : ℕ) (xs : List ℕ) (i a : ℕ) → i < n → take n (slice_set xs i a) ≡ slice_set (take n xs) i a
take-set-lt zero xs i a h = absurd (omega arith)
take-set-lt (suc n) [] i a h = refl
take-set-lt (suc n) (x ∷ xs) zero a h = refl
take-set-lt (suc n) (x ∷ xs) (suc i) a h = ap (λ (ys : List ℕ). x ∷ ys) (take-set-lt n xs i a (omega arith))

module _ (m : MemoryBytes) (seat : Seat) (t : SitsIn m seat) (at byte : ℕ) (low : seat.layout.start ≤ at)
    (high : at + 1 ≤ seat.layout.brk) where
  abbrev written : List ℕ
  written = slice_set (ram_between m.ram seat.layout.start seat.layout.end) (at - seat.layout.start) byte

  size : length (slice_set (ram_between m.ram seat.layout.start seat.layout.end) (at - seat.layout.start) byte)
      ≡ seat.layout.end - seat.layout.start
  size = length-set (ram_between m.ram seat.layout.start seat.layout.end) (at - seat.layout.start) byte
      ∙ length_block m seat.layout t.settled

  inside : at - seat.layout.start < seat.layout.kernel_break - seat.layout.start
  inside = omega (arith, t.settled.ordered.grants)

  app : app_in (with_run m seat.layout.start written).ram seat.layout
      ≡ slice_set (app_in m.ram seat.layout) (at - seat.layout.start) byte
  app =
      let e = seat.layout in
      let s = t.settled in
      run_app m e s written size e refl s.ordered.end
      ∙ take-set-lt (e.kernel_break - e.start) (ram_between m.ram e.start e.end) (at - e.start) byte inside
      ∙ ap (λ (xs : List ℕ). slice_set xs (at - e.start) byte) (lent_app m e s)

  kernel : kernel_in (with_run m seat.layout.start written).ram seat.layout ≡ kernel_in m.ram seat.layout
  kernel =
      let e = seat.layout in
      let s = t.settled in
      run_kernel m e s written size e refl refl (omega (arith, s.ordered.block, s.ordered.grants)) s.ordered.end
      ∙ drop-set-lt (e.kernel_break - e.start) (ram_between m.ram e.start e.end) (at - e.start) byte inside
      ∙ lent_kernel m e s

  pub flag_reseats : Reseats m seat (with_run m seat.layout.start written) seat
  flag_reseats =
      ram_reseats m seat seat (with_run m seat.layout.start written).ram
      (run_elsewhere m seat.layout t.settled written size) refl refl refl refl t.settled
      (record { object = t.seated.object; kept = subst (IsKept (bounds_of seat.layout)) (sym kernel) t.seated.kept })

  pub flag_own : own_in (with_run m seat.layout.start written).ram seat ≡ with_flag at byte (own_in m.ram seat)
  flag_own =
      let flagged : lies_in_ram (bounds_of seat.layout) at 1 ≡ true = grind (arith, nat_tests) in
      ap₂ (owned seat) app kernel
      ∙ sym (ap (λ (b : _). if b
      then record (own_in m.ram seat) { ram = slice_set (app_in m.ram seat.layout) (at - seat.layout.start) byte }
      else own_in m.ram seat) flagged)
