-- What an instruction over the whole of RAM leaves of what contracts see. Under registers that protect the process its
-- store lies in accessible RAM, so it changes this own's bytes alone, and its turn is the one that the own's bytes give
-- (`Sight`); the seat is one as before, and all other slots are as they were (`Moves`).
use Rattle.std.proofs.Common.{◌≡◌, ℕ, ◌+◌, ◌-◌, ◌≤◌, inr, IsTrue, List, length, IfSome, Option, None, Some, refl, sym}
use Rattle.std.proofs.Common.{ap, ap₂, subst, ◌∙◌, arith}
use Rattle.std.specs.Prelude.{slice_range}
use Rattle.std.proofs.lemmas.Bool.Decides.{nat_tests}
use Rattle.process_layout.specs.Bounds.{bounds_of}
use Rattle.process_layout.specs.Interval.{lies_within}
use Rattle.process_layout.specs.Ordered.{IsOrdered}
use Rattle.tk_base.specs.declared.access.Access.TheVariants.{Store}
use Rattle.tk_base.specs.declared.access.TheConstants.{RAM_START}
use Rattle.tk_base.specs.Regs.{Registers}
use Rattle.tk_base.specs.Access.{width_bytes}
use Rattle.tk_base.specs.Bus.{put}
use Rattle.tk_base.specs.Laws.{AStoreIsPut}
use Rattle.rv32_model.specs.declared.turn_end.TurnEnd.{TurnEnd}
use Rattle.rv32_model.specs.UserTurn.{UserTurn, Write}
use Rattle.rv32_model.specs.Laws.{SeesOnlyPermitted, WritesArePermitted}
use Rattle.pmp_regions.specs.declared.Entry.{Entry}
use Rattle.pmp_regions.specs.Check.{denied_by_registers}
use Rattle.board_memory.specs.Memory.{MemoryBytes}
use Rattle.board_memory.specs.Bytes.{memory_byte_at, StoresLieIn}
use Rattle.board_memory.specs.Registers.{Protect}
use Rattle.process_model.specs.Instruction.{instruction_of, ram_after, with_write}
use Rattle.process_seat.specs.declared.seat.Seat.{Seat}
use Rattle.grant_enter.specs.declared.home.Home.TheInside.{Inside}
use Rattle.grant_enter.specs.Homes.{Homes, IsInPlace, own_of, MakesInstruction}
use Rattle.memory_turns.specs.Reach.{turn_under}
use Rattle.process_seat.specs.Seats.{IsKept, Reseats, SitsIn, owned, kernel_in, own_in}
use Rattle.grant_enter.specs.Housed.{homes_of}
use Rattle.process_seat.proofs.Windows.{length_window, windows_same, put_outside, put_window, widened}
use Rattle.grant_enter.proofs.Sight.{same_turn, store_lies, stores_in_ram}
use Rattle.process_seat.proofs.Blocks.{break_is}
use Rattle.grant_enter.proofs.Moves.{Reads, layout_before, own_before, sits_before, still_shows}
use Rattle.process_seat.proofs.Reseated.{own_layout, ram_reseats, same_memory}

-- as much RAM as before
pub length_after : AStoreIsPut → (pmp : List Entry) (ram : List ℕ) (w : Option Write) → StoresLieIn (length ram) pmp
    → IfSome w (λ x. denied_by_registers pmp Store x.address x.width ≡ None)
    → length (ram_after RAM_START w ram) ≡ length ram
unfolding ram_after
length_after law pmp ram None s d = refl
length_after law pmp ram (Some w) s d =
    (law ram (w.address - RAM_START) w.width w.value (within (s.stores w.address w.width d))).length
  where
    within : IsTrue (lies_within RAM_START (RAM_START + length ram) w.address (width_bytes w.width))
        → w.address - RAM_START + width_bytes w.width ≤ length ram
    within l = let b = inside RAM_START (RAM_START + length ram) w.address (width_bytes w.width) l in
        omega (arith, b.0, b.1)
      where
        inside : (from to at size : ℕ) → IsTrue (lies_within from to at size) → (from ≤ at) × (at + size ≤ to)
        inside from to at size l = grind (arith, nat_tests)

-- what a permitted write to RAM leaves of a seat, and of what is its own
pub record Writes (m : MemoryBytes) (s : Seat) (w : Option Write) : Type 0 where
  pub reseats : Reseats m s (record m { ram = ram_after RAM_START w m.ram }) s
  pub own : own_in (ram_after RAM_START w m.ram) s
      ≡ record (own_in m.ram s) { ram = ram_after s.layout.start w (own_in m.ram s).ram }

pub writes_own : AStoreIsPut → (m : MemoryBytes) (pmp : List Entry) (s : Seat) → SitsIn m s
    → Protect pmp (bounds_of s.layout)
    → (w : Option Write) → IfSome w (λ x. denied_by_registers pmp Store x.address x.width ≡ None) → Writes m s w
unfolding ram_after
writes_own law m pmp s sits p None d = record { reseats = same_memory m s s refl refl refl refl sits; own = refl }
writes_own law m pmp s sits p (Some w) d =
    let t = sits.settled in
    let l = store_lies pmp s.layout w.address w.width p d in
    let at = w.address - RAM_START in
    let put_is = law m.ram at w.width w.value
    (omega (arith, l.0, l.1, t.from, t.to, t.ordered.grants, t.ordered.end)) in
    let outside = put_outside m.ram at w.width w.value put_is in
    let ram = put m.ram at w.width w.value in
    let app : slice_range ram (s.layout.start - RAM_START) (s.layout.kernel_break - RAM_START)
    ≡ put (own_in m.ram s).ram (w.address - s.layout.start) w.width w.value
    = put_window law m.ram at w.width w.value (s.layout.start - RAM_START) (s.layout.kernel_break - RAM_START)
    (omega (arith, l.0)) (omega (arith, l.0, l.1, t.from, t.ordered.grants))
    (omega (arith, t.to, t.ordered.end, t.from))
    ∙ ap (λ (k : ℕ). put (own_in m.ram s).ram k w.width w.value) (place w.address s.layout.start t.from l.0) in
    let kernel : kernel_in ram s.layout ≡ kernel_in m.ram s.layout
    = windows_same m.ram ram at (at + width_bytes w.width) (s.layout.kernel_break - RAM_START)
    (s.layout.end - RAM_START) outside (inr (omega (arith, l.0, l.1, t.from, t.ordered.grants))) in
    record {
      reseats =
          ram_reseats m s s ram (widened m.ram ram at (at + width_bytes w.width) (s.layout.start - RAM_START)
          (s.layout.end - RAM_START) outside (omega (arith, l.0))
          (omega (arith, l.0, l.1, t.from, t.ordered.grants, t.ordered.end))) refl refl refl refl t
          (record {
            object = sits.seated.object;
            kept = subst (IsKept (bounds_of s.layout)) (sym kernel)
                sits.seated.kept;
          });
      own = ap₂ (owned s) app kernel;
    }
  where
    place : (address start : ℕ) → RAM_START ≤ start → start ≤ address
        → address - RAM_START - (start - RAM_START) ≡ address - start
    place address start from in_block = omega arith

-- what is the own of a process in its seat lies in its place
pub own_in_place : (m : MemoryBytes) (s : Seat) → SitsIn m s → IsInPlace (own_in m.ram s)
own_in_place m s sits =
    let e = s.layout in
    let t = sits.settled in
    record {
      ordered = subst IsOrdered (sym (own_layout m s sits)) t.ordered;
      apart = omega (arith, t.below, t.from);
      ram = length_window m.ram (e.start - RAM_START) (e.kernel_break - RAM_START)
          (omega (arith, t.to, t.from, t.ordered.end))
          ∙ differ e.start e.kernel_break t.from (omega (arith, t.ordered.block, t.ordered.grants))
          ∙ ap (λ (n : ℕ). n - e.start) (break_is m e t sits.seated.kept.laid);
      kernel = ap length (sym sits.seated.kept.laid.bytes)
          ∙ length_window m.ram (e.kernel_break - RAM_START) (e.end - RAM_START) (omega (arith, t.to, t.from))
          ∙ differ e.kernel_break e.end (omega (arith, t.from, t.ordered.block, t.ordered.grants)) t.ordered.end
          ∙ ap (λ (n : ℕ). e.end - n) (break_is m e t sits.seated.kept.laid);
      sound = sits.seated.kept.laid.sound;
    }
  where
    differ : (a b : ℕ) → RAM_START ≤ a → a ≤ b → b - RAM_START - (a - RAM_START) ≡ b - a
    differ a b low order = omega arith

-- what is the own of a slot lies in its place
pub in_place : {h : Inside} {old : Homes} {slot index : ℕ} {seat : Seat} → Reads h old slot index seat
    → IsInPlace (own_of old slot)
in_place {h} {old} {slot} {index} {seat} r =
    subst IsInPlace (sym (own_before r)) (own_in_place h.memory seat (sits_before r))

-- the registers protect the process in a slot
pub protects : {h : Inside} {old : Homes} {slot index : ℕ} {seat : Seat} (r : Reads h old slot index seat)
    (pmp : List Entry) → Protect pmp (own_of old slot).layout → Protect pmp (bounds_of seat.layout)
protects r pmp p = subst (Protect pmp) (layout_before r) p

pub stores : {h : Inside} {old : Homes} {slot index : ℕ} {seat : Seat} (r : Reads h old slot index seat)
    (pmp : List Entry) → Protect pmp (own_of old slot).layout → StoresLieIn (length h.memory.ram) pmp
stores {h} r pmp p =
    stores_in_ram (length h.memory.flash) (length h.memory.ram) pmp _ (sits_before r).settled (protects r pmp p)

-- what an instruction over RAM leaves of its seat, and what it makes
module _ {h : Inside} {old : Homes} {slot index : ℕ} {seat : Seat} (r : Reads h old slot index seat) (law : AStoreIsPut)
    (writes : WritesArePermitted) (pmp : List Entry) (p : Protect pmp (own_of old slot).layout) (m : MemoryBytes)
    (regs : Registers) (is : m
    ≡ record h.memory {
      ram =
          ram_after RAM_START (turn_under pmp h.memory.flash h.memory.ram regs).write h.memory.ram;
    }) where
  left : Writes h.memory seat (turn_under pmp h.memory.flash h.memory.ram regs).write
  left = writes_own law h.memory pmp seat (sits_before r) (protects r pmp p)
      (turn_under pmp h.memory.flash h.memory.ram regs).write
      (writes (denied_by_registers pmp) (memory_byte_at h.memory.flash h.memory.ram) regs)

  pub changed : Reseats h.memory seat m seat
  changed = subst (λ (x : MemoryBytes). Reseats h.memory seat x seat) (sym is) left.reseats

  pub makes : (after : Registers) (end : TurnEnd) → SeesOnlyPermitted
      → after ≡ (turn_under pmp h.memory.flash h.memory.ram regs).regs
      → end ≡ (turn_under pmp h.memory.flash h.memory.ram regs).end
      → MakesInstruction old.flash (own_of old slot) regs
      (own_of (homes_of (record { memory = m; seats = h.seats })) slot) after end
  makes after end sees regs_is end_is =
      still_shows r m changed (λ flash own own_after. MakesInstruction flash own regs own_after after end) made
    where
      made : MakesInstruction h.memory.flash (own_in h.memory.ram seat) regs (own_in m.ram seat) after end
      made seen looks =
          let own = own_in h.memory.ram seat in
          let t = turn_under pmp h.memory.flash h.memory.ram regs in
          let same : t ≡ instruction_of own seen regs =
          same_turn h.memory.flash h.memory.ram pmp seat seen (sits_before r).settled (protects r pmp p) looks sees
          regs in
          let written : own_in m.ram seat ≡ with_write own t =
          ap (λ (x : MemoryBytes). own_in x.ram seat) is ∙ left.own in (
            written ∙ ap (with_write own) same,
            regs_is ∙ ap (λ (x : UserTurn). x.regs) same,
            end_is
                ∙ ap (λ (x : UserTurn). x.end) same,
          )
