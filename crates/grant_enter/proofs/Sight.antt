-- What a process reaches of flash and RAM under its registers is what its own bytes tell. Whatever the registers permit
-- lies in its flash or its accessible RAM, where a byte of memory is the own's byte at that address; so each number
-- that is read is the same, and by the law `sees_only_permitted` the two turns are one.
use Rattle.std.proofs.Common.{◌≡◌, ℕ, ◌+◌, ◌-◌, ◌*◌, ◌<◌, ◌≤◌, ◌⊎◌, inl, inr, Bool, true, false, cond, if◌then◌else◌}
use Rattle.std.proofs.Common.{IsTrue, List, length, slice_index, Option, None, Some, refl, sym, ap, ◌∙◌, arith}
use Rattle.std.proofs.lemmas.Bool.Decides.{nat_tests}
use Rattle.tk_base.specs.declared.access.Access.{Access}
use Rattle.tk_base.specs.declared.access.Access.TheVariants.{Fetch, Load, Store}
use Rattle.tk_base.specs.declared.access.Rule.{Rule}
use Rattle.tk_base.specs.declared.access.Rule.TheVariants.{NoRegion, Misaligned, NoWrite}
use Rattle.tk_base.specs.declared.access.Width.{Width}
use Rattle.tk_base.specs.declared.access.Width.TheVariants.{Byte, Half, Word}
use Rattle.tk_base.specs.declared.access.TheConstants.{FLASH_START, RAM_START}
use Rattle.tk_base.specs.Regs.{Registers}
use Rattle.tk_base.specs.Access.{width_bytes, is_misaligned}
use Rattle.tk_base.specs.Bus.{number_at}
use Rattle.rv32_model.specs.Laws.{LookAlike, SeesOnlyPermitted}
use Rattle.process_layout.specs.LayoutView.{LayoutView}
use Rattle.process_layout.specs.Bounds.{bounds_of}
use Rattle.process_layout.specs.Interval.{lies_within}
use Rattle.process_layout.specs.Permission.{denied_by_intervals}
use Rattle.process_model.specs.Permission.{denied}
use Rattle.process_model.specs.Instruction.{Sees, instruction_of}
use Rattle.pmp_regions.specs.declared.Entry.{Entry}
use Rattle.pmp_regions.specs.Check.{denied_by_registers}
use Rattle.board_memory.specs.Bytes.{memory_byte_at, StoresLieIn}
use Rattle.board_memory.specs.Registers.{Protect}
use Rattle.process_seat.specs.declared.seat.Seat.{Seat}
use Rattle.process_seat.specs.Places.{FitsMemory}
use Rattle.memory_turns.specs.Reach.{turn_under}
use Rattle.process_seat.specs.Seats.{own_in}
use Rattle.process_seat.proofs.Windows.{window_at}

one_of : (f g : Bool) (x y : Option Rule) → cond f x (cond g y (Some NoRegion)) ≡ None → (f ≡ true) ⊎ (g ≡ true)
one_of true g x y e = inl refl
one_of false true x y e = inr refl
one_of false false x y e = cc

same_half : {a b c d : ℕ} → a ≡ c → b ≡ d → a + 256 * b ≡ c + 256 * d
same_half e f = cc

same_word : {a b c d w x y z : ℕ} → a ≡ w → b ≡ x → c ≡ y → d ≡ z
    → a + 256 * b + 65536 * c + 16777216 * d ≡ w + 256 * x + 65536 * y + 16777216 * z
same_word e f g h = cc

-- all bytes of an access lie in accessible flash, or in accessible RAM
LiesInOne : LayoutView → ℕ → ℕ → Type 0
LiesInOne e at size = ((e.flash_start ≤ at) × (at + size ≤ e.flash_end)) ⊎ ((e.start ≤ at) × (at + size ≤ e.brk))

lies : (from to at size : ℕ) → lies_within from to at size ≡ true → (from ≤ at) × (at + size ≤ to)
lies from to at size e = grind (arith, nat_tests)

-- what is permitted lies in one of the two
permitted_lies : (e : LayoutView) (access : Access) (at : ℕ) (width : Width)
    → denied_by_intervals e.flash_start e.flash_end e.start e.brk access at width ≡ None
    → LiesInOne e at (width_bytes width)
unfolding LiesInOne
permitted_lies e access at width none =
    by_one (one_of (lies_within e.flash_start e.flash_end at (width_bytes width))
    (lies_within e.start e.brk at (width_bytes width)) _ _ none)
  where
    by_one : (lies_within e.flash_start e.flash_end at (width_bytes width) ≡ true)
        ⊎ (lies_within e.start e.brk at (width_bytes width) ≡ true) → LiesInOne e at (width_bytes width)
    by_one (inl t) = inl (lies e.flash_start e.flash_end at (width_bytes width) t)
    by_one (inr t) = inr (lies e.start e.brk at (width_bytes width) t)

stored_in : (f g : Bool) → cond f (Some NoWrite) (cond g None (Some NoRegion)) ≡ None → g ≡ true
stored_in true g e = cc
stored_in false true e = refl
stored_in false false e = cc

-- what may be stored lies in accessible RAM
pub store_lies : (pmp : List Entry) (e : LayoutView) (at : ℕ) (width : Width) → Protect pmp (bounds_of e)
    → denied_by_registers pmp Store at width ≡ None → (e.start ≤ at) × (at + width_bytes width ≤ e.brk)
store_lies pmp e at width p none =
    lies e.start e.brk at (width_bytes width)
    (stored_in (lies_within e.flash_start e.flash_end at (width_bytes width))
    (lies_within e.start e.brk at (width_bytes width)) (sym (p.deny Store at width) ∙ none))

-- so it lies in RAM
pub stores_in_ram : (flash ram : ℕ) (pmp : List Entry) (e : LayoutView) → FitsMemory flash ram e
    → Protect pmp (bounds_of e)
    → StoresLieIn ram pmp
stores_in_ram flash ram pmp e s p = record {
  stores = λ at width none.
      let l = store_lies pmp e at width p none in
      within RAM_START (RAM_START + ram) at (width_bytes width) (omega (arith, l.0, s.from))
      (omega (arith, l.1, s.to, s.ordered.grants, s.ordered.end));
}
  where
    within : (from to at size : ℕ) → from ≤ at → at + size ≤ to → IsTrue (lies_within from to at size)
    within from to at size low high = grind (arith, nat_tests)

twice : (m : Bool) (x y : Option Rule) → cond m x (cond m x y) ≡ cond m x y
twice true x y = refl
twice false x y = refl

not_misaligned : (m : Bool) (o : Option Rule) → cond m (Some Misaligned) o ≡ None → o ≡ None
not_misaligned true o e = cc
not_misaligned false o e = e

module _ (flash ram : List ℕ) (pmp : List Entry) (seat : Seat) (seen : ℕ → ℕ)
    (s : FitsMemory (length flash) (length ram) seat.layout) (p : Protect pmp (bounds_of seat.layout))
    (sees : Sees flash (own_in ram seat) seen) where
  flash_byte : (a : ℕ) → seat.layout.flash_start ≤ a → a < seat.layout.flash_end → memory_byte_at flash ram a ≡ seen a
  flash_byte a low high =
      by_place (omega (arith, s.flash_from)) (omega (arith, s.below)) ∙ sym (sees.in_flash a low high)
    where
      by_place : FLASH_START ≤ a → a < RAM_START → memory_byte_at flash ram a ≡ slice_index flash (a - FLASH_START)
      by_place from below = grind (arith, nat_tests)

  ram_byte : (a : ℕ) → seat.layout.start ≤ a → a < seat.layout.brk → memory_byte_at flash ram a ≡ seen a
  ram_byte a low high =
      let inside : a - seat.layout.start < seat.layout.kernel_break - RAM_START - (seat.layout.start - RAM_START) =
      omega (arith, s.from, s.ordered.grants) in
      let window = window_at ram (seat.layout.start - RAM_START) (seat.layout.kernel_break - RAM_START)
      (a - seat.layout.start) inside in
      let place : seat.layout.start - RAM_START + (a - seat.layout.start) ≡ a - RAM_START = omega (arith, s.from) in
      by_place (omega (arith, s.from)) (omega (arith, s.to, s.ordered.grants, s.ordered.end))
      ∙ sym (sees.in_ram a low high ∙ window ∙ ap (λ (k : ℕ). slice_index ram k) place)
    where
      by_place : RAM_START ≤ a → a < RAM_START + length ram
          → memory_byte_at flash ram a ≡ slice_index ram (a - RAM_START)
      by_place from below = grind (arith, nat_tests)

  flash_number : (at : ℕ) (width : Width) → seat.layout.flash_start ≤ at
      → at + width_bytes width ≤ seat.layout.flash_end
      → number_at (memory_byte_at flash ram) at width ≡ number_at seen at width
  flash_number at Byte low high = flash_byte at low (omega arith)
  flash_number at Half low high =
      same_half (flash_byte at low (omega arith)) (flash_byte (at + 1) (omega arith) (omega arith))
  flash_number at Word low high =
      same_word (flash_byte at low (omega arith)) (flash_byte (at + 1) (omega arith) (omega arith))
      (flash_byte (at + 2) (omega arith) (omega arith)) (flash_byte (at + 3) (omega arith) (omega arith))

  ram_number : (at : ℕ) (width : Width) → seat.layout.start ≤ at → at + width_bytes width ≤ seat.layout.brk
      → number_at (memory_byte_at flash ram) at width ≡ number_at seen at width
  ram_number at Byte low high = ram_byte at low (omega arith)
  ram_number at Half low high =
      same_half (ram_byte at low (omega arith)) (ram_byte (at + 1) (omega arith) (omega arith))
  ram_number at Word low high =
      same_word (ram_byte at low (omega arith)) (ram_byte (at + 1) (omega arith) (omega arith))
      (ram_byte (at + 2) (omega arith) (omega arith)) (ram_byte (at + 3) (omega arith) (omega arith))

  number_alike : (at : ℕ) (width : Width) → LiesInOne seat.layout at (width_bytes width)
      → number_at (memory_byte_at flash ram) at width ≡ number_at seen at width
  unfolding LiesInOne
  number_alike at width (inl i) = flash_number at width i.0 i.1
  number_alike at width (inr i) = ram_number at width i.0 i.1

  -- flash and RAM under the registers look to the process as its own bytes do
  look_alike : LookAlike (denied_by_registers pmp) (denied (bounds_of seat.layout)) (memory_byte_at flash ram) seen
  unfolding denied
  look_alike = record {
    fetches = λ at. p.deny Fetch at Half;
    accesses = λ access at width. ap (λ (o : Option Rule). if is_misaligned access at width then Some Misaligned else o)
        (p.deny access at width) ∙ sym (twice (is_misaligned access at width) (Some Misaligned) _);
    parcels = λ at none. number_alike at Half
        (permitted_lies seat.layout Fetch at Half (sym (p.deny Fetch at Half) ∙ none));
    loads = λ at width none.
        number_alike at width (permitted_lies seat.layout Load at width
        (sym (p.deny Load at width)
        ∙ not_misaligned (is_misaligned Load at width) (denied_by_registers pmp Load at width) none));
  }

  -- so its instruction is the one that its own bytes give
  pub same_turn : SeesOnlyPermitted → (regs : Registers)
      → turn_under pmp flash ram regs ≡ instruction_of (own_in ram seat) seen regs
  same_turn law regs =
      law (denied_by_registers pmp) (denied (bounds_of seat.layout)) (memory_byte_at flash ram) seen regs look_alike
