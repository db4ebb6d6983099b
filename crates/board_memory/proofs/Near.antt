-- Words of flash and of RAM that may be accessed without a look for a rule.
use Rattle.std.proofs.Common.{◌≡◌, ℕ, ◌+◌, ◌-◌, ◌%◌, ◌^◌, ◌<◌, ◌≤◌, ◌==◌, Bool, true, not, if◌then◌else◌}
use Rattle.std.proofs.Common.{List, length, take, drop, slice_index, IsTrue, Option, None, Some, refl, sym, ap}
use Rattle.std.proofs.Common.{subst, ◌∙◌, arith}
use Rattle.std.proofs.lemmas.Bool.Decides.{nat_tests}
use Rattle.tk_base.specs.declared.access.Access.{Access}
use Rattle.tk_base.specs.declared.access.Access.TheVariants.{Fetch, Load, Store}
use Rattle.tk_base.specs.declared.access.Width.{Width}
use Rattle.tk_base.specs.declared.access.Width.TheVariants.{Byte}
use Rattle.tk_base.specs.declared.access.Rule.{Rule}
use Rattle.tk_base.specs.declared.access.Rule.TheVariants.{Misaligned}
use Rattle.tk_base.specs.declared.access.TheConstants.{FLASH_START, RAM_START}
use Rattle.tk_base.specs.Access.{misaligned_first, width_bytes}
use Rattle.tk_base.specs.Bus.{number_at, put, written}
use Rattle.tk_base.specs.Laws.{AStoreIsPut}
use Rattle.process_layout.specs.Interval.{lies_within}
use Rattle.pmp_regions.specs.declared.Entry.{Entry}
use Rattle.pmp_regions.specs.Check.{denied_by_registers}
use Rattle.pmp_regions.specs.Windows.{PermitsBetween}
use Rattle.board_memory.specs.Bytes.{memory_byte_at, AreWords, IsCode, IsData, IsNear}
use Rattle.board_memory.proofs.Numbers.{in_flash, in_ram}
use Rattle.board_memory.proofs.Stores.{writes}

-- an access covers a byte at least
covers : (width : Width) → 0 < width_bytes width
covers Byte = omega (arith)
covers other = omega (arith)

-- what a window permits is permitted in its words
permitted : (pmp : List Entry) (access : Access) (first size from to start long : ℕ) → PermitsBetween pmp access from to
    → AreWords first size from to start long → (at : ℕ) (width : Width) → start ≤ at
    → at + width_bytes width ≤ start + long
    → denied_by_registers pmp access at width ≡ None
permitted pmp access first size from to start long window words at width low high =
    let some : 0 < long = omega (arith, low, high, covers width) in
    let inside = words.inside some in
    window.permits at width (omega (arith, inside.0, low)) (omega (arith, inside.1, high))

-- words in a part lie in the whole
pub of_more : (first most size from to start long : ℕ) → AreWords first most from to start long → most ≤ size
    → AreWords first size from to start long
of_more first most size from to start long words fits =
    let ends = words.ends in
    record {
      aligned = words.aligned;
      words = words.words;
      starts = words.starts;
      ends = omega (arith, ends, fits);
      inside = words.inside;
    }

pub is_data : (size : ℕ) (pmp : List Entry) (from to start long : ℕ) → PermitsBetween pmp Load from to
    → PermitsBetween pmp Store from to → AreWords RAM_START size from to start long → start + long ≤ 2 ^ 32
    → IsData size pmp start long
is_data size pmp from to start long loads stores words wraps = record {
  aligned = words.aligned;
  words = words.words;
  starts = words.starts;
  ends = words.ends;
  wraps = wraps;
  loads = permitted pmp Load RAM_START size from to start long loads words;
  stores = permitted pmp Store RAM_START size from to start long stores words;
}

pub is_code : (flash code : List ℕ) (pmp : List Entry) (from to start long : ℕ) → PermitsBetween pmp Fetch from to
    → PermitsBetween pmp Load from to → AreWords FLASH_START (length flash) from to start long
    → start + long ≤ RAM_START → length code ≡ long → code ≡ take long (drop (start - FLASH_START) flash)
    → IsCode flash pmp start code
is_code flash code pmp from to start long fetches loads words below size bytes =
    let ends = words.ends in
    let starts = words.starts in
    record {
      starts = words.starts;
      ends = omega (arith, below, size);
      inside = omega (arith, starts, ends, size);
      bytes = rw size bytes;
      may = rw size (permitted pmp Fetch FLASH_START (length flash) from to start long fetches words);
      loads = rw size (permitted pmp Load FLASH_START (length flash) from to start long loads words);
      aligned = words.aligned;
      words = rw size words.words;
    }

-- an aligned place modulo 2^32 that lies in words is that of an access that does
pub is_near : (start size at : ℕ) (width : Width) → start % 4 ≡ 0 → size % 4 ≡ 0 → start + size ≤ 2 ^ 32
    → start < 2 ^ 32
    → at < 2 ^ 32 → (at + (2 ^ 32 - start)) % 2 ^ 32 % width_bytes width ≡ 0 → (at + (2 ^ 32 - start)) % 2 ^ 32 < size
    → IsNear start size at width ((at + (2 ^ 32 - start)) % 2 ^ 32)
is_near start size at width first words ends s a aligned lies =
    let from : start ≤ at = grind (arith, ends, lies) in
    let place : (at + (2 ^ 32 - start)) % 2 ^ 32 ≡ at - start = grind (arith, from) in
    let whole : (at - start) % width_bytes width ≡ 0 = sym (ap (λ (n : ℕ). n % width_bytes width) place) ∙ aligned in
    let below : at - start < size = omega (arith, place, lies) in
    record {
      is = omega (arith, place, from);
      aligned = multiple width from whole;
      inside = subst (λ (n : ℕ). n + width_bytes width ≤ size) (sym place) (fits width from whole below);
    } where
      multiple : (width : Width) → start ≤ at → (at - start) % width_bytes width ≡ 0 → at % width_bytes width ≡ 0
      multiple Byte from whole = omega (arith)
      multiple other from whole = omega (arith, first, from, whole)

      fits : (width : Width) → start ≤ at → (at - start) % width_bytes width ≡ 0 → at - start < size
          → at - start + width_bytes width ≤ size
      fits Byte from whole below = omega (arith, below)
      fits other from whole below = omega (arith, words, from, whole, below)

-- an aligned access is denied by no rule but that of the registers
aligned_first : (denies : Access → ℕ → Width → Option Rule) (at : ℕ) (width : Width) → at % width_bytes width ≡ 0
    → (misaligned_first denies Load at width ≡ denies Load at width)
    × (misaligned_first denies Store at width ≡ denies Store at width)
aligned_first denies at width whole = by_test (at % width_bytes width == 0) (rw whole refl)
  where
    by_test : (b : Bool) → b ≡ true
        → ((if not b then Some Misaligned else denies Load at width) ≡ denies Load at width)
        × ((if not b then Some Misaligned else denies Store at width) ≡ denies Store at width)
    by_test b e = rw e (refl, refl)

module _ (flash ram : List ℕ) (pmp : List Entry) (start long at : ℕ) (width : Width) (offset : ℕ) where
  pub data_loads : IsData (length ram) pmp start long → IsNear start long at width offset
      → misaligned_first (denied_by_registers pmp) Load at width ≡ None
  data_loads d n =
      let is = n.is in
      let inside = n.inside in
      (aligned_first (denied_by_registers pmp) at width n.aligned).0
      ∙ d.loads at width (omega (arith, is)) (omega (arith, is, inside))

  pub data_stores : IsData (length ram) pmp start long → IsNear start long at width offset
      → misaligned_first (denied_by_registers pmp) Store at width ≡ None
  data_stores d n =
      let is = n.is in
      let inside = n.inside in
      (aligned_first (denied_by_registers pmp) at width n.aligned).1
      ∙ d.stores at width (omega (arith, is)) (omega (arith, is, inside))

  pub data_number : IsData (length ram) pmp start long → IsNear start long at width offset
      → number_at (slice_index ram) (start - RAM_START + offset) width ≡ number_at (memory_byte_at flash ram) at width
  data_number d n =
      let is = n.is in
      let inside = n.inside in
      let low = d.starts in
      let high = d.ends in
      let place : start - RAM_START + offset ≡ at - RAM_START = omega (arith, is, low) in
      ap (λ (p : ℕ). number_at (slice_index ram) p width) place
      ∙ in_ram flash ram at width (omega (arith, is, low)) (omega (arith, is, inside, high))

  pub data_put : AStoreIsPut → (value : ℕ) → IsData (length ram) pmp start long → IsNear start long at width offset
      → memory_byte_at flash (put ram (start - RAM_START + offset) width value) ≡ written
      (memory_byte_at flash ram) at width value
  data_put law value d n =
      let is = n.is in
      let inside = n.inside in
      let low = d.starts in
      let high = d.ends in
      let place : start - RAM_START + offset ≡ at - RAM_START = omega (arith, is, low) in
      let lies : IsTrue (lies_within RAM_START (RAM_START + length ram) at (width_bytes width)) =
      grind (arith, nat_tests, is, inside, low, high) in
      ap (λ (p : ℕ). memory_byte_at flash (put ram p width value)) place ∙ writes law flash ram at width value lies

module _ (flash ram : List ℕ) (pmp : List Entry) (start : ℕ) (code : List ℕ) (at : ℕ) (width : Width) (offset : ℕ)
    (c : IsCode flash pmp start code) (n : IsNear start (length code) at width offset) where
  pub code_loads : misaligned_first (denied_by_registers pmp) Load at width ≡ None
  code_loads =
      let is = n.is in
      let inside = n.inside in
      (aligned_first (denied_by_registers pmp) at width n.aligned).0
      ∙ c.loads at width (omega (arith, is)) (omega (arith, is, inside))

  pub code_number : number_at (slice_index flash) (start - FLASH_START + offset) width ≡ number_at
      (memory_byte_at flash ram) at width
  code_number =
      let is = n.is in
      let inside = n.inside in
      let low = c.starts in
      let high = c.ends in
      let place : start - FLASH_START + offset ≡ at - FLASH_START = omega (arith, is, low) in
      ap (λ (p : ℕ). number_at (slice_index flash) p width) place
      ∙ in_flash flash ram at width (omega (arith, is, low)) (omega (arith, is, inside, high))

pub ruleset near = (data_loads, data_stores, data_number, data_put, code_loads, code_number)
