-- Bytes of flash from which every fetch is permitted.
use Rattle.std.proofs.Common.{◌≡◌, ℕ, ◌+◌, ◌-◌, ◌*◌, ◌/◌, ◌%◌, ◌^◌, ◌<◌, ◌≤◌, List, Ok, refl, length, take, drop}
use Rattle.std.proofs.Common.{slice_index, get_or-take, get_or-drop, sym, ap, ap₂, ◌∙◌, arith}
use Rattle.tk_base.specs.declared.access.Access.TheVariants.{Fetch}
use Rattle.tk_base.specs.declared.access.Width.TheVariants.{Half}
use Rattle.tk_base.specs.declared.access.TheConstants.{FLASH_START, RAM_START}
use Rattle.tk_base.specs.Bus.{unless_denied, number_at}
use Rattle.pmp_regions.specs.declared.Entry.{Entry}
use Rattle.pmp_regions.specs.Check.{denied_by_registers}
use Rattle.rv32_model.specs.AtHand.{IsAtHand}
use Rattle.board_memory.specs.Bytes.{memory_byte_at, BothStand, IsCode, Stands}
use Rattle.board_memory.proofs.Numbers.{in_flash}

-- what stands at the place of an address, modulo 2^32
pub stands_at : (start : ℕ) (code : List ℕ) (at parcel : ℕ) → start + length code ≤ RAM_START → start < 2 ^ 32
    → at < 2 ^ 32 → (at + (2 ^ 32 - start)) % 2 ^ 32 + 2 ≤ length code
    → parcel ≡ number_at (slice_index code) ((at + (2 ^ 32 - start)) % 2 ^ 32) Half → Stands start code at parcel
stands_at start code at parcel below s a lies is =
    let from : start ≤ at = grind (arith, below, lies) in
    let place : (at + (2 ^ 32 - start)) % 2 ^ 32 ≡ at - start = grind (arith, from) in
    record {
      starts = from;
      ends = grind (arith, lies, place);
      number =
          ap (λ p. number_at (slice_index code) p Half) (sym place) ∙ sym is;
    }

pub both_stand : (start : ℕ) (code : List ℕ) (at first second : ℕ) → start + length code ≤ RAM_START → start < 2 ^ 32
    → at < 2 ^ 32 → (at + (2 ^ 32 - start)) % 2 ^ 32 + 4 ≤ length code
    → first ≡ number_at (slice_index code) ((at + (2 ^ 32 - start)) % 2 ^ 32) Half
    → second ≡ number_at (slice_index code) ((at + (2 ^ 32 - start)) % 2 ^ 32 + 2) Half → first < 2 ^ 16
    → second < 2 ^ 16 → BothStand start code at (first + second * 65536)
both_stand start code at first second below s a lies one two small less =
    let from : start ≤ at = grind (arith, below, lies) in
    let place : (at + (2 ^ 32 - start)) % 2 ^ 32 ≡ at - start = grind (arith, from) in
    let next : (at + 2 + (2 ^ 32 - start)) % 2 ^ 32 ≡ (at + (2 ^ 32 - start)) % 2 ^ 32 + 2 =
    grind (arith, from, place, lies, below) in
    let low : first ≡ (first + second * 65536) % 2 ^ 16 = grind (arith, small, less) in
    let high : second ≡ (first + second * 65536) / 2 ^ 16 = grind (arith, small, less) in (
      stands_at start code at ((first + second * 65536) % 2 ^ 16) below s a (omega (arith, lies)) (sym low ∙ one),
      stands_at start code (at + 2) ((first + second * 65536) / 2 ^ 16) below s
          (omega (arith, from, place, lies, below)) (rw next (omega (arith, lies)))
          (sym high ∙ two ∙ ap (λ p. number_at (slice_index code) p Half) (sym next)),
    )

pub ruleset standing = (stands_at, both_stand)

-- a byte of the code is the byte of flash at its place
code_byte : (flash code : List ℕ) (k i : ℕ) → code ≡ take (length code) (drop k flash) → i < length code
    → slice_index code i ≡ slice_index flash (k + i)
code_byte flash code k i bytes below =
    ap (λ (xs : List ℕ). slice_index xs i) bytes ∙ get_or-take (length code) (drop k flash) i 0 below
    ∙ get_or-drop k flash i 0

-- so is a parcel that stands in the code, and it may be fetched
module _ (flash ram : List ℕ) (pmp : List Entry) (start : ℕ) (code : List ℕ) (c : IsCode flash pmp start code) where
  parcel : (at p : ℕ) → Stands start code at p → number_at (memory_byte_at flash ram) at Half ≡ p
  parcel at p s =
      let k = start - FLASH_START in
      let from = s.starts in
      let to = s.ends in
      let low = c.starts in
      let high = c.ends in
      let first = code_byte flash code k (at - start) c.bytes (omega (arith, from, to)) in
      let second = code_byte flash code k (at - start + 1) c.bytes (omega (arith, from, to)) in
      let place : k + (at - start) ≡ at - FLASH_START = omega (arith, from, low) in
      let next : k + (at - start + 1) ≡ at - FLASH_START + 1 = omega (arith, from, low) in
      sym (in_flash flash ram at Half (omega (arith, from, low)) (omega (arith, to, high)))
      ∙ sym (ap₂ (λ a b. a + 256 * b) (first ∙ ap (slice_index flash) place) (second ∙ ap (slice_index flash) next))
      ∙ s.number

  pub fetched : (at p : ℕ) → Stands start code at p
      → Ok p ≡ unless_denied (denied_by_registers pmp Fetch at Half) (number_at (memory_byte_at flash ram) at Half)
  fetched at p s = rw (c.may at Half s.starts s.ends, parcel at p s) refl

  pub at_hand : (at word : ℕ) → BothStand start code at word
      → IsAtHand (denied_by_registers pmp) (memory_byte_at flash ram) at word
  at_hand at word s =
      let wraps : (at + 2) % 2 ^ 32 ≡ at + 2 = grind (arith, c.ends, s.1.ends) in
      record {
        first_may = c.may at Half s.0.starts s.0.ends;
        second_may = rw wraps (c.may (at + 2) Half s.1.starts s.1.ends);
        parcels = record {
          first = parcel at (word % 2 ^ 16) s.0;
          second =
              rw wraps (parcel (at + 2) (word / 2 ^ 16) s.1);
        };
      }
