-- The bytes that a record tells are those that its process sees.
use Rattle.std.proofs.Common.{◌≡◌, ℕ, ◌+◌, ◌-◌, ◌<◌, ◌≤◌, ◌&&◌, nat_le, nat_lt, if◌then◌else◌, List, length}
use Rattle.std.proofs.Common.{slice_index, ap, ◌∙◌, arith}
use Rattle.std.proofs.lemmas.Bool.Decides.{nat_tests}
use Rattle.std.proofs.lemmas.List.{get_or-take, get_or-drop}
use Rattle.tk_base.specs.declared.access.TheConstants.{FLASH_START}
use Rattle.tbf_headers.specs.Objects.{object_at}
use Rattle.process_model.specs.Instruction.{Sees}
use Rattle.grant_enter.specs.Homes.{IsInPlace}
use Rattle.kernel_calls.specs.Own.{record_in}
use Rattle.process_restart.specs.Own.{IsOwnObject}
use Rattle.kernel_model.specs.Record.{byte_at}
use Rattle.kernel_calls.specs.Residents.{Resident}
use Rattle.board_turns.specs.Turning.{nothing_beside}

-- a byte of an object is one of flash
in_object : (flash : List ℕ) (from size k : ℕ) → k < size
    → slice_index (object_at flash from size) k ≡ slice_index flash (from + k)
in_object flash from size k h = grind (arith, get_or-take, get_or-drop)

flash_side : (start n a x y : ℕ) → a < start → (if nat_le start a && nat_lt a (start + n) then x else y) ≡ y
flash_side start n a x y below = grind (arith, nat_tests)

ram_side : (start n a x y : ℕ) → start ≤ a → a < start + n
    → (if nat_le start a && nat_lt a (start + n) then x else y) ≡ x
ram_side start n a x y from below = grind (arith, nat_tests)

pub sees_record : (flash : List ℕ) (r : Resident) → IsOwnObject flash r.0.object r.1.layout → IsInPlace r.1
    → Sees flash r.1 (byte_at (record_in flash r.0 r.1 nothing_beside))
sees_record flash r own place =
    let e = r.1.layout in
    let object = r.0.object in
    record {
      in_flash = λ a low high.
          flash_side e.start (length r.1.ram) a _ _ (omega (arith, place.apart))
          ∙ in_object flash (object.address - FLASH_START) object.size (a - object.address)
          (omega (arith, own.lies.accessible_from, own.lies.accessible_to))
          ∙ ap (slice_index flash) (at_place object.address a own.lies.from (omega (arith, own.lies.accessible_from)));
      in_ram = λ a low high. ram_side e.start (length r.1.ram) a _ _ low
          (omega (arith, place.ram, place.ordered.grants, place.ordered.block));
    }
  where
    at_place : (object a : ℕ) → FLASH_START ≤ object → object ≤ a
        → object - FLASH_START + (a - object) ≡ a - FLASH_START
    at_place object a from low = omega arith
