use Rattle.std.proofs.Common.{◌≡◌, ℕ, zero, suc, ◌+◌, ◌-◌, ◌≤◌, ◌<◌, ◌==◌, ◌||◌, IsTrue, Bool, true, false, cond, List}
use Rattle.std.proofs.Common.{length, map, refl, arith}
use Rattle.std.specs.List.{range_with_len}
use Rattle.std.proofs.lemmas.Bool.{eqb-true}
use Rattle.std.proofs.lemmas.Bool.Decides.{nat_tests}
use Rattle.std.proofs.lemmas.List.{get_or-take, get_or-drop}
use Rattle.tk_base.specs.declared.access.TheConstants.{FLASH_START}
use Rattle.process_model.specs.declared.place.Object.{Object}
use Rattle.process_model.specs.Own.{Own}
use Rattle.process_model.specs.Handed.{lies_in_ram, lies_in_flash}
use Rattle.process_model.specs.Served.{ram_at}
use Rattle.process_model.specs.Flash.{HasObject, flash_byte, object_byte, object_in}
use Rattle.process_model.proofs.laws.reads_own_flash.Goals as goal

-- where the same bytes stand at some addresses, they are the same list
same_bytes : (f g : ℕ → ℕ) (at count : ℕ) → ((a : ℕ) → at ≤ a → a < at + count → f a ≡ g a)
    → map f (range_with_len at count) ≡ map g (range_with_len at count)
same_bytes f g at zero same = refl
same_bytes f g at (suc n) same =
    rw (
      same at (omega arith) (omega arith),
      same_bytes f g (at + 1) n (λ a low high. same a (omega (arith, low)) (omega (arith, high))),
    )

-- a byte of a part of flash is the byte of flash there
in_object : (flash : List ℕ) (object : Object) (a : ℕ) → FLASH_START ≤ object.address → object.address ≤ a
    → a < object.address + object.size → flash_byte flash a ≡ object_byte object (object_in flash object) a
in_object flash object a from low high =
    let place : object.address - FLASH_START + (a - object.address) ≡ a - FLASH_START = omega (arith, from, low) in
    grind (arith, get_or-take, get_or-drop)

module _ (flash : List ℕ) (own : Own) (buffer : ℕ × ℕ) (o : HasObject (length flash) own.object own.layout) where
  abbrev object : ℕ → ℕ
  object = object_byte own.object (object_in flash own.object)

  by_place : (a b c : Bool) → buffer.1 == 0 ≡ a → lies_in_ram own.layout buffer.0 buffer.1 ≡ b
      → lies_in_flash own.layout buffer.0 buffer.1 ≡ c → IsTrue (a || b || c)
      → cond b (ram_at own buffer) (map (flash_byte flash) (range_with_len buffer.0 buffer.1))
      ≡ cond b (ram_at own buffer) (map object (range_with_len buffer.0 buffer.1))
  by_place a true c none ram flash_is may = refl
  by_place true false c none ram flash_is may =
      let z : buffer.1 ≡ 0 = eqb-true buffer.1 0 none in
      same_bytes (flash_byte flash) object buffer.0 buffer.1 (λ a low high. absurd (omega (arith, low, high, z)))
  by_place false false true none ram flash_is may =
      let low : own.layout.flash_start ≤ buffer.0 = grind (arith, nat_tests) in
      let high : buffer.0 + buffer.1 ≤ own.layout.flash_end = grind (arith, nat_tests) in
      same_bytes (flash_byte flash) object buffer.0 buffer.1
      (λ a from to. in_object flash own.object a o.from (omega (arith, low, from, o.accessible_from))
      (omega (arith, high, to, o.accessible_to)))
  by_place false false false none ram flash_is may = absurd (cc)

pub returns : goal.returns
returns c = λ flash own buffer object may.
    by_place flash own buffer object (buffer.1 == 0) (lies_in_ram own.layout buffer.0 buffer.1)
    (lies_in_flash own.layout buffer.0 buffer.1) refl refl refl may
