-- What of flash is a process's own: the bytes of its object (Tock Binary Format, "TBF Header Base").
use Rattle.std.specs.Prelude.{◌≡◌, ◌≤◌, ℕ, ◌+◌, ◌-◌, IsTrue, List, length, slice_index, slice_range}
use Rattle.tk_base.specs.declared.access.TheConstants.{FLASH_START}
use Rattle.process_layout.specs.Bounds.{Bounds}
use Rattle.tk_base.specs.declared.kinds.PairKind.TheVariants.{ReadOnly}
use Rattle.process_model.specs.declared.place.Object.{Object}
use Rattle.process_model.specs.Own.{Own}
use Rattle.process_model.specs.Handed.{may_share}
use Rattle.process_model.specs.Served.{bytes_at}

-- a process's object lies in so many bytes of flash, and its accessible flash in the object
pub record HasObject (flash : ℕ) (object : Object) (e : Bounds) : Type 0 where
  pub from : FLASH_START ≤ object.address
  pub to : object.address + object.size ≤ FLASH_START + flash
  pub accessible_from : object.address ≤ e.flash_start
  pub accessible_to : e.flash_end ≤ object.address + object.size

-- the byte of flash at an address
abbrev pub flash_byte : List ℕ → ℕ → ℕ
flash_byte flash at = slice_index flash (at - FLASH_START)

-- the byte at an address of an object that has these bytes
abbrev pub object_byte : Object → List ℕ → ℕ → ℕ
object_byte object bytes at = slice_index bytes (at - object.address)

-- the bytes of an object in flash
abbrev pub object_in : List ℕ → Object → List ℕ
object_in flash object = slice_range flash (object.address - FLASH_START) (object.address - FLASH_START + object.size)

-- What is read of a buffer that a process may allow to be read is the process's own: it is the same of the bytes of its
-- object as of all of flash.
abbrev pub ReadsOwnFlash : Type 0
ReadsOwnFlash =
    (flash : List ℕ) (own : Own) (buffer : ℕ × ℕ) → HasObject (length flash) own.object own.layout
    → IsTrue (may_share ReadOnly own.layout buffer)
    → bytes_at (flash_byte flash) own buffer ≡ bytes_at (object_byte own.object (object_in flash own.object)) own buffer
