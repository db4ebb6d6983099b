-- Where the memory of a process may lie, and what its object tells.
use Rattle.std.specs.Prelude.{◌≡◌, ◌≤◌, ◌<◌, ℕ, ◌+◌, ◌%◌, ◌^◌, List, Bool, is_some}
use Rattle.tk_base.specs.declared.access.TheConstants.{FLASH_START, RAM_START}
use Rattle.process_layout.specs.LayoutView.{LayoutView}
use Rattle.process_layout.specs.Ordered.{IsOrdered}
use Rattle.tbf_headers.specs.Meaning.{header_reading, permissions_by}
use Rattle.process_model.specs.declared.place.Object.{Object}
use Rattle.process_model.specs.Flash.{object_in}

-- whether the header of an object in flash has a Permissions TLV (Tock Binary Format, "Permissions")
abbrev pub has_permissions : List ℕ → Object → Bool
has_permissions flash object = is_some (permissions_by (header_reading (object_in flash object)))

-- Where a process's memory may lie in so many bytes of flash and of RAM: the accessible flash in flash, in whole words
-- and below RAM, the block in RAM.
pub record FitsMemory (flash ram : ℕ) (e : LayoutView) : Type 0 where
  pub ordered : IsOrdered e
  pub flash_from : FLASH_START ≤ e.flash_start
  pub flash_to : e.flash_end ≤ FLASH_START + flash
  pub flash_start_aligned : e.flash_start % 4 ≡ 0
  pub flash_end_aligned : e.flash_end % 4 ≡ 0
  pub below : e.flash_end ≤ RAM_START
  pub from : RAM_START ≤ e.start
  pub to : e.end ≤ RAM_START + ram
  pub fits : e.end < 2 ^ 32
