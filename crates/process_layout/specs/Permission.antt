-- What a process may access: fetches in flash, loads in both, stores in RAM (Levy et al., SOSP 2017; RISC-V
-- privileged manual, "Physical Memory Protection").
use Rattle.std.specs.Prelude.{ℕ, if◌then◌else◌, Option, None, Some}
use Rattle.tk_base.specs.declared.access.Access.{Access}
use Rattle.tk_base.specs.declared.access.Access.TheVariants.{Fetch, Store}
use Rattle.tk_base.specs.declared.access.Rule.{Rule}
use Rattle.tk_base.specs.declared.access.Rule.TheVariants.{NoRegion, NoExecute, NoWrite}
use Rattle.tk_base.specs.declared.access.Width.{Width}
use Rattle.tk_base.specs.Access.{width_bytes, misaligned_first}
use Rattle.process_layout.specs.Interval.{lies_within}

-- flash may be executed and read
abbrev pub denied_in_flash : Access → Option Rule
denied_in_flash Store = Some NoWrite
denied_in_flash other = None

-- RAM may be read and written
abbrev pub denied_in_ram : Access → Option Rule
denied_in_ram Fetch = Some NoExecute
denied_in_ram other = None

-- which of the two intervals an access lies in, with all its bytes, and what that denies
abbrev pub denied_by_intervals : ℕ → ℕ → ℕ → ℕ → Access → ℕ → Width → Option Rule
denied_by_intervals flash_start flash_end start brk access at width =
    if lies_within flash_start flash_end at (width_bytes width) then denied_in_flash access
    else (if lies_within start brk at (width_bytes width) then denied_in_ram access else Some NoRegion)

-- which rule denies a process an access, if one does: its accessible flash is from flash_start up
-- to flash_end and its accessible RAM from start up to brk
abbrev pub denied_by : ℕ → ℕ → ℕ → ℕ → Access → ℕ → Width → Option Rule
denied_by flash_start flash_end start brk = misaligned_first (denied_by_intervals flash_start flash_end start brk)
