-- Which accesses a process has: Tock's memory layout, two intervals and no registers (TRD 104, "Memop"; RISC-V
-- privileged manual, "Physical Memory Protection").
use Rattle.std.specs.Prelude.{ℕ, Option}
use Rattle.tk_base.specs.declared.access.Access.{Access}
use Rattle.tk_base.specs.declared.access.Width.{Width}
use Rattle.tk_base.specs.declared.access.Rule.{Rule}
use Rattle.process_layout.specs.Bounds.{Bounds}
use Rattle.process_layout.specs.Permission.{denied_by}

-- why an access is denied: it is misaligned, or its bytes do not lie in accessible flash or in accessible RAM, or
-- may not be accessed so there
unfoldable pub denied : Bounds → Access → ℕ → Width → Option Rule
denied e access at width = denied_by e.flash_start e.flash_end e.start e.brk access at width
