-- The memory of the tests: 64 bytes from address 0 on, of which the first 32 may be executed and not
-- written, and the others written and not executed.
use Rattle.std.specs.Prelude.{ℕ, ◌+◌, nat_lt, if◌then◌else◌, Option, None, Some}
use Rattle.tk_base.specs.declared.access.Access.{Access}
use Rattle.tk_base.specs.declared.access.Access.TheVariants.{Fetch, Load, Store}
use Rattle.tk_base.specs.declared.access.Width.{Width}
use Rattle.tk_base.specs.declared.access.Rule.{Rule}
use Rattle.tk_base.specs.declared.access.Rule.TheVariants.{NoRegion, NoExecute, NoWrite}
use Rattle.tk_base.specs.Access.{width_bytes}

abbrev pub half_denies : Access → ℕ → Option Rule
half_denies Fetch at = if nat_lt at 32 then None else Some NoExecute
half_denies Load at = None
half_denies Store at = if nat_lt at 32 then Some NoWrite else None

abbrev pub small_denies : Access → ℕ → Width → Option Rule
small_denies access at width = if nat_lt 64 (at + width_bytes width) then Some NoRegion else half_denies access at
