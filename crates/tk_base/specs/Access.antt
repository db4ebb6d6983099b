-- Accesses and denials. The causes are those of the RISC-V privileged manual, "Machine Cause Register (mcause)".
use Rattle.std.specs.Prelude.{ℕ, ◌%◌, ◌==◌, Bool, false, not, if◌then◌else◌, Option, Some}
use Rattle.tk_base.specs.declared.access.Width.{Width}
use Rattle.tk_base.specs.declared.access.Width.TheVariants.{Byte, Half, Word}
use Rattle.tk_base.specs.declared.access.Access.{Access}
use Rattle.tk_base.specs.declared.access.Access.TheVariants.{Fetch, Load, Store}
use Rattle.tk_base.specs.declared.access.Rule.{Rule}
use Rattle.tk_base.specs.declared.access.Rule.TheVariants.{NoRegion, NoExecute, NoWrite, NoRead, Misaligned, Illegal}
use Rattle.tk_base.specs.declared.access.Rule.TheVariants.{Breakpoint, UnknownClass}
use Rattle.tk_base.specs.declared.access.Denial.{Denial}

-- how many bytes an access covers
abbrev pub width_bytes : Width → ℕ
width_bytes Byte = 1
width_bytes Half = 2
width_bytes Word = 4

-- a load or store whose address is no multiple of its width (RISC-V unprivileged manual, "Load and Store
-- Instructions")
abbrev pub is_misaligned : Access → ℕ → Width → Bool
is_misaligned Fetch at width = false
is_misaligned access at width = not (at % width_bytes width == 0)

-- a misaligned load or store is denied as such, whatever else would deny it: the higher of the two priorities that
-- the privileged manual permits ("Machine Cause Register (mcause)", the table of exception priority)
abbrev pub misaligned_first : (Access → ℕ → Width → Option Rule) → Access → ℕ → Width → Option Rule
misaligned_first denies access at width =
    if is_misaligned access at width then Some Misaligned else denies access at width

-- the exception code of an address that is misaligned
abbrev pub misaligned_cause : Access → ℕ
misaligned_cause Fetch = 0
misaligned_cause Load = 4
misaligned_cause Store = 6

-- the exception code of an access fault
abbrev pub fault_cause : Access → ℕ
fault_cause Fetch = 1
fault_cause Load = 5
fault_cause Store = 7

abbrev pub rule_cause : Rule → Access → ℕ
rule_cause Illegal access = 2
rule_cause Breakpoint access = 3
rule_cause UnknownClass access = 8
rule_cause Misaligned access = misaligned_cause access
rule_cause NoRegion access = fault_cause access
rule_cause NoExecute access = fault_cause access
rule_cause NoWrite access = fault_cause access
rule_cause NoRead access = fault_cause access

-- the code of mcause for a denial
abbrev pub cause_of : Denial → ℕ
cause_of d = rule_cause d.rule d.access
