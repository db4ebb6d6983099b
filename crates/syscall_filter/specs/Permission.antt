-- Which system calls the header of an application permits (Tock Binary Format, "Permissions"; the system call
-- filter of Tock's kernel).
use Rattle.std.specs.Prelude.{ℕ, Bool, true, not, if◌then◌else◌, List, Option, Result, Ok, Err}
use Rattle.std.specs.Option.{option_map_or}
use Rattle.tk_base.specs.declared.call.CallRule.{CallRule}
use Rattle.tk_base.specs.declared.call.CallRule.TheVariants.{Permission}
use Rattle.tbf_headers.specs.Permissions.{allows, lists}
use Rattle.syscall_abi.specs.declared.form.CallForm.{CallForm}
use Rattle.syscall_abi.specs.declared.form.CallForm.TheVariants.{Swap, Command}

-- What an application may do by the list in its Permissions TLV: a command where an entry of its driver has its bit; a
-- swap, which is a subscribe or an allow, where any entry is of its driver. Without the TLV only a strict filter
-- refuses them. Every other form of calls is permitted.
abbrev pub permitted : Bool → Option (List ℕ) → CallForm → Bool
permitted strict list (Command driver number a2 a3) = option_map_or (λ l. allows l driver number) list (not strict)
permitted strict list (Swap swap) = option_map_or (λ l. lists l swap.driver) list (not strict)
permitted strict list form = true

-- the answer to a call by the Permissions TLV, if there is one, by a strict filter or an open one: refused exactly
-- where it is not permitted
abbrev pub permission : Option (List ℕ) → Bool → CallForm → Result Unit CallRule
permission permissions strict form = if permitted strict permissions form then Ok tt else Err Permission
