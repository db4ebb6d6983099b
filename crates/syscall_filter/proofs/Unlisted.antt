-- What a filter permits without the Permissions TLV.
use Rattle.std.proofs.Common.{◌≡◌, Bool, true, false, not, ◌&&◌, None, is_some, refl}
use Rattle.syscall_abi.specs.declared.form.CallForm.{CallForm}
use Rattle.syscall_abi.specs.declared.form.CallForm.TheVariants.{Yield, Swap, Command, Memop, Exit}
use Rattle.syscall_abi.specs.Forms.{driver_in}
use Rattle.syscall_filter.specs.Permission.{permitted}

-- only a strict one refuses a call, which names a driver
pub without_list : (strict : Bool) (form : CallForm)
    → permitted strict None form ≡ not (strict && is_some (driver_in form))
without_list true (Yield number a1 a2) = refl
without_list true (Swap swap) = refl
without_list true (Command driver number a2 a3) = refl
without_list true (Memop operation argument) = refl
without_list true (Exit kind code) = refl
without_list false (Yield number a1 a2) = refl
without_list false (Swap swap) = refl
without_list false (Command driver number a2 a3) = refl
without_list false (Memop operation argument) = refl
without_list false (Exit kind code) = refl
