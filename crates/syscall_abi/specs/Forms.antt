-- The calls of each class, as the program has them, and their forms: TRD 104, "System Call API"; and class 7, the
-- userspace-readable allow of Tock's kernel.
use Rattle.std.specs.Prelude.{◌≡◌, ℕ, Option, None, Some}
use Rattle.tk_base.specs.declared.kinds.PairKind.{PairKind}
use Rattle.tk_base.specs.declared.kinds.PairKind.TheVariants.{Upcall, ReadOnly, ReadWrite, Readable}
use Rattle.syscall_abi.specs.declared.call.Call.{Call}
use Rattle.syscall_abi.specs.declared.call.Call.TheVariants.{Yield, Subscribe, Command, AllowRw, AllowRo, Memop}
use Rattle.syscall_abi.specs.declared.call.Call.TheVariants.{Exit, AllowUr}
use Rattle.syscall_abi.specs.declared.form.CallForm.{CallForm}
use Rattle.syscall_abi.specs.declared.form.CallForm.TheVariants as forms

-- a call that hands a pair to a driver: subscribe and the allows, each with its kind of pairs
abbrev pub swap_form : PairKind → ℕ → ℕ → ℕ × ℕ → CallForm
swap_form kind driver number pair = forms.Swap (record { kind = kind; driver = driver; number = number; pair = pair })

-- a call by its form: subscribe, the read-write, the read-only and the readable allow are swaps, each of its kind of
-- pairs
abbrev pub form_of : Call → CallForm
form_of (Yield number a1 a2) = forms.Yield number a1 a2
form_of (Subscribe driver number function app) = swap_form Upcall driver number (function, app)
form_of (Command driver command a2 a3) = forms.Command driver command a2 a3
form_of (AllowRw driver number address size) = swap_form ReadWrite driver number (address, size)
form_of (AllowRo driver number address size) = swap_form ReadOnly driver number (address, size)
form_of (AllowUr driver number address size) = swap_form Readable driver number (address, size)
form_of (Memop operation argument) = forms.Memop operation argument
form_of (Exit kind code) = forms.Exit kind code

-- calls with one form are one call, so that a form tells the call
abbrev pub FormsTellCalls : Type 0
FormsTellCalls = (a b : Call) → form_of a ≡ form_of b → a ≡ b

-- the driver that a form of calls names; none of a yield, a memop and an exit
abbrev pub driver_in : CallForm → Option ℕ
driver_in (forms.Swap swap) = Some swap.driver
driver_in (forms.Command driver command a2 a3) = Some driver
driver_in form = None
