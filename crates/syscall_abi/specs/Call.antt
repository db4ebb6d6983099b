-- The system call interface: TRD 104, "System Call API"; and class 7, the userspace-readable allow of Tock's kernel.
use Rattle.std.specs.Prelude.{ℕ, ◌==◌, List, [], ◌∷◌, find, Option, option_map}
use Rattle.tk_base.specs.Regs.{Registers}
use Rattle.tk_base.specs.Regs.{register}
use Rattle.tk_base.specs.declared.kinds.PairKind.{PairKind}
use Rattle.tk_base.specs.declared.kinds.PairKind.TheVariants.{Upcall, ReadOnly, ReadWrite, Readable}
use Rattle.syscall_abi.specs.declared.form.CallForm.{CallForm}
use Rattle.syscall_abi.specs.declared.form.CallForm.TheVariants as forms

-- The class of a call stands in a4, its arguments in a0 to a3.
abbrev pub class : Registers → ℕ
class regs = register regs 14

-- register a0, the first argument
abbrev pub a0 : Registers → ℕ
a0 regs = register regs 10

-- register a1, the second argument
abbrev pub a1 : Registers → ℕ
a1 regs = register regs 11

-- register a2, the third argument
abbrev pub a2 : Registers → ℕ
a2 regs = register regs 12

-- register a3, the fourth argument
abbrev pub a3 : Registers → ℕ
a3 regs = register regs 13

-- Each class, and the call that the registers make in it; its arguments stand in a0 to a3, which are x10 to x13.
-- Subscribe, the read-write, the read-only and the readable allow are swaps, each of its kind of pairs.
unfoldable pub class_table : Registers → List (ℕ × CallForm)
class_table regs =
    let x = register regs in
    let swap = λ (k : PairKind). forms.Swap (record { kind = k; driver = x 10; number = x 11; pair = (x 12, x 13) }) in
    (0, forms.Yield (x 10) (x 11) (x 12))
    ∷ (1, swap Upcall)
    ∷ (2, forms.Command (x 10) (x 11) (x 12) (x 13))
    ∷ (3, swap ReadWrite)
    ∷ (4, swap ReadOnly)
    ∷ (5, forms.Memop (x 10) (x 11))
    ∷ (6, forms.Exit (x 10) (x 11))
    ∷ (7, swap Readable)
    ∷ []

-- the call that the registers make, which is that of their class; none for a class that is not in the table
unfoldable pub call_of : Registers → Option CallForm
call_of regs = option_map (λ row. row.1) (find (λ row. row.0 == class regs) (class_table regs))
