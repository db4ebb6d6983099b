-- The call that registers make, by its class (`of_registers`); and what they have that make a call of a form
-- (`made_as`).
use Rattle.std.proofs.Common.{◌≡◌, ℕ, ◌==◌, cond, [], ◌∷◌, Option, None, Some, refl, sym, subst}
use Rattle.std.proofs.Common.{eqb-true}
use Rattle.std.specs.Option.{option_map}
use Rattle.tk_base.specs.Regs.{Registers}
use Rattle.tk_base.specs.declared.kinds.PairKind.{PairKind}
use Rattle.tk_base.specs.declared.kinds.PairKind.TheVariants.{Upcall, ReadOnly, ReadWrite, Readable}
use Rattle.syscall_abi.specs.declared.form.CallForm.{CallForm}
use Rattle.syscall_abi.specs.declared.form.CallForm.TheVariants as forms
use Rattle.syscall_abi.specs.declared.form.Swap.{Swap}
use Rattle.syscall_abi.specs.Call.{a0, a1, a2, a3, call_of, class, class_table}
use Rattle.kernel_model.specs.Histories.{class_of}
use Rattle.kernel_model.specs.Turn.{arguments}
use Rattle.std.proofs.lemmas.Bool.{cond_both}

-- the calls that registers make
abbrev pub yield_in : Registers → CallForm
yield_in regs = forms.Yield (a0 regs) (a1 regs) (a2 regs)

abbrev pub command_in : Registers → CallForm
command_in regs = forms.Command (a0 regs) (a1 regs) (a2 regs) (a3 regs)

abbrev pub memop_in : Registers → CallForm
memop_in regs = forms.Memop (a0 regs) (a1 regs)

abbrev pub exit_in : Registers → CallForm
exit_in regs = forms.Exit (a0 regs) (a1 regs)

-- the swap of a kind that registers make
abbrev pub swap_in : PairKind → Registers → Swap
swap_in kind regs = record { kind = kind; driver = a0 regs; number = a1 regs; pair = (a2 regs, a3 regs) }

-- what the registers ask for, by their class: a swap of each kind has its own
module _ (P : Option CallForm → Type 0) (regs : Registers) where
  row : (n : ℕ) (call : CallForm) (rest : Option (ℕ × CallForm)) → (class regs ≡ n → P (Some call))
      → P (option_map (λ (r : ℕ × CallForm). r.1) rest)
      → P (option_map (λ (r : ℕ × CallForm). r.1) (cond (n == class regs) (Some (n, call)) rest))
  row n call rest here later =
      cond_both (n == class regs) _ rest (λ o. P (option_map (λ (r : ℕ × CallForm). r.1) o))
      (λ e. here (sym (eqb-true n (class regs) e))) (λ e. later)

  pub of_registers : (class regs ≡ 0 → P (Some (yield_in regs)))
      → ((kind : PairKind) → class regs ≡ class_of kind → P (Some (forms.Swap (swap_in kind regs))))
      → (class regs ≡ 2 → P (Some (command_in regs))) → (class regs ≡ 5 → P (Some (memop_in regs)))
      → (class regs ≡ 6 → P (Some (exit_in regs))) → P None → P (call_of regs)
  unfolding call_of class_table
  of_registers yields swaps commands memops exits none =
      row 0 _ _ yields (row 1 _ _ (swaps Upcall) (row 2 _ _ commands (row 3 _ _ (swaps ReadWrite)
      (row 4 _ _ (swaps ReadOnly) (row 5 _ _ memops (row 6 _ _ exits (row 7 _ _ (swaps Readable) none)))))))

-- registers that make a command have its class, its driver and its number
pub record IsCommand (regs : Registers) (driver number : ℕ) : Type 0 where
  pub class_is : class regs ≡ 2
  pub driver_is : a0 regs ≡ driver
  pub number_is : a1 regs ≡ number

-- what registers have of the form of calls that they make: of a yield also its number and its second argument, and of
-- a command all arguments
abbrev pub MadeAs : Registers → CallForm → Type 0
MadeAs regs (forms.Yield number x y) = (class regs ≡ 0) × ((a0 regs ≡ number) × (a1 regs ≡ x))
MadeAs regs (forms.Command driver number x y) =
    (driver ∷ number ∷ x ∷ y ∷ [] ≡ arguments regs) × IsCommand regs driver number
MadeAs regs (forms.Exit kind code) = class regs ≡ 6
MadeAs regs other = Unit {0}

pub same_form : (form other : CallForm) → Some form ≡ Some other → form ≡ other
same_form form other e = cc

pub made_as : (regs : Registers) (form : CallForm) → call_of regs ≡ Some form → MadeAs regs form
made_as regs =
    of_registers (λ (o : Option CallForm). (form : CallForm) → o ≡ Some form → MadeAs regs form) regs
    (λ is. so (yield_in regs) (is, (refl, refl))) (λ kind is. so (forms.Swap (swap_in kind regs)) tt)
    (λ is. so (command_in regs) (refl, record { class_is = is; driver_is = refl; number_is = refl }))
    (λ is. so (memop_in regs) tt) (λ is. so (exit_in regs) is) (λ form e. absurd (cc))
  where
    so : (here : CallForm) → MadeAs regs here → (form : CallForm) → Some here ≡ Some form → MadeAs regs form
    so here made form e = subst (MadeAs regs) (same_form here form e) made
