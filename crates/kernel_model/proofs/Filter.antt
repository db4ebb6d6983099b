-- That the system call filter holds in runs, by the call that was served.
use Rattle.std.proofs.Common.{◌≡◌, ℕ, ◌==◌, Bool, true, false, cond, List, Option, None, Some, refl, sym}
use Rattle.std.proofs.Common.{ap, subst, ◌∙◌}
use Rattle.std.specs.Prelude.{IfSome}
use Rattle.std.proofs.lemmas.Bool.{false≢true}
use Rattle.tk_base.specs.declared.call.CallRule.TheVariants.{Permission}
use Rattle.tk_base.specs.declared.kinds.PairKind.{PairKind}
use Rattle.tk_base.specs.declared.kinds.PairKind.TheVariants.{Upcall}
use Rattle.tk_base.specs.Regs.{Registers}
use Rattle.syscall_abi.specs.declared.form.CallForm.{CallForm}
use Rattle.syscall_abi.specs.declared.form.CallForm.TheVariants as forms
use Rattle.syscall_abi.specs.Call.{a0, a1, a2, a3, call_of, class}
use Rattle.syscall_filter.specs.Permission.{permitted}
use Rattle.process_record.specs.declared.emit.CallMade.{CallMade}
use Rattle.process_record.specs.declared.outcome.Outcome.{Outcome}
use Rattle.driver_model.specs.Drivers.{CommandContext}
use Rattle.kernel_model.proofs.Turning.{of_each_end}
use Rattle.kernel_model.specs.Record.{Record, with_effect}
use Rattle.kernel_model.specs.declared.settings.Settings.{Settings}
use Rattle.kernel_model.specs.Calls.{by_form, failure_of, refused_with, served}
use Rattle.kernel_model.specs.Histories.{class_of}
use Rattle.kernel_model.specs.Parts.{object_permits}
use Rattle.kernel_model.specs.Turn.{made, rule_shown, surroundings, turn_counted, turned}
use Rattle.kernel_model.proofs.Accesses.{step_labels}
use Rattle.kernel_model.proofs.Classes.{of_registers, swap_in}
use Rattle.kernel_model.specs.Filter.{IsFiltered, StepsAreFiltered, is_allowed, names_driver, permissions_of}

-- what is permitted by the form of a call is allowed by what a turn shows of it
module _ (strict : Bool) (list : Option (List ℕ)) (regs : Registers) (outcome : Outcome) where
  abbrev Follows : Option CallForm → Type 0
  Follows o = IfSome o (λ call. permitted strict list call ≡ true → names_driver (class regs) ≡ true
      → is_allowed strict list (made regs outcome) ≡ true)

  -- a class that names no driver
  nameless : (n : ℕ) {A : Type 0} → names_driver n ≡ false → class regs ≡ n → names_driver (class regs) ≡ true → A
  nameless n none is names = absurd (false≢true (sym (ap names_driver is ∙ none) ∙ names))

  -- a swap is no command, so that its driver alone is looked for
  not_command : (kind : PairKind) (x y : Bool) → cond (class_of kind == 2) x y ≡ y
  not_command Upcall x y = refl
  not_command kind x y = refl

  of_swap : (kind : PairKind) → class regs ≡ class_of kind → (list : Option (List ℕ))
      → permitted strict list (forms.Swap (swap_in kind regs)) ≡ true
      → is_allowed strict list (made regs outcome) ≡ true
  of_swap kind is None may = may
  of_swap kind is (Some entries) may = rw (is, not_command kind) may

  of_command : (x y : ℕ) → class regs ≡ 2 → (list : Option (List ℕ))
      → permitted strict list (forms.Command (a0 regs) (a1 regs) x y) ≡ true
      → is_allowed strict list (made regs outcome) ≡ true
  of_command x y is None may = may
  of_command x y is (Some entries) may = rw is may

  follows : Follows (call_of regs)
  follows =
      of_registers Follows regs (λ is may names. nameless 0 refl is names)
      (λ kind is may names. of_swap kind is list may) (λ is may names. of_command (a2 regs) (a3 regs) is list may)
      (λ is may names. nameless 5 refl is names) (λ is may names. nameless 6 refl is names) tt

-- a call that was not refused was permitted
not_refused : (strict : Bool) (around : CommandContext) (r : Record) (call : CallForm)
    → rule_shown (served strict around r call).outcome ≡ None → object_permits strict r.object call ≡ true
unfolding served
not_refused strict around r call e = by_test (object_permits strict r.object call) e
  where
    by_test : (b : Bool)
        → rule_shown (cond b (by_form around r call)
        (refused_with r Permission (failure_of call Permission))).outcome ≡ None → b ≡ true
    by_test true e = refl
    by_test false e = absurd (cc)

turn_filtered : (settings : Settings) (time : ℕ) (r : Record) → IsFiltered settings r (turned settings time r).told
turn_filtered settings time r =
    of_each_end settings time r (λ t. IsFiltered settings r t.told) (record {
      nothing = λ none shown e names rule. absurd (cc);
      went = λ t is shown e names rule. absurd (cc);
      faults = λ t denial is runs shown e names rule. absurd (cc);
      makes = λ t call same_turn calls runs is shown e names rule.
          let x = with_effect (turn_counted r) t in
          let s = served settings.strict (surroundings settings time x) x call in
          let same : made t.regs s.outcome ≡ shown = cc in
          let may = not_refused settings.strict (surroundings settings time x) x call
          (ap (λ (m : CallMade). m.rule) same ∙ rule) in
          let names_it = ap (λ (m : CallMade). names_driver m.class) same ∙ names in
          let allowed =
          subst (λ (o : Option CallForm). Follows settings.strict (permissions_of r) t.regs s.outcome o) is
          (follows settings.strict (permissions_of r) t.regs s.outcome) may names_it in
          ap (is_allowed settings.strict (permissions_of r)) (sym same) ∙ allowed;
      delivers = λ next is yielded shown e names rule. absurd (cc);
    })

pub steps_are_filtered : StepsAreFiltered
steps_are_filtered w choice =
    step_labels (IsFiltered w.settings) w (λ r shown e names rule. absurd (cc)) (turn_filtered w.settings w.clock.time)
    choice
