-- All that a call may come to, with what it leaves of its process: the walk for laws of what a process gets.
use Rattle.std.proofs.Common.{◌≡◌, ℕ, ◌==◌, Bool, true, None, Some, Result, Ok, Err, refl}
use Rattle.tk_base.specs.declared.call.CallRule.{CallRule}
use Rattle.tk_base.specs.declared.call.CallRule.TheVariants.{NoDriver, NoOperation, Permission}
use Rattle.driver_model.specs.Commands.{Commanded}
use Rattle.driver_model.specs.Drivers.{CommandContext, CommandHandler, handler_of}
use Rattle.process_layout.specs.Bounds.{permits_break}
use Rattle.process_model.specs.Own.{kernel_break_of, own_ended}
use Rattle.syscall_abi.specs.declared.form.CallForm.{CallForm}
use Rattle.syscall_abi.specs.declared.form.CallForm.TheVariants as forms
use Rattle.syscall_abi.specs.declared.form.Swap.{Swap}
use Rattle.syscall_abi.specs.declared.reply.Reply.{Reply}
use Rattle.process_record.specs.declared.outcome.Outcome.TheVariants.{Ended, Again}
use Rattle.process_record.specs.Process.{after_call, after_end}
use Rattle.kernel_model.specs.Record.{Record, record_with_step}
use Rattle.kernel_model.specs.Calls.{Served, by_form, ended, exit, failure_of, refused_with, replied, restart}
use Rattle.kernel_model.specs.Calls.{driver_answered, refused, served, swap_refusal, yielding}
use Rattle.kernel_model.specs.Parts.{commanded, object_permits, own_swapped, with_break_at}
use Rattle.kernel_model.specs.Turn.{rule_shown}
use Rattle.kernel_model.proofs.Memops.{by_test, memop_permits}
use Rattle.std.proofs.Common.{inl, inr}
use Rattle.std.proofs.lemmas.Bool.{cond_both}
use Rattle.kernel_model.proofs.Places.{cases_Option}

-- what holds of each of them, by the form of the call
pub record OfEachCall (P : Served → Type 0) (around : CommandContext) (r : Record) (form : CallForm) : Type 0 where
  pub refused : (rule : CallRule) → P (refused_with r rule (failure_of form rule))
  pub same : (reply : Reply) → P (replied r reply)
  pub moved : (new : ℕ) (reply : Reply) → permits_break r.own.layout (kernel_break_of r.own) new ≡ true
      → P (replied (with_break_at r new) reply)
  pub swapped : (swap : Swap) (reply : Reply) → swap_refusal swap r.own ≡ None
      → P (replied (record r { own = own_swapped swap r.own }) reply)
  pub yields : (number a1 a2 : ℕ) → form ≡ forms.Yield number a1 a2 → P (yielding r number a1 a2)
  pub commands : (driver number a2 a3 : ℕ) (taker : CommandHandler) → form ≡ forms.Command driver number a2 a3
      → handler_of driver ≡ Some taker → P (commanded r (taker around number a2 a3 r.own))
  pub ends : (kind code : ℕ) → form ≡ forms.Exit kind code
      → P (ended (record r { process = after_end (after_call r.process) code; own = own_ended r.own }) Ended)
  pub again : (kind code : ℕ) → form ≡ forms.Exit kind code → P (ended (restart r) Again)

module _ (P : Served → Type 0) (around : CommandContext) (r : Record) where
  by_exit : (kind code : ℕ) → OfEachCall P around r (forms.Exit kind code) → P (exit r kind code)
  unfolding exit
  by_exit kind code each =
      by_test P (kind == 0) _ _ (each.ends kind code refl)
      (by_test P (kind == 1) _ _ (each.again kind code refl) (each.refused NoOperation))

  pub of_form : (form : CallForm) → OfEachCall P around r form → P (by_form around r form)
  unfolding by_form
  of_form (forms.Yield number a1 a2) each = each.yields number a1 a2 refl
  of_form (forms.Swap swap) each =
      elim (cases_Option (swap_refusal swap r.own))
      [ inl none ↦ rw none (each.swapped swap _ none) | inr is ↦ rw is.1 (each.refused is.0) ]
  of_form (forms.Command driver number a2 a3) each =
      elim (cases_Option (handler_of driver))
      [ inl none ↦ rw none (each.refused NoDriver) | inr is ↦ rw is.1 (each.commands driver number a2 a3 _ refl is.1) ]
  of_form (forms.Memop operation argument) each =
      memop_permits P r operation argument each.refused each.same each.moved
  of_form (forms.Exit kind code) each = by_exit kind code each

  pub of_served : (strict : Bool) (form : CallForm) → OfEachCall P around r form → P (served strict around r form)
  unfolding served
  of_served strict form each =
      by_test P (object_permits strict r.object form) _ _ (of_form form each) (each.refused Permission)

-- a command is replied to, or refused
pub of_commanded : (P : Served → Type 0) (r : Record) (c : Commanded)
    → ((reply : Reply) → c.answer ≡ Ok reply
    → P (record (replied (record_with_step r c.step) reply) { acts = c.acts }))
    → ((rule : CallRule) → c.answer ≡ Err rule
    → P (record (refused (record_with_step r c.step) rule) { acts = c.acts }))
    → P (commanded r c)
of_commanded P r c replies refuses = by_answer c.answer refl
  where
    by_answer : (answer : Result Reply CallRule) → c.answer ≡ answer
        → P (record (driver_answered (record_with_step r c.step) answer) { acts = c.acts })
    by_answer (Ok reply) is = replies reply is
    by_answer (Err rule) is = refuses rule is

-- a call that broke no rule is what its form comes to
pub of_permitted : (P : Served → Type 0) (strict : Bool) (around : CommandContext) (r : Record) (form : CallForm)
    → P (by_form around r form)
    → let s = served strict around r form in rule_shown s.outcome ≡ None → P s
unfolding served
of_permitted P strict around r form holds =
    cond_both (object_permits strict r.object form) _ _ (λ (s : Served). rule_shown s.outcome ≡ None → P s)
    (λ may none. holds) (λ may_not none. absurd (cc))
