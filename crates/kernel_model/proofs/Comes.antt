-- What every call comes to, by cases on the call: it is refused, and changes nothing but the reply registers, pc and
-- the recorded refusal; or it is served, which is one record (`IsServed`). A law over calls gives these two cases
-- (`OfBoth`), and `of_call` is the walk over all forms of a call.
use Rattle.std.proofs.Common.{◌≡◌, ◌≢◌, ◌<◌, length, ℕ, Bool, true, []}
use Rattle.std.proofs.Common.{None, Some, refl, sym, subst, arith}
use Rattle.tk_base.specs.declared.call.CallRule.{CallRule}
use Rattle.tk_base.specs.declared.limits.TheConstants.{PENDING_LIMIT}
use Rattle.tk_base.specs.Call.{error_of}
use Rattle.driver_model.specs.Commands.{Commanded}
use Rattle.driver_model.specs.Drivers.{CommandContext, CommandHandler, handler_of}
use Rattle.driver_model.specs.Laws.{IsAtMostOneMore}
use Rattle.syscall_abi.specs.declared.form.CallForm.{CallForm}
use Rattle.syscall_abi.specs.declared.form.CallForm.TheVariants as forms
use Rattle.syscall_abi.specs.declared.reply.Reply.{Reply}
use Rattle.syscall_abi.specs.declared.reply.Reply.TheVariants.{Failure}
use Rattle.process_record.specs.declared.outcome.Outcome.TheVariants.{ToDriver}
use Rattle.kernel_model.specs.Record.{Record, record_with_step}
use Rattle.kernel_model.specs.Turn.{rule_shown}
use Rattle.kernel_model.specs.Calls.{Served, failure_of}
use Rattle.kernel_model.specs.Parts.{commanded}
use Rattle.kernel_model.specs.Calls.{refused, refused_with, replied, restart}
use Rattle.kernel_model.specs.Calls.{served}
use Rattle.kernel_model.specs.Laws.{CanStartAgain, DriversPromise, KeepsLines}
use Rattle.kernel_model.proofs.Lines.{SameKept, all_same, keeps_commanded, keeps_ended, keeps_handed, keeps_restarted}
use Rattle.kernel_model.proofs.Lines.{keeps_same}
use Rattle.kernel_model.proofs.Calling.{of_commanded, of_served}
use Rattle.kernel_model.proofs.Restarts.{restart_by}
use Rattle.kernel_model.proofs.Yields.{kept_by_yield}
use Rattle.std.proofs.Common.{rules}

-- a call that was served: it broke no rule, at most one upcall was dropped, no driver has it still to answer, and its
-- process keeps a request exactly where it waits
pub record IsServed (around : CommandContext) (r : Record) (s : Served) : Type 0 where
  pub no_rule : rule_shown s.outcome ≡ None
  pub dropped : IsAtMostOneMore r.own.inbox.dropped s.after.own.inbox.dropped
  pub room : length r.own.inbox.pending < PENDING_LIMIT → s.after.own.inbox.dropped ≡ r.own.inbox.dropped
  pub done : s.outcome ≢ ToDriver
  pub lines : r.own.lives ≡ true → CanStartAgain r → KeepsLines around.storage r.own s.after.own s.acts

-- what holds of a call that is refused, and of one that is served
pub record OfBoth (P : Served → Type 0) (around : CommandContext) (r : Record) (failure : CallRule → Reply) : Type
    0 where
  pub refused : (rule : CallRule) → P (refused_with r rule (failure rule))
  pub served : (s : Served) → IsServed around r s → P s

pub no_more : (dropped : ℕ) → IsAtMostOneMore dropped dropped
no_more dropped = record { not_less = omega arith; not_more = omega arith }

abbrev pub plain : CallRule → Reply
plain rule = Failure (error_of rule)

-- what was served, and takes a process out of all lists
served_gone : (around : CommandContext) (r : Record) (s : Served) → rule_shown s.outcome ≡ None
    → s.after.own.inbox.dropped ≡ r.own.inbox.dropped → s.outcome ≢ ToDriver
    → (CanStartAgain r → KeepsLines around.storage r.own s.after.own s.acts) → IsServed around r s
served_gone around r s none same done lines = record {
  no_rule = none;
  dropped = rw same (no_more r.own.inbox.dropped);
  room = λ few. same;
  done = done;
  lines = λ lives can. lines can;
}

-- and what was served, and asks nothing of the board, of a process of which drivers keep the same
served_so : (around : CommandContext) (r : Record) (s : Served) → rule_shown s.outcome ≡ None
    → SameKept r.own s.after.own → s.outcome ≢ ToDriver → s.acts ≡ [] → IsServed around r s
served_so around r s none same done acts =
    served_gone around r s none same.dropped done
    (λ can. rw acts (keeps_same around.storage r.own s.after.own same))

pub restart_keeps : (r : Record) → (restart r).own.inbox.dropped ≡ r.own.inbox.dropped
restart_keeps r = restart_by (λ s. s.own.inbox.dropped ≡ r.own.inbox.dropped) r refl (λ h m is main. refl)

-- what holds of a call that is refused and of one that is served holds of every call
module _ (P : Served → Type 0) (promise : DriversPromise) (strict : Bool) (around : CommandContext) (r : Record)
    (call : CallForm) (both : OfBoth P around r (failure_of call)) where
  by_command : (driver number a2 a3 : ℕ) (taker : CommandHandler) → call ≡ forms.Command driver number a2 a3
      → handler_of driver ≡ Some taker → P (commanded r (taker around number a2 a3 r.own))
  by_command driver number a2 a3 taker same is =
      let c = taker around number a2 a3 r.own in
      let follows = promise.follow driver taker is around number a2 a3 r.own in
      let stays = promise.stay driver taker is around number a2 a3 r.own in
      of_commanded P r c
      (λ reply answers. both.served (record (replied (record_with_step r c.step) reply) { acts = c.acts })
      (record {
        no_rule = refl;
        dropped = promise.drop driver taker around number a2 a3 r.own is;
        room = (promise.limit.command driver taker is around number a2 a3 r.own).room;
        done = λ e. cc;
        lines = λ lives can. keeps_commanded around r.own c lives follows stays;
      }))
      (λ rule answers.
      subst (λ (x : Commanded). P (record (refused (record_with_step r x.step) rule) { acts = x.acts }))
      (sym (promise.refuse driver taker around number a2 a3 r.own rule is answers))
      (subst (λ (f : CallForm). P (refused_with r rule (failure_of f rule))) same (both.refused rule)))

  pub of_call : P (served strict around r call)
  of_call =
      of_served P around r strict call (record {
        refused = both.refused;
        same = λ reply. both.served _ (served_so around r _ refl (all_same r.own) (λ e. cc) refl);
        moved = λ new reply may. both.served _ (served_so around r _ refl (search rules) (λ e. cc) refl);
        swapped = λ swap reply may.
            both.served _ (served_gone around r _ refl refl (λ e. cc)
            (λ can. keeps_handed promise.alone around.storage swap r.own));
        yields = λ number one two same. let k = kept_by_yield r number one two in
            both.served _ (served_so around r _ k.silent.rule k.same k.silent.done k.acts);
        commands = by_command;
        ends = λ kind code same.
            both.served _ (served_gone around r _ refl refl (λ e. cc) (λ can. keeps_ended around.storage r.own));
        again = λ kind code same.
            both.served _ (served_gone around r _ refl (restart_keeps r) (λ e. cc)
            (keeps_restarted around.storage r));
      })
