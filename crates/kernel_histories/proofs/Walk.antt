-- What holds of each thing that the turn of a process may come to holds of its turn, by what it waited for
-- (`of_state`); and what holds of each thing that a call may come to holds of the call that registers make, by its
-- class, which is a number in each case, so that what its label tells computes (`of_class`). Laws of what waits, of
-- what is taken and of what is handed give these cases.
use Rattle.std.proofs.Common.{◌≡◌, ℕ, ◌==◌, Bool, List, Option, None, Some, slice_get, refl, sym, subst}
use Rattle.std.specs.Option.{option_map}
use Rattle.tk_base.specs.declared.access.Denial.{Denial}
use Rattle.tk_base.specs.declared.call.CallRule.{CallRule}
use Rattle.tk_base.specs.declared.call.CallRule.TheVariants.{NoDriver, NoOperation, Permission}
use Rattle.tk_base.specs.declared.kinds.PairKind.{PairKind}
use Rattle.tk_base.specs.declared.upcall.Upcall.{Upcall as Scheduled}
use Rattle.tk_base.specs.declared.upcall.Wait.{Wait}
use Rattle.tk_base.specs.declared.upcall.Wait.TheVariants.{No, For, Given}
use Rattle.tk_base.specs.Regs.{Registers}
use Rattle.rv32_model.specs.declared.turn_end.TurnEnd.{TurnEnd}
use Rattle.rv32_model.specs.declared.turn_end.TurnEnd.TheVariants as ends
use Rattle.rv32_model.specs.UserTurn.{UserTurn}
use Rattle.syscall_abi.specs.declared.form.CallForm.{CallForm}
use Rattle.syscall_abi.specs.declared.form.CallForm.TheVariants as forms
use Rattle.syscall_abi.specs.declared.reply.Reply.{Reply}
use Rattle.syscall_abi.specs.declared.reply.Reply.TheVariants.{Failure}
use Rattle.tk_base.specs.Call.{error_of}
use Rattle.syscall_abi.specs.Call.{a0, a1, a2, a3, call_of, class}
use Rattle.upcall_queue.specs.declared.inbox.Delivery.TheVariants.{Arguments, Function}
use Rattle.upcall_queue.specs.Pending.{due_by, left_by}
use Rattle.process_model.specs.Own.{own_ended}
use Rattle.driver_model.specs.Drivers.{CommandContext, CommandHandler, handler_of}
use Rattle.process_record.specs.declared.outcome.Outcome.{Outcome}
use Rattle.process_record.specs.declared.outcome.Outcome.TheVariants.{Again, Ended}
use Rattle.process_record.specs.declared.process.State.{State}
use Rattle.process_record.specs.declared.process.State.TheVariants.{Running, Yielded}
use Rattle.process_record.specs.Process.{after_call, after_end}
use Rattle.kernel_model.specs.Record.{Record, instruction, with_effect}
use Rattle.kernel_model.specs.declared.settings.Settings.{Settings}
use Rattle.kernel_model.specs.Calls.{Served, by_form, deliver, ended, exit, refused_with, replied, restart, served}
use Rattle.kernel_model.specs.Calls.{swap_by, swap_refusal, taken_by, yielding}
use Rattle.kernel_model.specs.Parts.{calls, commanded, delivery, object_permits, with_break_at}
use Rattle.kernel_model.specs.Turn.{Turned, at_turn_end, called, faulted, idle, surroundings, turn_counted, turn_in}
use Rattle.kernel_model.specs.Turn.{TurnTrace, made, untraced}
use Rattle.kernel_model.specs.Histories.{class_of}
use Rattle.kernel_model.proofs.Classes.{command_in, exit_in, memop_in, of_registers, swap_in, yield_in}
use Rattle.kernel_model.proofs.Memops.{by_test, memop_gives}
use Rattle.kernel_histories.specs.Deliveries.{wait_in, wait_of}

-- what a turn tells that made a call of a class, of which nothing counts here but the call
abbrev pub tells : Registers → ℕ → Outcome → TurnTrace
tells regs class outcome = record untraced { call = Some (record (made regs outcome) { class = class }) }

-- what holds of each thing that the call of each class may come to; of a refused one, of whatever class
pub record OfEachClass (P : ℕ → Served → Type 0) (around : CommandContext) (r : Record) : Type 0 where
  pub refused : (n : ℕ) (rule : CallRule) (reply : Reply) → P n (refused_with r rule reply)
  pub yields : P 0 (yielding r (a0 r.process.regs) (a1 r.process.regs) (a2 r.process.regs))
  pub hands : (kind : PairKind) → class r.process.regs ≡ class_of kind → let swap = swap_in kind r.process.regs in
      swap_refusal swap r.own ≡ None → P (class_of kind) (swap_by r swap None)
  pub commands : (taker : CommandHandler) → handler_of (a0 r.process.regs) ≡ Some taker → let regs = r.process.regs in
      P 2 (commanded r (taker around (a1 regs) (a2 regs) (a3 regs) r.own))
  pub replies : (reply : Reply) → P 5 (replied r reply)
  pub moves : (new : ℕ) (reply : Reply) → P 5 (replied (with_break_at r new) reply)
  pub ends : (code : ℕ)
      → P 6 (ended (record r { process = after_end (after_call r.process) code; own = own_ended r.own }) Ended)
  pub again : P 6 (ended (restart r) Again)

module _ (P : ℕ → Served → Type 0) (around : CommandContext) (r : Record) (each : OfEachClass P around r) where
  abbrev regs : Registers
  regs = r.process.regs

  of_swap : (kind : PairKind) → class regs ≡ class_of kind → (o : Option CallRule)
      → swap_refusal (swap_in kind regs) r.own ≡ o → P (class_of kind) (swap_by r (swap_in kind regs) o)
  of_swap kind is None accepted = each.hands kind is accepted
  of_swap kind is (Some rule) refusal = each.refused (class_of kind) rule _

  of_taken : (o : Option CommandHandler) → handler_of (a0 regs) ≡ o
      → P 2 (taken_by around (a1 regs) (a2 regs) (a3 regs) r o)
  of_taken None is = each.refused 2 NoDriver _
  of_taken (Some taker) is = each.commands taker is

  of_exit : P 6 (exit r (a0 regs) (a1 regs))
  unfolding exit
  of_exit =
      by_test (P 6) (a0 regs == 0) _ _ (each.ends (a1 regs))
      (by_test (P 6) (a0 regs == 1) _ _ each.again (each.refused 6 NoOperation (Failure (error_of NoOperation))))

  -- a call of a class that its object permits, or does not
  made_by : (strict : Bool) (n : ℕ) (here : CallForm) → P n (by_form around r here) → class regs ≡ n
      → (form : CallForm) → Some here ≡ Some form → P (class regs) (served strict around r form)
  unfolding served
  made_by strict n here holds is form e =
      let same : here ≡ form = cc in
      subst (λ (f : CallForm). P (class regs) (served strict around r f)) same
      (subst (λ (k : ℕ). P k (served strict around r here)) (sym is)
      (by_test (P n) (object_permits strict r.object here) _ _ holds (each.refused n Permission _)))

  pub of_class : (strict : Bool) (form : CallForm) → call_of regs ≡ Some form
      → P (class regs) (served strict around r form)
  unfolding by_form
  of_class strict =
      of_registers (λ (o : Option CallForm). (form : CallForm) → o ≡ Some form
      → P (class regs) (served strict around r form)) regs
      (made_by strict 0 (yield_in regs) each.yields)
      (λ kind is. made_by strict (class_of kind) (forms.Swap (swap_in kind regs)) (of_swap kind is _ refl) is)
      (made_by strict 2 (command_in regs) (of_taken _ refl))
      (made_by strict 5 (memop_in regs)
      (memop_gives (P 5) r _ _ (λ rule. each.refused 5 rule _) each.replies each.moves))
      (made_by strict 6 (exit_in regs) of_exit) (λ form e. absurd (cc))

-- what holds of each thing that a turn may come to, by what its process waited for
pub record OfEachWait (settings : Settings) (time : ℕ) (r : Record) (P : Option Wait → Turned → Type 0) : Type 0 where
  pub idles : P None (idle r)
  pub went : (t : UserTurn)
      → P None (record (idle (with_effect (turn_counted r) t)) { told = record untraced { accesses = t.accesses } })
  pub faults : (t : UserTurn) (denial : Denial) → P None (faulted settings (with_effect (turn_counted r) t) denial)
  pub makes : (t : UserTurn) (form : CallForm) → t ≡ instruction r → t.end ≡ ends.Call → r.process.state ≡ Running
      → call_of t.regs ≡ Some form → let s = with_effect (turn_counted r) t in
      P None (called s t.accesses form (served settings.strict (surroundings settings time s) s form))
  pub empty : slice_get r.own.inbox.pending 0 ≡ None → r.process.state ≡ Yielded → P (Some No) (idle r)
  pub first : (u : Scheduled) → slice_get r.own.inbox.pending 0 ≡ Some u → r.process.state ≡ Yielded
      → P (Some No) (idle (deliver (turn_counted r) (Function u) (left_by (Function u))))
  pub rests : (driver number : ℕ) → P (Some (For driver number)) (idle r)
  pub given : (args : List ℕ)
      → P (Some (Given args)) (idle (deliver (turn_counted r) (Arguments args) (left_by (Arguments args))))

module _ (settings : Settings) (time : ℕ) (r : Record) (P : Option Wait → Turned → Type 0)
    (each : OfEachWait settings time r P) where
  of_calls : (t : UserTurn) → t ≡ instruction r → t.end ≡ ends.Call → r.process.state ≡ Running
      → (call : Option CallForm) → call_of t.regs ≡ call
      → P None (calls settings time (with_effect (turn_counted r) t) t.accesses call)
  of_calls t is calls runs None none = each.faults t _
  of_calls t is calls runs (Some form) some = each.makes t form is calls runs some

  of_end : (t : UserTurn) → t ≡ instruction r → r.process.state ≡ Running → (end : TurnEnd) → t.end ≡ end
      → P None (at_turn_end settings time (with_effect (turn_counted r) t) t.accesses end)
  of_end t is runs ends.Went same = each.went t
  of_end t is runs ends.Call same = of_calls t is same runs (call_of t.regs) refl
  of_end t is runs (ends.Trap denial) same = each.faults t denial

  of_first : r.process.state ≡ Yielded → (o : Option Scheduled) → slice_get r.own.inbox.pending 0 ≡ o
      → P (Some No) (delivery r (option_map Function o))
  of_first yielded None is = each.empty is yielded
  of_first yielded (Some u) is = each.first u is yielded

  of_due : r.process.state ≡ Yielded → (wait : Wait) → P (Some wait) (delivery r (due_by wait r.own.inbox.pending))
  of_due yielded No = of_first yielded _ refl
  of_due yielded (For driver number) = each.rests driver number
  of_due yielded (Given args) = each.given args

  in_state : (state : State) → r.process.state ≡ state
      → P (wait_in state r.own.inbox.wait) (turn_in settings time state r)
  in_state Running is = of_end (instruction r) refl is (instruction r).end refl
  in_state Yielded is = of_due is r.own.inbox.wait
  in_state _ is = each.idles

  pub of_state : P (wait_of r) (turn_in settings time r.process.state r)
  of_state = in_state r.process.state refl
