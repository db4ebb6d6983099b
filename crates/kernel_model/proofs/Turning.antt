-- What the turn of a process may come to, by its state and by the end of its instruction: nothing, an instruction that
-- goes, a denial, a call or a delivery (`of_each_end`). Its instruction is a variable that is equal to it, so that what
-- it leaves computes. And what a denial leaves, as the policy decides (`of_denial`).
use Rattle.std.proofs.Common.{◌≡◌, ℕ, false, not, Option, None, Some, refl}
use Rattle.tk_base.specs.declared.access.Denial.{Denial}
use Rattle.fault_policy.specs.declared.Action.TheVariants.{Stop, Restart}
use Rattle.fault_policy.specs.Policy.{decision}
use Rattle.rv32_model.specs.declared.turn_end.TurnEnd.{TurnEnd}
use Rattle.rv32_model.specs.declared.turn_end.TurnEnd.TheVariants as ends
use Rattle.rv32_model.specs.UserTurn.{UserTurn}
use Rattle.syscall_abi.specs.declared.form.CallForm.{CallForm}
use Rattle.syscall_abi.specs.Call.{call_of}
use Rattle.upcall_queue.specs.declared.inbox.Delivery.{Delivery}
use Rattle.upcall_queue.specs.Pending.{due, left_by}
use Rattle.process_model.specs.Instruction.{ram_after}
use Rattle.process_model.specs.Own.{own_ended}
use Rattle.process_record.specs.declared.process.State.{State}
use Rattle.process_record.specs.declared.process.State.TheVariants.{Running, Yielded}
use Rattle.process_record.specs.Parts.{after_fault}
use Rattle.kernel_model.specs.Record.{Record, instruction, with_effect}
use Rattle.kernel_model.specs.declared.settings.Settings.{Settings}
use Rattle.kernel_model.specs.Calls.{deliver, restart, served}
use Rattle.kernel_model.specs.Parts.{calls, with_process}
use Rattle.kernel_model.specs.Turn.{Turned, at_turn_end, called, faulted, idle, settled, surroundings, turn_counted}
use Rattle.kernel_model.specs.Turn.{has_turn, may_turn, turn_in, turned, untraced}
use Rattle.std.proofs.Math.Bool.{and-false}
use Rattle.std.proofs.Common.{inl, inr}
use Rattle.std.proofs.lemmas.Bool.{cond_both}
use Rattle.kernel_model.proofs.Places.{cases_Option}

-- what holds of a process that ends with a denial, and of one that starts again, holds of one after a denial
pub of_denial : (P : Record → Type 0) (settings : Settings) (r : Record) (denial : Denial)
    → let s = with_process r (after_fault r.process denial) in
    P (record s { own = own_ended r.own }) → P (restart s) → P (faulted settings r denial).after
of_denial P settings r denial stops again =
    elim (decision settings.policy r.process.restarts)
    as (λ action. P (settled (with_process r (after_fault r.process denial)) action)) [ Stop ↦ stops | Restart ↦ again ]

-- what holds of each that a turn may come to
pub record OfEachEnd (settings : Settings) (time : ℕ) (r : Record) (P : Turned → Type 0) : Type 0 where
  pub nothing : may_turn r ≡ false → P (idle r)
  pub went : (t : UserTurn) → t ≡ instruction r
      → P (record (idle (with_effect (turn_counted r) t)) { told = record untraced { accesses = t.accesses } })
  pub faults : (t : UserTurn) (denial : Denial) → t ≡ instruction r → r.process.state ≡ Running
      → P (faulted settings (with_effect (turn_counted r) t) denial)
  pub makes : (t : UserTurn) (form : CallForm) → t ≡ instruction r → t.end ≡ ends.Call → r.process.state ≡ Running
      → call_of t.regs ≡ Some form
      → let s = with_effect (turn_counted r) t in
      P (called s t.accesses form (served settings.strict (surroundings settings time s) s form))
  pub delivers : (next : Delivery) → due r.own.inbox ≡ Some next → r.process.state ≡ Yielded
      → P (idle (deliver (turn_counted r) next (left_by next)))

module _ (settings : Settings) (time : ℕ) (r : Record) (P : Turned → Type 0) (each : OfEachEnd settings time r P) where
  of_calls : (t : UserTurn) → t ≡ instruction r → t.end ≡ ends.Call → r.process.state ≡ Running
      → (call : Option CallForm) → call_of t.regs ≡ call
      → P (calls settings time (with_effect (turn_counted r) t) t.accesses call)
  of_calls t is calls runs None none = each.faults t _ is runs
  of_calls t is calls runs (Some form) some = each.makes t form is calls runs some

  of_end : (t : UserTurn) → t ≡ instruction r → r.process.state ≡ Running → (end : TurnEnd) → t.end ≡ end
      → P (at_turn_end settings time (with_effect (turn_counted r) t) t.accesses end)
  of_end t is runs ends.Went same = each.went t is
  of_end t is runs ends.Call same = of_calls t is same runs (call_of t.regs) refl
  of_end t is runs (ends.Trap denial) same = each.faults t denial is runs

  idle_so : (state : State) (next : Option Delivery) → r.process.state ≡ state → due r.own.inbox ≡ next
      → has_turn state next ≡ false → P (idle r)
  idle_so state next is due_is none = each.nothing (rw (is, due_is, none) (and-false (not r.process.held)))

  of_state : (state : State) → r.process.state ≡ state → P (turn_in settings time state r)
  of_state Running is = of_end (instruction r) refl is (instruction r).end refl
  of_state Yielded is =
      elim (cases_Option (due r.own.inbox)) [
        | inl none ↦ rw none (idle_so Yielded None is none refl)
        | inr next ↦ rw next.1 (each.delivers next.0 next.1 is)
      ]
  of_state state is = idle_so state (due r.own.inbox) is refl refl

  pub of_each_end : P (turned settings time r)
  unfolding turned
  of_each_end =
      cond_both r.process.held _ _ P (λ is. each.nothing (rw is)) (λ free. of_state r.process.state refl)

-- an instruction that leaves the registers and writes nothing only counts
pub only_counts : (r : Record) (t : UserTurn) → t.regs ≡ r.process.regs → t.write ≡ None
    → with_effect (turn_counted r) t ≡ turn_counted r
unfolding ram_after
only_counts r t regs write = rw (regs, write)
