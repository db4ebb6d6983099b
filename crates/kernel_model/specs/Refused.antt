-- What a refused call leaves (TRD 104, "Return Values").
use Rattle.std.specs.Prelude.{◌≡◌, ℕ, ◌+◌, Some, All, option_and_then, slice_get, slice_set}
use Rattle.tk_base.specs.declared.call.CallRule.{CallRule}
use Rattle.tk_base.specs.declared.process.Choice.{Choice}
use Rattle.turn_scheduler.specs.RoundRobin.{used_after}
use Rattle.syscall_abi.specs.declared.form.CallForm.{CallForm}
use Rattle.syscall_abi.specs.Call.{call_of}
use Rattle.kernel_model.specs.Record.{Record}
use Rattle.kernel_model.specs.Calls.{failure_of, refused_with}
use Rattle.kernel_model.specs.Turn.{turn_counted}
use Rattle.kernel_model.specs.World.{World, Label, after, labels}

-- Of the process: the turn counts, the failure of the rule stands in the reply registers, pc is past the `ecall`, and
-- the refusal is recorded. Its memory, its grants, its upcalls and its storage are as they were. Of the world: beside
-- that record the time, the steps, the present slot and its used turns. So no device and no list of those that wait has
-- changed.
pub record LeavesRefused (w v : World) (slot : ℕ) (rule : CallRule) : Type 0 where
  pub before : Record
  pub is_there : slice_get w.records slot ≡ Some before
  pub call : CallForm
  pub is_made : call_of before.process.regs ≡ Some call
  pub world : v ≡ record w {
    records = slice_set w.records slot (refused_with (turn_counted before) rule (failure_of call rule)).after;
    clock = record { time = w.clock.time + 1; steps = w.clock.steps + 1 };
    present = record { slot = Some slot; used = used_after w.present.slot w.present.used w.pace.slice slot };
  }

-- this of a label that tells a call which was refused by a rule, in a step from one world to another
abbrev pub IfRefused : World → World → Label → Type 0
IfRefused w v label =
    (rule : CallRule) → option_and_then (λ made. made.rule) label.trace.call ≡ Some rule
    → LeavesRefused w v label.slot rule

-- so it is in every step of every world
abbrev pub RefusalsChangeLittle : Type 0
RefusalsChangeLittle = (w : World) (choice : Choice) → All (IfRefused w (after w choice)) (labels w choice)
