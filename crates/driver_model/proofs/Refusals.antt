-- A command that is refused, whatever its driver.
use Rattle.std.proofs.Common.{◌≡◌, List, Result, Ok, Err, ap}
use Rattle.tk_base.specs.declared.call.CallRule.{CallRule}
use Rattle.syscall_abi.specs.declared.reply.Reply.{Reply}
use Rattle.syscall_abi.specs.declared.reply.Reply.TheVariants.{Success}
use Rattle.process_model.specs.Own.{Own}
use Rattle.driver_model.specs.Steps.{DriverStep}
use Rattle.driver_model.specs.Commands.{BoardRequest, Commanded, refusing}
use Rattle.driver_model.specs.Laws.{RefusedByAnyDriver}
use Rattle.driver_model.proofs.Outcomes.{of_command}

-- where it is refused, it is a refusal alone
abbrev Keeps : Own → Commanded → Type 0
Keeps own c = (rule : CallRule) → c.answer ≡ Err rule → c ≡ refusing rule own

keeps_refused : (own : Own) (broken : CallRule) → Keeps own (refusing broken own)
keeps_refused own broken rule e = let same : broken ≡ rule = cc in ap (λ (r : CallRule). refusing r own) same

no_refusal : (reply : Reply) (rule : CallRule) → ◌≡◌ {A = Result Reply CallRule} (Ok reply) (Err rule) → ⊥
no_refusal reply rule e = cc

keeps_accepted : (own : Own) (step : DriverStep) (reply : Reply) (acts : List BoardRequest)
    → Keeps own (record { answer = Ok reply; step = step; acts = acts })
keeps_accepted own step reply acts rule e = absurd (no_refusal reply rule e)

pub refused_by_any_driver : RefusedByAnyDriver
refused_by_any_driver driver taker around number a2 a3 own rule is e =
    of_command (λ around own c. Keeps own c) driver taker is around number a2 a3 own
    (record {
      refuses = keeps_refused own;
      replies = λ reply. keeps_accepted own _ reply _;
      lights = λ led switch. keeps_accepted own _ Success _;
      shows = λ is. keeps_accepted own _ _ _;
      keeps = λ d value reply apart. keeps_accepted own _ reply _;
      enters = λ d value reply apart room. keeps_accepted own _ reply _;
      cancels = λ is. keeps_accepted own _ Success _;
      writes = λ request room none. keeps_accepted own _ Success _;
      reads = λ request room none. keeps_accepted own _ Success _;
      draws = λ request room none. keeps_accepted own _ Success _;
      stores = λ request fits room none. keeps_accepted own _ Success _;
    })
    rule e
