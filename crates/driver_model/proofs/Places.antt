-- Where a process lies after a command, and how many of its upcalls were dropped.
use Rattle.std.proofs.Common.{[], ◌∷◌, None, refl, sym, subst}
use Rattle.tk_base.specs.Call.{code_of}
use Rattle.tk_base.specs.declared.call.ErrorCode.TheVariants.{CANCEL}
use Rattle.process_model.specs.Own.{Own}
use Rattle.driver_model.specs.Console.{console, console_reads, dropping_read}
use Rattle.driver_model.specs.Requests.{with_request}
use Rattle.driver_model.specs.Laws.{CommandDropsAtMostOne, CommandsStayInPlace, IsAtMostOneMore, StaysInPlace}
use Rattle.driver_model.proofs.Outcomes.{of_command}
use Rattle.driver_model.specs.Steps.{own_after}
use Rattle.driver_model.proofs.Scheduled.{Queues, none_more, schedules}

-- a read that is dropped has its process told of it
cancels : (own : Own) → Queues (with_request console_reads None own) (own_after (dropping_read own))
cancels own = schedules console 2 (code_of CANCEL ∷ 0 ∷ 0 ∷ []) (with_request console_reads None own)

pub commands_stay_in_place : CommandsStayInPlace
commands_stay_in_place driver taker is around number a2 a3 own =
    of_command (λ around own c. StaysInPlace own (own_after c.step)) driver taker is around number a2 a3 own (record {
      refuses = λ rule. refl;
      replies = λ reply. refl;
      lights = λ led switch. refl;
      shows = λ is. refl;
      keeps = λ d value reply apart. refl;
      enters = λ d value reply apart room. refl;
      cancels = λ is. subst (StaysInPlace own) (sym (cancels own).rest) refl;
      writes = λ request room none. refl;
      reads = λ request room none. refl;
      draws = λ request room none. refl;
      stores = λ request fits room none. refl;
    })

pub command_drops_at_most_one : CommandDropsAtMostOne
command_drops_at_most_one driver taker around number a2 a3 own is =
    of_command (λ around own c. IsAtMostOneMore own.inbox.dropped (own_after c.step).inbox.dropped)
    driver taker is around number a2 a3 own
    (record {
      refuses = λ rule. none_more own.inbox.dropped;
      replies = λ reply. none_more own.inbox.dropped;
      lights = λ led switch. none_more own.inbox.dropped;
      shows = λ is. none_more own.inbox.dropped;
      keeps = λ d value reply apart. none_more own.inbox.dropped;
      enters = λ d value reply apart room. none_more own.inbox.dropped;
      cancels = λ is. record { not_less = (cancels own).dropped.not_less; not_more = (cancels own).dropped.not_more };
      writes = λ request room none. none_more own.inbox.dropped;
      reads = λ request room none. none_more own.inbox.dropped;
      draws = λ request room none. none_more own.inbox.dropped;
      stores = λ request fits room none. none_more own.inbox.dropped;
    })
