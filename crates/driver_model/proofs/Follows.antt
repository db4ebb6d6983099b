-- Who waits after a command.
use Rattle.std.proofs.Common.{◌≡◌, ℕ, Bool, true, false, cond, [], ◌∷◌, Option, None, Some, is_some, Ok}
use Rattle.std.proofs.Common.{refl, ap, sym, subst, ◌∙◌, ◌+◌, ◌≤◌, IfSome}
use Rattle.std.proofs.lemmas.Bool.{false≢true}
use Rattle.tk_base.specs.Call.{code_of}
use Rattle.tk_base.specs.declared.call.ErrorCode.TheVariants.{CANCEL}
use Rattle.grant_model.specs.Grants.{grant_of, with_value}
use Rattle.grant_values.specs.Values.{KeptValue}
use Rattle.syscall_abi.specs.declared.reply.Reply.TheVariants.{Success}
use Rattle.process_model.specs.Own.{Own}
use Rattle.process_model.specs.Handed.{own_entering}
use Rattle.process_model.specs.Served.{with_kept}
use Rattle.driver_model.specs.Steps.{own_after, silently}
use Rattle.driver_model.specs.Commands.{Commanded, Leaves, QueueName, Writes, Reads, Randoms, Stores, Waits, is_same}
use Rattle.driver_model.specs.Requests.{request_in, with_request}
use Rattle.driver_model.specs.Console.{console, console_reads, dropping_read}
use Rattle.driver_model.specs.Lines.{FollowsCommand, IsWithin, LinesFollowCommands, RequestOf, has_waiting, kind_in}
use Rattle.driver_model.specs.Lines.{waits_after, waits_once}
use Rattle.driver_model.specs.Drivers.{CommandContext}
use Rattle.driver_model.proofs.Scheduled.{schedules}
use Rattle.driver_model.proofs.Asked.{asked, asked_apart, asked_beside, asked_put, asked_still, entered_beside}
use Rattle.driver_model.proofs.Asked.{entered_put, if_none}
use Rattle.driver_model.proofs.Waits.{Moves, each_waits, moves_one, same_here, same_queue, within_still}
use Rattle.driver_model.proofs.Outcomes.{IsApart, of_command}
use Rattle.std.proofs.lemmas.Bool.{cases_Bool}
use Rattle.std.proofs.Common.{inl, inr}

-- by what is asked for after the command
follows : (around : CommandContext) (own : Own) (c : Commanded) → (own_after c.step).lives ≡ own.lives
    → Moves (λ queue waits. waits_after queue waits c.acts) own (own_after c.step)
    → (IsWithin around.storage own → IsWithin around.storage (own_after c.step))
    → ((queue : QueueName) → waits_once queue (has_waiting queue own) c.acts ≡ true) → FollowsCommand around own c
follows around own c lives moves within once = record {
  lines = λ (l : own.lives ≡ true). each_waits (λ queue waits. waits_after queue waits c.acts) own (own_after c.step)
      lives (λ queue ended. absurd (false≢true (sym ended ∙ l))) moves;
  once = once;
  within = within;
}

-- a value is kept for another driver than those of the queues
pub kept_apart : (driver : ℕ) (value : KeptValue) → IsApart driver → (queue : QueueName) (own : Own)
    → asked queue (with_kept driver value own).grants ≡ asked queue own.grants
kept_apart driver value apart queue own =
    asked_apart queue driver (with_value value) own.grants (apart queue) (λ g. refl)

-- where no request is kept, it begins to wait once
begins_once : (here queue : QueueName) (own : Own) → request_in (kind_in here) own ≡ None
    → waits_once queue (has_waiting queue own) (Waits here ∷ []) ≡ true
begins_once here queue own none =
    elim (cases_Bool (is_same here queue)) [
      | inl e ↦
          rw (e, ← same_queue here queue e, none)
          (elim (cases_Bool own.lives) [ inl lives ↦ rw lives | inr ended ↦ rw ended ])
      | inr e ↦ rw e
    ]

-- a request begins to wait
begins : (around : CommandContext) (here : QueueName) (request : RequestOf here) (own : Own)
    → request_in (kind_in here) own ≡ None
    → (let o = with_request (kind_in here) (Some request) (own_entering (kind_in here).driver own) in
    IsWithin around.storage own → IsWithin around.storage o)
    → FollowsCommand around own (record {
      answer = Ok Success;
      step = silently (with_request (kind_in here) (Some request) (own_entering (kind_in here).driver own));
      acts = Waits here ∷ [];
    })
begins around here request own none within =
    follows around own _ refl
    (moves_one here (λ queue waits. cond (is_same here queue) true waits) own
    (with_request (kind_in here) (Some request) (own_entering (kind_in here).driver own))
    (λ queue apart. entered_beside here queue apart (Some request) own)
    (λ queue apart waits. sym (ap (λ (b : Bool). cond b true waits) apart))
    (ap is_some (entered_put here (Some request) own)
    ∙ sym (ap (λ (b : Bool). cond b true (is_some (request_in (kind_in here) own))) (same_here here))))
    within (λ queue. begins_once here queue own none)

-- and where it is none for storage, that one stays
begins_beside : (around : CommandContext) (here : QueueName) (request : RequestOf here) (own : Own)
    → is_same here Stores ≡ false → request_in (kind_in here) own ≡ None
    → FollowsCommand around own (record {
      answer = Ok Success;
      step = silently (with_request (kind_in here) (Some request) (own_entering (kind_in here).driver own));
      acts = Waits here ∷ [];
    })
begins_beside around here request own apart none =
    begins around here request own none
    (within_still around.storage own
    (with_request (kind_in here) (Some request) (own_entering (kind_in here).driver own))
    (entered_beside here Stores apart (Some request) own))

cancels : (around : CommandContext) (own : Own)
    → FollowsCommand around own (record { answer = Ok Success; step = dropping_read own; acts = Leaves Reads ∷ [] })
cancels around own =
    let without = with_request console_reads None own in
    let after = own_after (dropping_read own) in
    let q = schedules console 2 (code_of CANCEL ∷ 0 ∷ 0 ∷ []) without in
    let lives : after.lives ≡ own.lives = ap (λ (o : Own). o.lives) q.rest in
    let same : after.grants ≡ without.grants = ap (λ (o : Own). o.grants) q.rest in
    follows around own _ lives
    (moves_one Reads (λ queue waits. cond (is_same Reads queue) false waits) own after
    (λ queue apart. ap (asked queue) same ∙ asked_beside Reads queue apart None own)
    (λ queue apart waits. sym (ap (λ (b : Bool). cond b false waits) apart))
    (ap is_some (ap (asked Reads) same ∙ asked_put Reads None own ∙ if_none (grant_of console own.grants))))
    (within_still around.storage own after (ap (asked Stores) same ∙ asked_beside Reads Stores refl None own))
    (λ queue. refl)

pub lines_follow_commands : LinesFollowCommands
lines_follow_commands driver taker is around number a2 a3 own =
    of_command FollowsCommand driver taker is around number a2 a3 own (record {
      refuses = λ rule. follows around own _ refl (λ queue. refl) (λ held. held) (λ queue. refl);
      replies = λ reply. follows around own _ refl (λ queue. refl) (λ held. held) (λ queue. refl);
      lights = λ led switch. follows around own _ refl (λ queue. refl) (λ held. held) (λ queue. refl);
      shows = λ is. follows around own _ refl (λ queue. refl) (λ held. held) (λ queue. refl);
      keeps = λ d value reply apart.
          let same = λ (queue : QueueName). kept_apart d value apart queue own in
          follows around own _ refl (λ queue. ap is_some (same queue))
          (within_still around.storage own (with_kept d value own) (same Stores)) (λ queue. refl);
      enters = λ d value reply apart room.
          let same = λ (queue : QueueName). kept_apart d value apart queue (own_entering d own)
          ∙ asked_still queue d own.grants in
          follows around own _ refl (λ queue. ap is_some (same queue))
          (within_still around.storage own (with_kept d value (own_entering d own)) (same Stores)) (λ queue. refl);
      cancels = λ is. cancels around own;
      writes = λ request room none. begins_beside around Writes request own refl none;
      reads = λ request room none. begins_beside around Reads request own refl none;
      draws = λ request room none. begins_beside around Randoms request own refl none;
      stores = λ request fits room none. begins around Stores request own none
          (λ held. subst (λ (q : Option (RequestOf Stores)). IfSome q (λ r. r.offset + r.length ≤ around.storage))
          (sym (entered_put Stores (Some request) own)) fits);
    })
