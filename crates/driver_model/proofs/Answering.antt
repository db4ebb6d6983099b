-- Who waits after an answer: its request is gone where it completed, or another one is put in its place, and no other
-- queue notices. What is asked for is read of the grants (`asked`), so each answer is one of a few forms: a request
-- put, none put, nothing changed (`moves_one`); an upcall that it schedules changes no request.
use Rattle.std.proofs.Common.{◌≤◌, ◌&&◌, IfSome, ◌≡◌, ℕ, ◌+◌, ◌-◌, ◌==◌, nat_le, Bool, true, false, cond, List, []}
use Rattle.std.proofs.Common.{◌∷◌, length, Option}
use Rattle.std.proofs.Common.{None, Some, is_some, is_none, refl, ap, sym, ◌∙◌, subst}
use Rattle.std.proofs.Math.Bool.{and-false}
use Rattle.grant_model.specs.Grants.{Grant, grant_of}
use Rattle.tk_base.specs.declared.kinds.PairKind.TheVariants.{ReadWrite}
use Rattle.grant_values.specs.declared.random.RandomRequest.{RandomRequest}
use Rattle.grant_values.specs.declared.storage.StorageKind.TheVariants.{Read, Write}
use Rattle.grant_values.specs.declared.storage.StorageRequest.{StorageRequest}
use Rattle.process_model.specs.Own.{Own}
use Rattle.driver_model.specs.Parts.{bytes_moving, fired_if}
use Rattle.driver_model.specs.Commands.{is_same, QueueName, Writes, Reads, Randoms, Stores}
use Rattle.driver_model.specs.Requests.{RequestAnswered, RequestKind, keeping_request, request_in}
use Rattle.driver_model.specs.Requests.{waiting_in, with_request}
use Rattle.driver_model.specs.Steps.{DriverStep, own_after, scheduling}
use Rattle.tk_base.specs.Bits.{bit_of}
use Rattle.process_model.specs.Served.{with_written}
use Rattle.process_model.proofs.Scheduling.{keeping_commutes}
use Rattle.grant_values.specs.Values.{AlarmValue}
use Rattle.driver_model.specs.Buttons as buttons
use Rattle.driver_model.specs.Console as console
use Rattle.driver_model.specs.Console.{console_reads, console_writes}
use Rattle.driver_model.specs.Random as random
use Rattle.driver_model.specs.Random.{randoms, Progress}
use Rattle.driver_model.specs.Storage as storage
use Rattle.driver_model.specs.Storage.{storages}
use Rattle.driver_model.specs.Alarm as alarm
use Rattle.driver_model.specs.Alarm.{with_alarm}
use Rattle.driver_model.specs.Laws.{IsAtMostOneMore}
use Rattle.driver_model.specs.Lines.{IsWithin, RequestOf, kind_in}
use Rattle.driver_model.specs.Answers.{FollowsAnswer, LinesFollowAnswers, Remains, queue_left_by}
use Rattle.driver_model.proofs.Requesting.{requesting_commutes}
use Rattle.driver_model.proofs.Scheduled.{Serves, as_before, none_more, serves, serves_silently}
use Rattle.driver_model.proofs.Sizes.{showing_size, written_size}
use Rattle.driver_model.proofs.Asked.{asked, asked_beside, asked_put, if_none, if_told}
use Rattle.driver_model.proofs.Waits.{Moves, each_waits, moves_one, same_here, within_still}
use Rattle.driver_model.proofs.Follows.{kept_apart}
use Rattle.driver_model.proofs.Outcomes.{alarm_apart}
use Rattle.std.proofs.lemmas.Bool.{cond_both, cases_Bool}
use Rattle.std.proofs.lemmas.Option.{none-some}
use Rattle.std.proofs.Common.{inl, inr}
use Rattle.driver_model.proofs.Tables.{cases_Option}

-- by what is asked for after the answer
follows : (left : QueueName → Bool) (own o : Own) → Remains own o
    → IsAtMostOneMore own.inbox.dropped o.inbox.dropped → Moves (λ queue waits. cond (left queue) false waits) own o
    → ((size : ℕ) → IsWithin size own → IsWithin size o) → FollowsAnswer left own o
follows left own o rest dropped moves within = record {
  rest = rest;
  dropped = dropped;
  lines = each_waits (λ queue waits. cond (left queue) false waits) own o (ap (λ (x : Own). x.lives) rest)
      (λ queue ended. cond_both (left queue) false false (λ b. b ≡ false) (λ e. refl) (λ e. refl)) moves;
  within = within;
}

-- a process whose grants changed, once it was served
remains : (own o : Own) (grants : List Grant) → Serves own o → Remains own (record o { grants = grants })
remains own o grants served = subst (λ (x : Own). Remains own (record x { grants = grants })) (sym served.rest) refl

-- the same is asked for, and no queue is left
stays : (left : QueueName → Bool) (own o : Own) → ((queue : QueueName) → left queue ≡ false)
    → ((queue : QueueName) → asked queue o.grants ≡ asked queue own.grants)
    → Moves (λ queue waits. cond (left queue) false waits) own o
stays left own o none same queue =
    ap is_some (same queue)
    ∙ ap (λ (b : Bool). cond b false (is_some (request_in (kind_in queue) own))) (sym (none queue))

-- nothing changed
unmoved : (left : QueueName → Bool) (own : Own) → ((queue : QueueName) → left queue ≡ false)
    → FollowsAnswer left own own
unmoved left own none =
    follows left own own refl (none_more own.inbox.dropped) (stays left own own none (λ queue. refl))
    (λ size held. held)

never_left : (here queue : QueueName) → queue_left_by here false queue ≡ false
never_left here queue = and-false (is_same here queue)

-- where one waited, one waits after it where one is put
replaced : {R : Type 0} (waiting : R) (before request : Option R) → before ≡ Some waiting
    → is_some request ≡ cond (is_none request) false (is_some before)
replaced waiting before None told = refl
replaced waiting before (Some request) told = sym (ap is_some told)

module _ (own o : Own) (served : Serves own o) where
  same : o.grants ≡ own.grants
  same = ap (λ (x : Own). x.grants) served.rest

  -- the request in a queue is another, or there is none any more
  put : (here : QueueName) (waiting : RequestOf here) (request : Option (RequestOf here))
      → request_in (kind_in here) own ≡ Some waiting
      → ((size : ℕ) → IsWithin size own → IsWithin size (with_request (kind_in here) request o))
      → FollowsAnswer (queue_left_by here (is_none request)) own (with_request (kind_in here) request o)
  put here waiting request is within =
      follows _ own _ (remains own o _ served) served.dropped
      (moves_one here (λ queue waits. cond (queue_left_by here (is_none request) queue) false waits) own
      (with_request (kind_in here) request o)
      (λ queue apart. asked_beside here queue apart request o ∙ ap (asked queue) same)
      (λ queue apart waits. sym (ap (λ (b : Bool). cond (b && is_none request) false waits) apart))
      (ap is_some put_there ∙ replaced waiting (request_in (kind_in here) own) request is
      ∙ sym (ap (λ (b : Bool). cond (b && is_none request) false (is_some (request_in (kind_in here) own)))
      (same_here here)))) within
    where
      put_there : asked here (with_request (kind_in here) request o).grants ≡ request
      put_there = asked_put here request o
          ∙ if_told (kind_in here) waiting request (grant_of (kind_in here).driver o.grants)
          (ap (asked here) same ∙ is)

  -- and that for storage stays
  put_beside : (here : QueueName) (waiting : RequestOf here) (request : Option (RequestOf here))
      → is_same here Stores ≡ false → request_in (kind_in here) own ≡ Some waiting
      → FollowsAnswer (queue_left_by here (is_none request)) own (with_request (kind_in here) request o)
  put_beside here waiting request apart is =
      put here waiting request is
      (λ size. within_still size own (with_request (kind_in here) request o)
      (asked_beside here Stores apart request o ∙ ap (asked Stores) same))

  ends_stores : (waiting : StorageRequest) → request_in storages own ≡ Some waiting
      → FollowsAnswer (queue_left_by Stores true) own (with_request storages None o)
  ends_stores waiting is =
      put Stores waiting None is
      (λ size held. subst (λ (q : Option StorageRequest). IfSome q (λ r. r.offset + r.length ≤ size))
      (sym (asked_put Stores None o ∙ if_none (grant_of storages.driver o.grants))) tt)

  stops_alarm : FollowsAnswer (λ queue. false) own (with_alarm None o)
  stops_alarm =
      let still = λ (queue : QueueName). kept_apart alarm.alarm_driver _ alarm_apart queue o ∙ ap (asked queue) same in
      follows _ own _ (remains own o _ served) served.dropped
      (stays (λ queue. false) own (with_alarm None o) (λ queue. refl) still)
      (λ size. within_still size own (with_alarm None o) (still Stores))

  -- nothing else is kept
  told_alone : FollowsAnswer (λ queue. false) own o
  told_alone =
      follows _ own o (remains own o o.grants served) served.dropped
      (stays (λ queue. false) own o (λ queue. refl) (λ queue. ap (asked queue) same))
      (λ size. within_still size own o (ap (asked Stores) same))

-- a request that is kept before an upcall is scheduled, and after
then_told : {R : Type 0} (left : QueueName → Bool) (request_kind : RequestKind R) (request : Option R)
    (step : DriverStep) (own : Own) → FollowsAnswer left own (with_request request_kind request (own_after step))
    → FollowsAnswer left own (own_after (keeping_request request_kind request step))
then_told left request_kind request step own =
    subst (FollowsAnswer left own) (requesting_commutes request_kind request step.schedules step.own)

-- one that waits keeps the request
asks : {R : Type 0} (request_kind : RequestKind R) (own : Own) (request : R)
    → waiting_in request_kind own ≡ Some request → request_in request_kind own ≡ Some request
asks request_kind own request is =
    elim (cases_Bool own.lives) [ inl e ↦ rw e at is | inr e ↦ absurd (none-some request (rw e at is)) ]

-- a step of a write
abbrev Sends : Own → RequestAnswered (List ℕ) → Type 0
Sends own s = FollowsAnswer (queue_left_by Writes s.completed) own (own_after s.step)

sends : (flash : ℕ → ℕ) (own : Own) → Sends own (console.sent flash own)
unfolding console.sent
sends flash own =
    elim (cases_Option (waiting_in console_writes own)) [
      | inl none ↦ rw none (unmoved _ own (never_left Writes))
      | inr is ↦
          let write = is.0 in
          let waits = asks console_writes own write is.1 in
          rw is.1 (cond_both (console.portion write own == 0) _ _ (Sends own)
          (λ e. then_told _ console_writes None (scheduling console.console 1 (write.taken ∷ 0 ∷ 0 ∷ []) own) own
          (put_beside own _ (serves _ _ _ own.ram own (as_before own)) Writes write None refl waits))
          (λ e. put_beside own _ (serves_silently own.ram own (as_before own)) Writes write
          (Some (record write { taken = write.taken + console.portion write own })) refl waits))
    ]

receives : (ring : List ℕ) (own : Own) → let r = console.received ring own in
    FollowsAnswer (queue_left_by Reads r.completed) own (own_after r.step)
unfolding console.received
receives ring own =
    elim (cases_Option (waiting_in console_reads own)) [
      | inl none ↦ rw none (unmoved _ own (never_left Reads))
      | inr is ↦
          let bytes = bytes_moving ring is.0 own in
          rw is.1 (then_told _ console_reads None
          (scheduling console.console 2 (console.read_status own ∷ length bytes ∷ 0 ∷ [])
          (with_written ReadWrite console.console 1 0 bytes own)) own
          (put_beside own _ (serves _ _ _ _ own (written_size ReadWrite refl console.console 1 0 bytes own)) Reads
          is.0 None refl (asks console_reads own is.0 is.1)))
    ]

-- a step of a request for random bytes
serves_if : (own : Own) (b : Bool) (p q : Progress) → Serves own (own_after p.step) → Serves own (own_after q.step)
    → Serves own (own_after (cond b p q).step)
serves_if own b p q first second =
    cond_both b p q (λ (x : Progress). Serves own (own_after x.step)) (λ e. first) (λ e. second)

serves_drawing : (left : ℕ) (request : RandomRequest) (own : Own) (word : Option ℕ)
    → Serves own (own_after (random.drawing left request own word).step)
serves_drawing left request own None = serves _ _ _ own.ram own (as_before own)
serves_drawing left request own (Some word) =
    serves_if own (nat_le left 4) _ _ (serves _ _ _ _ own
    (written_size ReadWrite refl random.random 0 request.written _ own))
    (serves_silently _ own (written_size ReadWrite refl random.random 0 request.written _ own))

pub serves_progress : (word : Option ℕ) (request : RandomRequest) (own : Own)
    → Serves own (own_after (random.progress word request own).step)
serves_progress word request own =
    serves_if own (nat_le (random.wanted request own) request.written) _ _ (serves _ _ _ own.ram own (as_before own))
    (serves_drawing (random.wanted request own - request.written) request own word)

draws : (word : Option ℕ) (own : Own) → let a = random.answered word own in
    FollowsAnswer (queue_left_by Randoms a.completed) own (own_after a.step)
unfolding random.answered
draws word own =
    elim (cases_Option (waiting_in randoms own)) [
      | inl none ↦ rw none (unmoved _ own (never_left Randoms))
      | inr is ↦
          let p = random.progress word is.0 own in
          rw is.1 (then_told _ randoms p.rest p.step own
          (put_beside own _ (serves_progress word is.0 own) Randoms is.0 p.rest refl (asks randoms own is.0 is.1)))
    ]

-- a storage request that is served
pub serves_served : (fault : Bool) (flash : ℕ → ℕ) (bytes : List ℕ) (request : StorageRequest) (own : Own)
    → Serves own (own_after (storage.storage_served fault flash bytes request own).step)
serves_served true flash bytes request own = serves _ _ _ own.ram own (as_before own)
serves_served false flash bytes request own =
    elim (request.kind) as (λ kind. Serves own (own_after (storage.moving kind flash bytes request own).step)) [
      | Read ↦ serves _ _ _ _ own (written_size ReadWrite refl storage.storage 0 0 _ own)
      | Write ↦ serves _ _ _ own.ram own (as_before own)
    ]

stores : (fault : Bool) (flash : ℕ → ℕ) (bytes : List ℕ) (own : Own)
    → let a = storage.answered fault flash bytes own in FollowsAnswer (queue_left_by Stores a.completed) own
    (own_after a.step)
unfolding storage.answered
stores fault flash bytes own =
    elim (cases_Option (waiting_in storages own)) [
      | inl none ↦ rw none (unmoved _ own (never_left Stores))
      | inr is ↦
          rw is.1 (then_told _ storages None (storage.storage_served fault flash bytes is.0 own).step own
          (ends_stores own _ (serves_served fault flash bytes is.0 own) is.0 (asks storages own is.0 is.1)))
    ]

fires : (now : ℕ) (own : Own) → FollowsAnswer (λ line. false) own (own_after (alarm.answered now own))
unfolding alarm.answered
fires now own =
    elim (alarm.due_alarm now own) as (λ due. FollowsAnswer (λ line. false) own (own_after (fired_if now own due))) [
      | None ↦ unmoved _ own (λ line. refl)
      | Some armed ↦
          subst (FollowsAnswer (λ line. false) own)
          (keeping_commutes alarm.alarm_driver (AlarmValue None)
          (alarm.fired now armed own).schedules (alarm.showing now own))
          (stops_alarm own _ (serves _ _ _ _ own (showing_size now own)))
    ]

edges : (button : ℕ) (state : Bool) (own : Own) → FollowsAnswer (λ line. false) own
    (own_after (buttons.edged button state own))
unfolding buttons.edged
edges button state own =
    cond_both (buttons.is_told button own) _ _
    (λ (s : DriverStep). FollowsAnswer (λ line. false) own (own_after s))
    (λ e. told_alone own _ (serves buttons.buttons 0 (button ∷ bit_of state ∷ 0 ∷ []) own.ram own (as_before own)))
    (λ e. unmoved _ own (λ line. refl))

pub lines_follow_answers : LinesFollowAnswers
lines_follow_answers = record {
  writes = sends;
  reads = receives;
  randoms = draws;
  stores = stores;
  alarms = fires;
  edges = edges;
}
