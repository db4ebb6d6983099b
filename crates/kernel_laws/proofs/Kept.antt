-- What a turn changes of a process, by the end of its instruction: what it drops, and what drivers keep. A call goes by
-- the walk `of_call`, refused or served; a denial ends a life or starts one again, and an instruction touches neither.
-- So each law is a field of one record (`Leaves`).
use Rattle.std.proofs.Common.{◌≡◌, ◌<◌, length, IfSome, ◌∙◌, ℕ, List, [], true, None, refl}
use Rattle.std.proofs.Common.{sym}
use Rattle.tk_base.specs.declared.access.Denial.{Denial}
use Rattle.tk_base.specs.declared.limits.TheConstants.{PENDING_LIMIT}
use Rattle.upcall_queue.specs.declared.inbox.Delivery.{Delivery}
use Rattle.upcall_queue.specs.declared.inbox.Delivery.TheVariants.{Function, Arguments}
use Rattle.upcall_queue.specs.declared.inbox.Inbox.{Inbox}
use Rattle.upcall_queue.specs.Pending.{left_by}
use Rattle.driver_model.specs.Commands.{BoardRequest}
use Rattle.driver_model.specs.Laws.{IsAtMostOneMore}
use Rattle.tk_base.specs.declared.process.Verb.{Verb}
use Rattle.rv32_model.specs.UserTurn.{UserTurn}
use Rattle.syscall_abi.specs.declared.form.CallForm.{CallForm}
use Rattle.process_model.specs.Own.{Own}
use Rattle.process_record.specs.Parts.{after_fault}
use Rattle.kernel_model.specs.Record.{Record, with_effect}
use Rattle.kernel_model.specs.Parts.{with_process}
use Rattle.kernel_model.specs.declared.settings.Settings.{Settings}
use Rattle.kernel_model.specs.Calls.{failure_of, refused_with, served}
use Rattle.kernel_model.specs.Turn.{Turned, called, turn_counted, faulted, idle}
use Rattle.kernel_model.specs.Turn.{operated, surroundings, turned}
use Rattle.kernel_model.specs.Laws.{CanStartAgain, DriversPromise, DropsAtMostOne, GrantsChangeAtCalls, KeepsLines}
use Rattle.kernel_model.specs.Laws.{TurnsActAtCalls, TurnsKeepLines}
use Rattle.driver_model.specs.Keeping.{KeepsLimit}
use Rattle.kernel_model.specs.Replay.{after_all}
use Rattle.kernel_model.specs.Lives.{DropsOnlyWhereFull}
use Rattle.kernel_model.proofs.Steps.{of_answer, of_operated, of_step}
use Rattle.kernel_model.proofs.Comes.{no_more, of_call, restart_keeps}
use Rattle.kernel_model.proofs.Turning.{of_denial, of_each_end}
use Rattle.kernel_model.proofs.Lines.{SameKept, all_same, keeps_ended, keeps_restarted, keeps_same}
use Rattle.kernel_model.proofs.Places.{same_some}

-- at most one upcall was dropped; and a process that lives keeps a request exactly where it waits
record Leaves (settings : Settings) (r : Record) (t : Turned) : Type 0 where
  dropped : IsAtMostOneMore r.own.inbox.dropped t.after.own.inbox.dropped
  room : length r.own.inbox.pending < PENDING_LIMIT → t.after.own.inbox.dropped ≡ r.own.inbox.dropped
  lines : r.own.lives ≡ true → CanStartAgain r → KeepsLines settings.storage r.own t.after.own t.acts

-- a turn that asks nothing of the board, of a process of which drivers keep the same
leaves_same : (settings : Settings) (r : Record) (t : Turned) → SameKept r.own t.after.own → t.acts ≡ []
    → Leaves settings r t
leaves_same settings r t same acts = record {
  dropped = rw same.dropped (no_more r.own.inbox.dropped);
  room = λ few. same.dropped;
  lines = λ lives can. rw acts (keeps_same settings.storage r.own t.after.own same);
}

next_dropped : (next : Delivery) (inbox : Inbox) → (left_by next inbox).dropped ≡ inbox.dropped
next_dropped (Function upcall) inbox = refl
next_dropped (Arguments args) inbox = refl

-- an instruction leaves nothing of what drivers keep
module _ (settings : Settings) (r : Record) (t : UserTurn) where
  abbrev ran : Record
  ran = with_effect (turn_counted r) t

  ran_same : SameKept r.own ran.own
  ran_same = record { grants = refl; lives = refl; life = refl; dropped = refl }

  same_lines : {after : Own} {acts : List BoardRequest} → KeepsLines settings.storage ran.own after acts
      → KeepsLines settings.storage r.own after acts
  same_lines k = record { lines = k.lines; once = k.once; life = k.life; within = k.within }

  leaves_call : (promise : DriversPromise) (time : ℕ) (call : CallForm)
      → Leaves settings r (called ran t.accesses call
      (served settings.strict (surroundings settings time ran) ran call))
  leaves_call promise time call =
      of_call (λ s. Leaves settings r (called ran t.accesses call s)) promise settings.strict
      (surroundings settings time ran) ran call
      (record {
        refused = λ rule. leaves_same settings r
            (called ran t.accesses call (refused_with ran rule (failure_of call rule))) ran_same refl;
        served = λ s is.
            record { dropped = is.dropped; room = is.room; lines = λ lives can. same_lines (is.lines lives can) };
      })

  leaves_fault : (denial : Denial) → Leaves settings r (faulted settings ran denial)
  leaves_fault denial =
      let s = with_process ran (after_fault ran.process denial) in
      of_denial (λ x. Leaves settings r (record (faulted settings ran denial) { after = x })) settings ran denial
      (record {
        dropped = no_more r.own.inbox.dropped;
        room = λ few. refl;
        lines = λ lives can. same_lines (keeps_ended settings.storage ran.own);
      })
      (record {
        dropped = rw (restart_keeps s) (no_more r.own.inbox.dropped);
        room = λ few. restart_keeps s;
        lines = λ lives can. same_lines (keeps_restarted settings.storage s can);
      })

leaves_turned : (promise : DriversPromise) (settings : Settings) (time : ℕ) (r : Record)
    → Leaves settings r (turned settings time r)
leaves_turned promise settings time r =
    of_each_end settings time r (Leaves settings r) (record {
      nothing = λ none. leaves_same settings r (idle r) (all_same r.own) refl;
      went = λ t is. leaves_same settings r _ (ran_same settings r t) refl;
      faults = λ t denial is runs. leaves_fault settings r t denial;
      makes = λ t form is calls runs made. leaves_call settings r t promise time form;
      delivers = λ next is yielded. leaves_same settings r _
          (record { grants = refl; lives = refl; life = refl; dropped = next_dropped next r.own.inbox }) refl;
    })

pub drops_at_most_one : DriversPromise → DropsAtMostOne
drops_at_most_one promise settings time r = (leaves_turned promise settings time r).dropped

pub drops_with_room : DriversPromise → (settings : Settings) (time : ℕ) (r : Record)
    → length r.own.inbox.pending < PENDING_LIMIT → (turned settings time r).after.own.inbox.dropped
    ≡ r.own.inbox.dropped
drops_with_room promise settings time r = (leaves_turned promise settings time r).room

-- an operator's act drops nothing
act_dropped : (r : Record) (verb : Verb) → (operated verb r).own.inbox.dropped ≡ r.own.inbox.dropped
act_dropped r verb =
    of_operated (λ ended s. s.own.inbox.dropped ≡ r.own.inbox.dropped) r refl (λ held. refl) (λ lives. refl)
    (restart_keeps r) verb

pub drops_only_where_full : DriversPromise → DropsOnlyWhereFull
drops_only_where_full promise w choices choice slot before now is later few =
    let v = after_all w choices in
    rw later at (of_step v slot (λ ended tolds o. IfSome o (λ x. x.own.inbox.dropped ≡ before.own.inbox.dropped))
    (record {
      stays = rw is refl;
      turn = λ r at free.
          rw (← same_some before r (sym is ∙ at)) (drops_with_room promise v.settings v.clock.time before few);
      answer = λ r at event answers.
          rw (← same_some before r (sym is ∙ at))
          ((of_answer KeepsLimit promise.limit v.settings event before answers).room few);
      act = λ r at verb. rw (← same_some r before (sym at ∙ is)) (act_dropped r verb);
    })
    choice)

pub turns_keep_lines : DriversPromise → TurnsKeepLines
turns_keep_lines promise settings time r = (leaves_turned promise settings time r).lines

-- a turn that tells of no call and no denial
abbrev IsQuiet : Record → Turned → Type 0
IsQuiet r t =
    t.told.call ≡ None → t.told.denial ≡ None →
    (t.after.own.grants ≡ r.own.grants) × (t.after.own.lives ≡ r.own.lives) × (t.acts ≡ [])

quiet_turned : (settings : Settings) (time : ℕ) (r : Record) → IsQuiet r (turned settings time r)
quiet_turned settings time r =
    of_each_end settings time r (IsQuiet r) (record {
      nothing = λ none call denial. (refl, refl, refl);
      went = λ t is call denial. (refl, refl, refl);
      faults = λ t denial is runs call none. absurd (cc);
      makes = λ t form is calls runs made none denial. absurd (cc);
      delivers = λ next is yielded call denial. (refl, refl, refl);
    })

pub grants_change_at_calls : GrantsChangeAtCalls
grants_change_at_calls settings time r call denial =
    let quiet = quiet_turned settings time r call denial in (quiet.0, quiet.1)

pub turns_act_at_calls : TurnsActAtCalls
turns_act_at_calls settings time r call denial = (quiet_turned settings time r call denial).2
