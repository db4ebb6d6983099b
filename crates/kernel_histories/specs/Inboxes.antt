-- What is scheduled for a process after each thing that happens to it, exactly (TRD 104, "Subscribe", "Command",
-- "Yield", "Exit").
use Rattle.std.specs.Prelude.{◌≡◌, ◌==◌, Bool, true, false, not, ◌&&◌, if◌then◌else◌, [], ◌∷◌, filter, slice_get}
use Rattle.std.specs.Prelude.{slice_index, Option, None, Some, is_none, option_and_then}
use Rattle.tk_base.specs.declared.upcall.Upcall.{Upcall as Scheduled}
use Rattle.tk_base.specs.declared.upcall.Wait.{Wait}
use Rattle.tk_base.specs.declared.upcall.Wait.TheVariants.{For, Given, No}
use Rattle.upcall_queue.specs.declared.inbox.Inbox.{Inbox}
use Rattle.upcall_queue.specs.Pending.{place_of}
use Rattle.process_model.specs.Own.{Own}
use Rattle.process_model.specs.Served.{upcall_of}
use Rattle.process_record.specs.declared.emit.CallMade.{CallMade}
use Rattle.process_record.specs.Operator.{ends_by}
use Rattle.driver_model.specs.Upcalls.{scheduled_if}
use Rattle.kernel_model.specs.Histories.{ends_life}
use Rattle.kernel_model.specs.Laws.{CanStartAgain}
use Rattle.kernel_model.specs.Record.{Record}
use Rattle.kernel_model.specs.Turn.{Act, Event, TurnTrace}
use Rattle.kernel_laws.specs.Between.{OfEachAnswer, OfEachTurn}
use Rattle.kernel_laws.specs.Scheduled.{upcall_told}
use Rattle.kernel_histories.specs.Deliveries.{FirstOf, Takes, place_taken, removed, takes, takes_away, wait_of}

-- What a process waits for after a turn that takes so: for nothing any more where it was given what it waited for; for
-- one upcall alone where it asks for that, and none of it waits; else for what it did.
abbrev pub wait_left : Option Wait → Takes → Inbox → Wait
wait_left (Some (Given args)) taking inbox = No
wait_left before (FirstOf driver number) inbox =
    if is_none (slice_get inbox.pending (place_of driver number inbox.pending)) then For driver number else inbox.wait
wait_left before taking inbox = inbox.wait

-- where a life of a process ends nothing is scheduled for it any more; the count of dropped upcalls stays
abbrev pub none_left : Inbox → Inbox
none_left inbox = record { pending = []; dropped = inbox.dropped; wait = No }

-- What a turn leaves of what is scheduled, before it schedules anything: nothing where it ends a life; else all but
-- what it takes to be delivered, and what it subscribes anew.
abbrev pub inbox_left : Option Wait → TurnTrace → Inbox → Inbox
inbox_left before told inbox =
    let taking = takes before told.call in
    if ends_life told then none_left inbox
    else record {
      pending = filter (λ u. not (takes_away told u)) (removed (place_taken taking inbox.pending) inbox.pending);
      dropped = inbox.dropped;
      wait = wait_left before taking inbox;
    }

-- whether a call is the accepted command that cancels a read: 3 of the console
abbrev pub cancels_read : CallMade → Bool
cancels_read call =
    (call.class == 2 && is_none call.rule) && (slice_index call.args 0 == 0x1 && slice_index call.args 1 == 3)

-- what a turn schedules: upcall 2 of the console with 8, TRD 104's code for what was cancelled, where its call cancels
-- a read; no other call schedules any
abbrev pub upcall_by_turn : Option CallMade → Own → Option Scheduled
upcall_by_turn call own =
    option_and_then (λ made. if cancels_read made then Some (upcall_of 0x1 2 (8 ∷ 0 ∷ 0 ∷ []) own) else None) call

-- A turn of a process that no operator holds leaves exactly that, and then what it schedules. One that ends a life is
-- of a process whose object is an application's, as each is that has a place.
pub record LeavesInbox (r s : Record) (told : TurnTrace) : Type 0 where
  pub inbox : r.process.held ≡ false → (ends_life told ≡ true → CanStartAgain r) →
      s.own.inbox ≡ scheduled_if (upcall_by_turn told.call r.own) (inbox_left (wait_of r) told r.own.inbox)

-- What a device tells a process leaves all that is scheduled, and schedules one upcall at most, which the laws of that
-- device name. An operator's act leaves all, or nothing where it ends a life.
abbrev pub AnswersLeaveInbox : Event → Record → Record → Type 0
AnswersLeaveInbox (Act verb) r s =
    (ends_by verb r.process ≡ true → CanStartAgain r) →
    s.own.inbox ≡ (if ends_by verb r.process then none_left r.own.inbox else r.own.inbox)
AnswersLeaveInbox event r s = s.own.inbox ≡ scheduled_if (upcall_told event r) r.own.inbox

-- so it is in every step of every world, whoever makes the choices
pub record InboxesAreExact : Type 0 where
  pub turns : OfEachTurn LeavesInbox
  pub answers : OfEachAnswer AnswersLeaveInbox
