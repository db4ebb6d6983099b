-- That no request is lost: by the rows of the drivers' tables, and by what each device's answer leaves. What a queue
-- keeps is a value as in `Arming`, so a turn leaves it, sets it by the command that it tells, or a life ended; an
-- answer leaves it unless it is of the queue's own device. What an accepted command asks for is then there.
use Rattle.kernel_laws.proofs.Cases.{cases_option}
use Rattle.std.proofs.Common.{◌≡◌, ◌≢◌, inl, inr, ℕ, ◌+◌, ◌==◌, true, false, nat_le, List, [], ◌∷◌, Ok}
use Rattle.std.proofs.Common.{Option, None, Some, IfSome, slice_index, refl, sym, ap, subst, ◌∙◌}
use Rattle.std.proofs.Common.{arith}
use Rattle.std.proofs.lemmas.Bool.{cond_both}
use Rattle.std.specs.List.{list_any}
use Rattle.tk_base.specs.declared.call.CallRule.TheVariants.{NoRoom}
use Rattle.tk_base.specs.declared.process.Verb.{Verb}
use Rattle.tk_base.specs.declared.process.Verb.TheVariants as verbs
use Rattle.grant_values.specs.declared.console.WaitingRead.{WaitingRead}
use Rattle.grant_values.specs.declared.drivers.Driver.TheVariants.{Console, Random, Storage}
use Rattle.grant_values.specs.declared.storage.StorageKind.TheVariants.{Read, Write}
use Rattle.grant_values.specs.Drivers.{drivers}
use Rattle.rv32_model.specs.Laws.{CallsAreOfEcall}
use Rattle.syscall_abi.specs.declared.reply.Reply.TheVariants.{Success}
use Rattle.process_model.specs.Handed.{has_place, own_entering}
use Rattle.process_model.specs.Own.{Own, own_ended}
use Rattle.process_model.specs.Served.{kept}
use Rattle.process_record.specs.Process.{is_alive}
use Rattle.driver_model.specs.Commands.{Commanded, Leaves, Waits, QueueName, Writes, Reads, Randoms, Stores}
use Rattle.driver_model.specs.Commands.{is_same, refusing}
use Rattle.driver_model.specs.Console as console
use Rattle.driver_model.specs.Console.{console_reads}
use Rattle.driver_model.specs.Drivers.{CommandContext, CommandHandler, handler_by, handler_of}
use Rattle.driver_model.specs.Lines.{RequestOf, kind_in}
use Rattle.driver_model.specs.Random as random
use Rattle.driver_model.specs.Requests.{asking, request_in, with_request}
use Rattle.driver_model.specs.Steps.{own_after, silently}
use Rattle.driver_model.specs.Storage as storage
use Rattle.kernel_model.specs.Record.{Record}
use Rattle.kernel_model.specs.declared.settings.Settings.{Settings}
use Rattle.kernel_model.specs.Turn.{Act, Event}
use Rattle.kernel_model.specs.Turn.{apply}
use Rattle.kernel_model.specs.Laws.{DriversPromise}
use Rattle.kernel_model.specs.Turn.{is_turn, operated, surroundings, turned}
use Rattle.kernel_model.specs.World.{now_in}
use Rattle.kernel_model.proofs.Steps.{of_told}
use Rattle.kernel_laws.specs.Arming.{Becomes}
use Rattle.kernel_laws.specs.Asking.{AreOf, CommandAsks, CommandsAsk, IsAskedBy}
use Rattle.kernel_laws.specs.Withdrawing.{RequestsAreLeft, RequestsAreNotLost, RequestsAreSet, SetsRequest}
use Rattle.kernel_laws.proofs.Accepted.{Accepts, if_called, of_accepted}
use Rattle.kernel_laws.proofs.Arming.{LeavesOrSets, accepted_sets, no_row, of_turns}
use Rattle.kernel_laws.proofs.Asking.{asks, beside_asks, entered_asks, entering_asks, none_put}
use Rattle.kernel_laws.proofs.Asking.{none_waits, put_asks}
use Rattle.kernel_laws.proofs.Asking.{blank, told}
pub use Rattle.kernel_laws.proofs.Asking.{left}
use Rattle.kernel_model.proofs.Beside.{scheduled_keeps}
use Rattle.kernel_laws.proofs.Between.{of_each_answer, of_each_turn, of_turns_at}
use Rattle.kernel_model.proofs.Places.{same_some}
use Rattle.kernel_model.proofs.Commands.{row, if_either}

-- the numbers of the commands that set the request of each queue
abbrev numbers_of : QueueName → List ℕ
numbers_of Writes = 1 ∷ []
numbers_of Reads = 2 ∷ 3 ∷ []
numbers_of Randoms = 1 ∷ []
numbers_of Stores = 2 ∷ 3 ∷ []

-- what a command leaves of the request of a queue
module _ (queue : QueueName) (number x y : ℕ) (own : Own) where
  abbrev Sets : Commanded → Type 0
  Sets c =
      LeavesOrSets (numbers_of queue) number c.answer (asks queue own) (asks queue (own_after c.step))
      (SetsRequest queue 0 (asks queue own) ((kind_in queue).driver ∷ number ∷ x ∷ y ∷ [])
      (asks queue (own_after c.step)))

  of_asking : (here : QueueName) (request : RequestOf here)
      → (asks here own ≡ None → Sets (record {
        answer = Ok Success;
        step = silently (with_request (kind_in here) (Some request) (own_entering (kind_in here).driver own));
        acts = Waits (kind_in here).line ∷ [];
      }))
      → Sets (asking (kind_in here) request own)
  of_asking here request begins =
      elim (cases_option (asks here own)) [
        | inl none ↦
            rw none (if_either Sets (has_place (kind_in here).driver own) _ (refusing NoRoom own) (begins none)
            (inl (refl, λ among reply e. cc)))
        | inr some ↦ rw some.1 (inl (refl, λ among reply f. cc))
      ]

  sets_here : (request : RequestOf queue) → IsAskedBy queue request ((kind_in queue).driver ∷ number ∷ x ∷ y ∷ [])
      → Sets (asking (kind_in queue) request own)
  sets_here request is =
      of_asking queue request (λ none.
      inr ((Success, refl), inl (none, rw (entered_asks queue (Some request) own) is)))

  sets_other : (here : QueueName) → is_same here queue ≡ false
      → (list_any (λ n. n == number) (numbers_of queue) ≡ true → ⊥) → (request : RequestOf here)
      → Sets (asking (kind_in here) request own)
  sets_other here apart none request =
      of_asking here request (λ empty. inl (
        beside_asks here queue apart (Some request) (own_entering (kind_in here).driver own)
            ∙ entering_asks queue (kind_in here).driver own,
        λ among reply e. none among,
      ))

  -- a read that is cancelled, where one waits
  cancelled : (read : Option WaitingRead)
      → Sets (record { answer = Ok Success; step = console.dropping_read own; acts = Leaves Reads ∷ [] })
      → Sets (console.cancelling read own)
  cancelled None sets = inl (refl, λ among reply e. cc)
  cancelled (Some read) sets = sets

-- by the rows of each driver's table
sets_at : (queue : QueueName) (taker : CommandHandler) → handler_of (kind_in queue).driver ≡ Some taker
    → (around : CommandContext) (number x y : ℕ) (own : Own) → Sets queue number x y own (taker around number x y own)
unfolding drivers console.commands random.commands storage.commands
sets_at Writes taker is around number x y own =
    let at = row number own (Sets Writes number x y own) in
    rw (← same_some (handler_by Console) taker is)
    (at 0 _ _ (λ is. inl (refl, no_row (1 ∷ []) number 0 refl is))
    (at 1 _ _ (λ is. sets_here Writes number x y own (record { length = x; taken = 0 }) ((refl, is), refl))
    (at 2 _ _ (λ is. if_either (Sets Writes number x y own) (x == 0) _ _ (inl (refl, λ among reply e. cc))
    (sets_other Writes number x y own Reads refl (no_row (1 ∷ []) number 2 refl is) (record { length = x })))
    (at 3 _ _ (λ is. cancelled Writes number x y own (request_in console_reads own)
    (inl (
      ap (told Writes) (scheduled_keeps console.console (console.dropping_read own))
          ∙ beside_asks Reads Writes refl None own,
      no_row (1 ∷ []) number 3 refl is,
    )))
    (inl (refl, λ among reply e. cc))))))
sets_at Reads taker is around number x y own =
    let at = row number own (Sets Reads number x y own) in
    rw (← same_some (handler_by Console) taker is)
    (at 0 _ _ (λ is. inl (refl, no_row (2 ∷ 3 ∷ []) number 0 refl is))
    (at 1 _ _ (λ is. sets_other Reads number x y own Writes refl (no_row (2 ∷ 3 ∷ []) number 1 refl is)
    (record { length = x; taken = 0 }))
    (at 2 _ _ (λ is. if_either (Sets Reads number x y own) (x == 0) _ _ (inl (refl, λ among reply e. cc))
    (sets_here Reads number x y own (record { length = x }) ((refl, is), refl)))
    (at 3 _ _ (λ is. cancelled Reads number x y own (request_in console_reads own)
    (inr (
      (Success, refl),
      inr (
        refl,
        (
          (refl, is),
          ap (told Reads) (scheduled_keeps console.console (console.dropping_read own))
              ∙ put_asks Reads None own ∙ none_put Reads (kept console.console own),
        ),
      ),
    )))
    (inl (refl, λ among reply e. cc))))))
sets_at Randoms taker is around number x y own =
    let at = row number own (Sets Randoms number x y own) in
    rw (← same_some (handler_by Random) taker is)
    (at 0 _ _ (λ is. inl (refl, no_row (1 ∷ []) number 0 refl is))
    (at 1 _ _ (λ is. sets_here Randoms number x y own (record { count = x; written = 0 }) ((refl, is), refl))
    (inl (refl, λ among reply e. cc))))
sets_at Stores taker is around number x y own =
    let at = row number own (Sets Stores number x y own) in
    rw (← same_some (handler_by Storage) taker is)
    (at 0 _ _ (λ is. inl (refl, no_row (2 ∷ 3 ∷ []) number 0 refl is))
    (at 1 _ _ (λ is. inl (refl, no_row (2 ∷ 3 ∷ []) number 1 refl is))
    (at 2 _ _ (λ is. if_either (Sets Stores number x y own) (nat_le (x + y) around.storage) _ _
    (sets_here Stores number x y own (record { kind = Read; offset = x; length = y }) (inl ((refl, is), refl)))
    (inl (refl, λ among reply e. cc)))
    (at 3 _ _ (λ is. if_either (Sets Stores number x y own) (nat_le (x + y) around.storage) _ _
    (sets_here Stores number x y own (record { kind = Write; offset = x; length = y }) (inr ((refl, is), refl)))
    (inl (refl, λ among reply e. cc)))
    (inl (refl, λ among reply e. cc))))))

-- what an answer leaves
module _ (settings : Settings) (r : Record) where
  act_left : (verb : Verb) → Act verb ≢ Act verbs.Restart → (queue : QueueName)
      → asks queue (operated verb r).own ≡ asks queue r.own
  act_left verbs.Restart apart queue = absurd (apart refl)
  act_left verbs.Terminate apart queue =
      cond_both (is_alive r.process.state) (own_ended r.own) r.own (λ o. asks queue o ≡ asks queue r.own) (λ e. refl)
      (λ e. refl)
  act_left verb apart queue = refl

  pub leaves : (event : Event) → is_turn event ≡ false → RequestsAreLeft event r (apply settings event r)
  unfolding apply
  leaves =
      of_told (λ event. RequestsAreLeft event r (apply settings event r)) (λ event is apart queue none.
      left settings r queue event is none) (λ verb apart queue none. act_left verb apart queue)

-- what a turn leaves of the request of a queue
pub request_becomes : (queue : QueueName) (settings : Settings) (time : ℕ) (r : Record)
    → let t = turned settings time r in
    Becomes (SetsRequest queue) None (surroundings settings time r).now t.told r t.after (asks queue r.own)
    (asks queue t.after.own)
request_becomes queue settings time r =
    of_turns (kind_in queue).driver (told queue) (SetsRequest queue) (numbers_of queue) (blank queue) (sets_at queue)
    settings time r

pub requests_are_not_lost : RequestsAreNotLost
requests_are_not_lost = record {
  turns = λ w choice.
      of_turns_at (RequestsAreSet (now_in w)) w (λ r. record {
        each = λ queue. request_becomes queue w.settings w.clock.time r;
      }) choice;
  answers = of_each_answer RequestsAreLeft (λ settings event r. leaves settings r event);
}

-- What an accepted command asks for is determined by its arguments, and its number is one that sets the queue's
-- request.
pub is_of : (queue : QueueName) (request : RequestOf queue) (args : List ℕ) → IsAskedBy queue request args
    → (slice_index args 0 ≡ (kind_in queue).driver)
    × (list_any (λ n. n == slice_index args 1) (numbers_of queue) ≡ true)
is_of Stores request args asked =
    elim asked [
      | inl reading ↦ (reading.0.0, rw reading.0.1)
      | inr writing ↦ (writing.0.0, rw writing.0.1)
    ]
is_of queue request args asked = (asked.0.0, rw asked.0.1)

one_asked : (queue : QueueName) (a b : RequestOf queue) (args : List ℕ) → IsAskedBy queue a args
    → IsAskedBy queue b args → a ≡ b
one_asked Stores a b args x y = grind arith
one_asked queue a b args x y = x.1 ∙ sym y.1

no_cancel : (args : List ℕ) → AreOf 0x1 3 args → (request : WaitingRead) → IsAskedBy Reads request args → ⊥
no_cancel args cancels request asked = omega (arith, cancels.1, asked.0.1)

set_is : (queue : QueueName) (before later : Option (RequestOf queue)) (args : List ℕ) (request : RequestOf queue)
    → IsAskedBy queue request args → SetsRequest queue 0 before args later → later ≡ Some request
set_is queue before None args request asked (inl new) = absurd new.1
set_is queue before (Some q) args request asked (inl new) = ap Some (one_asked queue q request args new.1 asked)
set_is queue before later args request asked (inr gone) =
    absurd (subst (λ (q : QueueName). (request : RequestOf q) → IsAskedBy q request args → ⊥) (sym gone.0)
    (no_cancel args gone.1.0) request asked)

gone_is : (before later : Option WaitingRead) (args : List ℕ) → AreOf 0x1 3 args
    → SetsRequest Reads 0 before args later → later ≡ None
gone_is before None args cancels sets = refl
gone_is before (Some q) args cancels (inl new) = absurd (no_cancel args cancels q new.1)
gone_is before (Some q) args cancels (inr gone) = gone.1.1

-- So an accepted command leaves what it asks for.
pub commands_ask : DriversPromise → CallsAreOfEcall → CommandsAsk
commands_ask promise of_ecall =
    of_each_turn (λ r s told. IfSome told.call (CommandAsks r s)) (λ settings time r.
    let t = turned settings time r in
    let around = surroundings settings time r in
    if_called t.told.call (λ call. call.class ≡ 2 → call.rule ≡ None
    → Accepts around r.own t.after.own t.acts call) (CommandAsks r t.after) (λ call accepts.
    let sets = λ (queue : QueueName) (takes : Accepts around r.own t.after.own t.acts call).
    accepted_sets (kind_in queue).driver (told queue) (SetsRequest queue) (numbers_of queue) (blank queue)
    (sets_at queue) around r.own t.after.own t.acts call takes in
    record {
      asks = λ lives queue request asks.
          let takes = accepts asks.class asks.accepted in
          let is = is_of queue request call.args asks.asks in
          let alive : t.after.own.lives ≡ true =
          ap (λ (o : Own). o.lives) takes.own
          ∙ ap (λ (o : Own). o.lives) (promise.stay (slice_index call.args 0) takes.taker takes.there around
          (slice_index call.args 1) (slice_index call.args 2) (slice_index call.args 3) r.own) ∙ lives in
          rw (alive, set_is queue _ _ call.args request asks.asks (sets queue takes is.0 is.1)) refl;
      cancels = λ class accepted cancels.
          none_waits Reads t.after.own (gone_is _ _ call.args cancels (sets Reads (accepts class accepted) cancels.0
          (rw cancels.1)));
    }) (of_accepted of_ecall settings time r))
