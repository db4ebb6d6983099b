-- Why a request is withdrawn: by what its process's turn tells, or as a life of the process ends. What a driver keeps
-- of it is set by a command that the turn tells, is as in a fresh life, or stays (`request_becomes`); where it stays
-- and waits no more, the process lives no more. An answer of another queue's device, by the walk over devices, ends it
-- with that life alone.
use Rattle.std.proofs.Common.{◌≡◌, ◌≢◌, ◌⊎◌, inl, inr, ℕ, ◌+◌, ◌==◌, ◌&&◌, ◌||◌, not, Bool, true, false, cond, List}
use Rattle.std.proofs.Common.{[], ◌∷◌, Option, None, Some, slice_get, slice_set, is_some, unwrap_or, refl, sym}
use Rattle.std.proofs.Common.{◌∙◌, arith, eq-eqb}
use Rattle.std.specs.Prelude.{IsSomeAnd}
use Rattle.std.specs.List.{Any, list_any}
use Rattle.std.specs.Option.{option_map}
use Rattle.std.proofs.lemmas.Bool.{false≢true}
use Rattle.tk_base.specs.declared.process.Dev.{Dev}
use Rattle.tk_base.specs.declared.process.Verb.TheVariants as verbs
use Rattle.process_record.specs.declared.emit.CallMade.{CallMade}
use Rattle.driver_model.specs.Answers.{LinesFollowAnswers}
use Rattle.driver_model.specs.Commands.{QueueName, Reads, order_of}
use Rattle.driver_model.specs.Lines.{RequestOf, has_waiting}
use Rattle.kernel_model.specs.Laws.{edge_done, one_answered, quiet}
use Rattle.kernel_model.specs.Record.{Record}
use Rattle.kernel_model.specs.declared.settings.Settings.{Settings}
use Rattle.kernel_model.specs.Turn.{Act, Event, TurnTrace, Turned, apply, is_turn}
use Rattle.kernel_model.specs.Turn.{surroundings, turned}
use Rattle.kernel_model.specs.World.{DeviceAnswer, Stepped, World, after, after_turn_of}
use Rattle.kernel_model.specs.World.{device_step_of, done, operating, ran}
use Rattle.kernel_model.specs.World.{unmade}
use Rattle.kernel_model.proofs.Places.{same_some}
use Rattle.kernel_laws.specs.Arming.{Becomes, SetsBy}
use Rattle.kernel_laws.specs.Queues.{queue_for}
use Rattle.kernel_laws.specs.Withdrawing.{SetsRequest}
use Rattle.kernel_laws.proofs.Asking.{asks, of_restart}
use Rattle.kernel_laws.proofs.Withdrawing.{leaves, request_becomes}
use Rattle.kernel_lives.specs.Lists.{asks_at}
use Rattle.kernel_lives.specs.Requests.{CancelsRead, EndsLife, IsWithdrawnBy, RequestsAreWithdrawn, answers_for}
use Rattle.kernel_lives.specs.Requests.{asks_in}
use Rattle.std.proofs.lemmas.Bool.{and_parts, not-true, true≢false}
use Rattle.kernel_lives.proofs.Lists.{edge_asks}
use Rattle.kernel_lives.proofs.Changes.{of_each_choice, put_at}
use Rattle.kernel_model.proofs.Steps.{answer_no_turn, of_answers}
use Rattle.kernel_model.proofs.Places.{same_there}
use Rattle.std.proofs.Common.{List}
use Rattle.kernel_model.specs.Turn.{Turn, untraced}
use Rattle.std.proofs.lemmas.Bool.{cases_Bool}

-- A request that waited is kept still, and waits no more: its process lives no more.
module _ (queue : QueueName) where
  kept_waits : (lives : Bool) (o : Option (RequestOf queue)) → is_some (cond lives o None) ≡ true → is_some o ≡ true
  kept_waits true o e = e
  kept_waits false o e = absurd (false≢true e)

  lives_no_more : (r s : Record) → has_waiting queue r.own ≡ true → has_waiting queue s.own ≡ false
      → asks queue s.own ≡ asks queue r.own → s.own.lives ≡ false
  lives_no_more r s waits ends same =
      elim (cases_Bool s.own.lives) [
        | inl e ↦ absurd (false≢true (sym ends ∙ rw (e, same) (kept_waits r.own.lives (asks queue r.own) waits)))
        | inr e ↦ e
      ]

  -- an answer of another queue's device, or an operator's act, ends one only with its process's life
  event_ends : (settings : Settings) (event : Event) (r : Record) → is_turn event ≡ false → queue_for event ≢ Some queue
      → has_waiting queue r.own ≡ true → has_waiting queue (apply settings event r).own ≡ false
      → EndsLife r (apply settings event r)
  unfolding apply
  event_ends settings (Act verbs.Restart) r no_turn none waits ends =
      of_restart (λ o. has_waiting queue o ≡ false → (o.lives ≡ false) ⊎ (o.life ≡ r.own.life + 1)) r
      (λ ends. inl (lives_no_more r r waits ends refl)) (λ brk ends. inr refl) ends
  event_ends settings event r no_turn none waits ends =
      inl (lives_no_more r (apply settings event r) waits ends (leaves settings r event no_turn (λ e. cc) queue none))

  -- and a turn so, or by its command that cancels a read
  abbrev Withdraws : TurnTrace → Record → Record → Type 0
  Withdraws told r s = ((queue ≡ Reads) × IsSomeAnd told.call CancelsRead) ⊎ EndsLife r s

  turn_ends : (settings : Settings) (time : ℕ) (r : Record)
      → let t = turned settings time r in
      has_waiting queue r.own ≡ true → has_waiting queue t.after.own ≡ false → Withdraws t.told r t.after
  turn_ends settings time r waits ends = by_change (request_becomes queue settings time r)
    where
      now : ℕ
      now = (surroundings settings time r).now

      t : Turned
      t = turned settings time r

      by_call : (o : Option CallMade)
          → IsSomeAnd o (SetsBy (SetsRequest queue) now (asks queue r.own) (asks queue t.after.own))
          → (queue ≡ Reads) × IsSomeAnd o CancelsRead
      by_call None none = absurd none
      by_call (Some call) set =
          elim set.sets [
            | inl new ↦ absurd (false≢true (rw new.0 at (kept_waits r.own.lives (asks queue r.own) waits)))
            | inr gone ↦ (
              gone.0,
              record {
                accepted = record { class = set.class; accepted = set.accepted; of_driver = gone.1.0.0 };
                number = gone.1.0.1;
              },
            )
          ]

      by_change : Becomes (SetsRequest queue) None now t.told r t.after (asks queue r.own) (asks queue t.after.own)
          → Withdraws t.told r t.after
      by_change (inl same) = inr (inl (lives_no_more r t.after waits ends same))
      by_change (inr (inl set)) = inl (by_call t.told.call set)
      by_change (inr (inr again)) = inr (inr again.0)

-- So it is in a step of a process whose request waits.
module _ (follow : LinesFollowAnswers) (w : World) (queue : QueueName) (slot : ℕ)
    (r : Record) (is : slice_get w.records slot ≡ Some r) (waits : has_waiting queue r.own ≡ true) where
  abbrev Withdrawn : Stepped → Type 0
  Withdrawn s =
      (later : Record) → slice_get s.after.records slot ≡ Some later → has_waiting queue later.own ≡ false
      → list_any (answers_for queue slot) s.labels ≡ false → Any (IsWithdrawnBy queue slot r later) s.labels

  kept : (s : Stepped) → asks_at queue (slice_get s.after.records slot) ≡ asks_at queue (slice_get w.records slot)
      → Withdrawn s
  kept s same later is_later ends none = absurd (false≢true (sym ends ∙ (rw (is_later, is) at same) ∙ waits))

  -- where one record becomes another one, and one label tells it
  changes : (v : World) (at : ℕ) (q next : Record) (event : Event) (trace : TurnTrace) (printed : List ℕ)
      → slice_get w.records at ≡ Some q → v.records ≡ slice_set w.records at next
      → (has_waiting queue q.own ≡ true → has_waiting queue next.own ≡ false → queue_for event ≢ Some queue
      → Withdraws queue trace q next)
      → Withdrawn (record {
        after = v;
        labels = record { slot = at; event = event; trace = trace; printed = printed } ∷ [];
      })
  changes v at q next event trace printed there records why later is_later ends none =
      put_at (λ k b o. slice_get w.records k ≡ Some r → o ≡ Some later
      → ((b && unwrap_or (option_map (λ name. order_of name == order_of queue) (queue_for event)) false) || false)
      ≡ false → Any (IsWithdrawnBy queue k r later)
      (record { slot = at; event = event; trace = trace; printed = printed } ∷ [])) w.records at q next there
      (λ is_r is_next untold.
      let q_is = same_there _ q r there is_r in
      let next_is = same_some next later is_next in (
        0,
        record { slot = at; event = event; trace = trace; printed = printed },
        omega arith,
        refl,
        record {
          of_it = refl;
          why = rw (← q_is, ← next_is) (why (rw q_is waits) (rw next_is ends)
              (λ told. true≢false (rw (told, eq-eqb (order_of queue) (order_of queue) refl) at untold)));
        },
      ))
      (λ k apart is_r is_next untold.
      absurd (false≢true (sym ends ∙ rw (same_there _ later r is_next is_r) waits)))
      slot is (rw records at is_later) none

  answered : (at : ℕ) (q : Record) (a : DeviceAnswer) → slice_get w.records at ≡ Some q
      → is_turn a.answer.event ≡ false → Withdrawn (one_answered w at q a)
  answered at q a there no_turn =
      changes (one_answered w at q a).after at q (apply w.settings a.answer.event q) a.answer.event untraced
      a.answer.printed there refl
      (λ waited ends untold. inr (event_ends queue w.settings a.answer.event q no_turn untold waited ends))

  of_deed : (device : Dev) → Withdrawn (done w (device_step_of w device))
  of_deed =
      of_answers w Withdrawn (kept (unmade w) refl) (λ devices. kept (quiet w devices) refl)
      (λ button pressed devices. kept (edge_done w button pressed devices)
      (edge_asks follow queue button pressed w.records slot))
      (λ at q there a answers. answered at q a there (answer_no_turn a.answer.event answers))
      (λ verb devices at q there. answered at q (operating verb devices at q) there refl)

  of_ran : (at : ℕ) (q : Record) → slice_get w.records at ≡ Some q → Withdrawn (ran w at (Some q))
  of_ran at q there =
      let t = turned w.settings w.clock.time q in
      changes (after_turn_of w at t) at q t.after (Turn w.clock.time) t.told [] there refl
      (λ waited ends untold. turn_ends queue w.settings w.clock.time q waited ends)

pub requests_are_withdrawn : LinesFollowAnswers → RequestsAreWithdrawn
requests_are_withdrawn follow w choice queue slot r s is there withdraws =
    let asked = and_parts (asks_in queue slot w) _ withdraws in
    let rest = and_parts (not (asks_in queue slot (after w choice))) _ asked.1 in
    let waits = rw is at asked.0 in
    of_each_choice (Withdrawn follow w queue slot r is waits) w (kept follow w queue slot r is waits (unmade w) refl)
    (of_ran follow w queue slot r is waits) (of_deed follow w queue slot r is waits)
    (λ clock. kept follow w queue slot r is waits (record (unmade w) { after = record w { clock = clock } }) refl)
    choice s there (rw there at (not-true _ rest.0)) (not-true _ rest.1)
