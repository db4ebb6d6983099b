-- That a request begins to wait by an accepted command to its driver alone: one that waits after a turn and did not
-- before it is that of a command that the turn tells (`requests_are_of_commands`), and the walk over devices
-- (`of_followed`) shows that an answer adds no request.
use Rattle.std.proofs.Common.{◌≡◌, ℕ, ◌&&◌, ◌||◌, not, Bool, true, false, cond, []}
use Rattle.std.proofs.Common.{slice_get, slice_set, Option, None, Some, IfSome}
use Rattle.std.proofs.Common.{refl, sym, ◌∙◌, unwrap_or, eq-eqb}
use Rattle.std.specs.List.{list_any}
use Rattle.std.specs.Option.{option_map}
use Rattle.std.proofs.lemmas.Bool.{false≢true}
use Rattle.tk_base.specs.declared.process.Dev.{Dev}
use Rattle.driver_model.specs.Answers.{EventsTellSteps, LinesFollowAnswers}
use Rattle.process_record.specs.Operator.{ends_by}
use Rattle.driver_model.specs.Commands.{QueueName, leaving_all}
use Rattle.driver_model.specs.Lines.{has_waiting, kind_in, waits_after, RequestOf}
use Rattle.kernel_model.specs.Lives.{LivesAsItRuns}
use Rattle.kernel_model.specs.Record.{Record}
use Rattle.kernel_model.specs.declared.settings.Settings.{Settings}
use Rattle.kernel_model.specs.Turn.{TurnTrace}
use Rattle.kernel_model.specs.Turn.{apply, operated, turned}
use Rattle.kernel_model.specs.World.{Stepped, World, device_step_of, done}
use Rattle.kernel_model.specs.World.{ran, unmade}
use Rattle.kernel_lives.specs.Lists.{asks_at}
use Rattle.kernel_lives.specs.Requests.{RequestsBeginByCommands, asks_for, tells_asking}
use Rattle.kernel_lives.proofs.Lists.{act_keeps}
use Rattle.kernel_model.proofs.Lines.{left_all}
use Rattle.kernel_laws.proofs.AsAsked.{requests_are_of_commands}
use Rattle.kernel_laws.proofs.Withdrawing.{is_of}
use Rattle.kernel_laws.specs.Asking.{IsOfCommand}
use Rattle.process_record.specs.declared.emit.CallMade.{CallMade}
use Rattle.driver_model.specs.Keeping.{DriversKeep}
use Rattle.driver_model.specs.Requests.{waiting_in}
use Rattle.std.proofs.Common.{is_some}
use Rattle.std.proofs.Common.{inl}
use Rattle.std.proofs.Common.{inr}
use Rattle.std.proofs.lemmas.Bool.{and_parts, not-true}
use Rattle.kernel_lives.proofs.Lists.{edge_asks, of_followed}
use Rattle.kernel_lives.proofs.Changes.{of_each_choice, put_at}

-- whether what a turn tells is such a command
abbrev pub told_asks : QueueName → TurnTrace → Bool
told_asks queue told = unwrap_or (option_map (asks_for queue) told.call) false

-- so it is with a turn before which no request waits, and one does after it
turn_begins : DriversKeep → (queue : QueueName) (settings : Settings) (time : ℕ) (r : Record)
    → has_waiting queue r.own ≡ false → has_waiting queue (turned settings time r).after.own ≡ true
    → told_asks queue (turned settings time r).told ≡ true
turn_begins keep queue settings time r none waits =
    by_request (waiting_in (kind_in queue) r.own) (waiting_in (kind_in queue) (turned settings time r).after.own)
    (turned settings time r).told.call none waits ((requests_are_of_commands keep settings time r).each queue)
  where
    by_request : (before later : Option (RequestOf queue)) (call : Option CallMade) → is_some before ≡ false
        → is_some later ≡ true → IfSome later (IsOfCommand queue before call)
        → unwrap_or (option_map (asks_for queue) call) false ≡ true
    by_request None (Some request) call none waits (inl same) = absurd (cc)
    by_request None (Some request) (Some told) none waits (inr new) =
        rw (
          new.1.class,
          (is_of queue request told.args new.1.asks).0,
          new.1.accepted,
          eq-eqb (kind_in queue).driver (kind_in queue).driver refl,
        )
    by_request None (Some request) None none waits (inr new) = absurd new.1
    by_request before later call none waits of_call = absurd (cc)

-- where a request waits after what an answer or an act leaves, it waited before it
left_waits : (left before : Bool) → cond left false before ≡ true → before ≡ true
left_waits true before waits = absurd (cc)
left_waits false before waits = waits

acted_waits : (queue : QueueName) (before ended : Bool)
    → waits_after queue before (cond ended leaving_all []) ≡ true → before ≡ true
acted_waits queue before true waits = absurd (false≢true (sym (left_all queue before) ∙ waits))
acted_waits queue before false waits = waits

not_both : (before later : Bool) → (later ≡ true → before ≡ true) → (not before && later) ≡ true → ⊥
not_both true later h e = false≢true e
not_both false later h e = false≢true (h e)

-- only an accepted command in a turn of its own lets one begin
module _ (follow : LinesFollowAnswers) (tell : EventsTellSteps) (keep : DriversKeep) (w : World) (queue : QueueName)
    (slot : ℕ)
    (lives : IfSome (slice_get w.records slot) LivesAsItRuns) where
  abbrev Waited : Stepped → Type 0
  Waited s = asks_at queue (slice_get s.after.records slot) ≡ true → asks_at queue (slice_get w.records slot) ≡ true

  -- one record is another one
  put_waits : (at : ℕ) (q s : Record) → slice_get w.records at ≡ Some q
      → (at ≡ slot → has_waiting queue s.own ≡ true → has_waiting queue q.own ≡ true)
      → asks_at queue (slice_get (slice_set w.records at s) slot) ≡ true
      → asks_at queue (slice_get w.records slot) ≡ true
  put_waits at q s there each =
      put_at (λ k b o. k ≡ slot → asks_at queue o ≡ true → asks_at queue (slice_get w.records k) ≡ true) w.records at q
      s there (λ here waits. rw there (each here waits)) (λ k apart here waits. waits) slot refl

  deed_waited : (device : Dev) → Waited (done w (device_step_of w device))
  unfolding apply
  deed_waited =
      of_followed follow tell w Waited
      (λ at q there a left lists waits. put_waits at q (apply w.settings a.answer.event q) there
      (λ here now. left_waits (left queue) (has_waiting queue q.own) (rw (waits queue) at now)))
      (λ waits. waits) (λ devices same waits. waits)
      (λ button pressed rest waits. rw (edge_asks follow queue button pressed w.records slot) at waits)
      (λ verb rest at q there. put_waits at q (operated verb q) there
      (λ here waits.
      let can = (rw (← here, there) at lives).application in
      acted_waits queue (has_waiting queue q.own) (ends_by verb q.process)
      (rw ((act_keeps w.settings.storage verb q can).lines queue) at waits)))

  abbrev Begun : Stepped → Type 0
  Begun s =
      (not (asks_at queue (slice_get w.records slot)) && asks_at queue (slice_get s.after.records slot)) ≡ true
      → list_any (tells_asking queue slot) s.labels ≡ true

  none_begun : (s : Stepped) → Waited s → Begun s
  none_begun s waited begun = absurd (not_both _ _ waited begun)

  ran_begun : (at : ℕ) (q : Record) → slice_get w.records at ≡ Some q → Begun (ran w at (Some q))
  ran_begun at q there =
      let t = turned w.settings w.clock.time q in
      put_at (λ k b o. (not (asks_at queue (slice_get w.records k)) && asks_at queue o) ≡ true
      → ((b && told_asks queue t.told) || false) ≡ true) w.records at q t.after there
      (λ begun.
      let tests = and_parts (not (has_waiting queue q.own)) _ (rw there at begun) in
      rw (turn_begins keep queue w.settings w.clock.time q (not-true _ tests.0) tests.1))
      (λ k apart begun. absurd (not_both (asks_at queue (slice_get w.records k)) _ (λ waits. waits) begun)) slot

pub requests_begin_by_commands : LinesFollowAnswers → EventsTellSteps → DriversKeep → RequestsBeginByCommands
requests_begin_by_commands follow tell keep w choice queue slot lives =
    let quietly = none_begun follow tell keep w queue slot lives in
    of_each_choice (Begun follow tell keep w queue slot lives) w (quietly (unmade w) (λ waits. waits))
    (ran_begun follow tell keep w queue slot lives)
    (λ device. quietly (done w (device_step_of w device)) (deed_waited follow tell keep w queue slot lives device))
    (λ clock. quietly (record (unmade w) { after = record w { clock = clock } }) (λ waits. waits)) choice
