-- Who stands in a waiting list after a step: each slot once where its request waits, and not otherwise. What is shown
-- is an equation of counts (`times_in`): an act of the board adds one or takes all, so over a turn's acts the count
-- follows the request by induction, and of other slots it stays. Devices go by `of_followed`, the walk over what each
-- answer leaves of queues and requests; runs by induction on the choices.
use Rattle.std.proofs.Common.{◌≡◌, ℕ, ◌+◌, ◌==◌, Bool, true, false, cond, not, ◌&&◌, List, [], ◌∷◌, ◌++◌}
use Rattle.std.proofs.Common.{slice_get, slice_set, Option, None, Some, refl, sym, ap, ◌∙◌}
use Rattle.std.proofs.Common.{eqb-true, eq-eqb}
use Rattle.std.proofs.lemmas.Bool.{and_parts}
use Rattle.tk_base.specs.declared.process.Choice.{Choice}
use Rattle.tk_base.specs.declared.process.Dev.{Dev}
use Rattle.script_text.specs.Settings.{ScriptEvent as Arrival}
use Rattle.board_devices.specs.Arriving.{differs}
use Rattle.board_devices.specs.Storage.{is_fault}
use Rattle.process_model.specs.Own.{Own}
use Rattle.driver_model.specs.Console as console
use Rattle.driver_model.specs.Random as random
use Rattle.driver_model.specs.Storage as storage
use Rattle.driver_model.specs.Answers.{EventsTellSteps, LinesFollowAnswers, queue_left_by}
use Rattle.driver_model.specs.Commands.{BoardRequest, Waits, Leaves, Lights, QueueName, Writes, Reads, Randoms}
use Rattle.driver_model.specs.Commands.{Stores, is_same, leaving_all}
use Rattle.tk_base.specs.declared.process.Verb.{Verb}
use Rattle.driver_model.specs.Lines.{begins, has_waiting, waits_after, waits_by, waits_once}
use Rattle.kernel_model.specs.Record.{Record}
use Rattle.kernel_model.specs.declared.settings.Settings.{Settings}
use Rattle.kernel_model.specs.Turn.{Taken, WriteDone, Stored, apply}
use Rattle.kernel_model.specs.Record.{flash_of}
use Rattle.kernel_model.specs.Turn.{operated, turned}
use Rattle.driver_model.specs.Steps.{DriverStep, own_after}
use Rattle.kernel_model.specs.World.{DeviceAnswer, Devices, Stepped, World, acted, after}
use Rattle.kernel_model.specs.Parts.{alarmed}
use Rattle.kernel_model.specs.World.{device_step_of, done, now_in, operating}
use Rattle.kernel_model.specs.Parts.{acts_of, drawn_event}
use Rattle.kernel_model.specs.World.{lane_in, queue_without}
use Rattle.kernel_model.specs.Parts.{line_in}
use Rattle.kernel_model.specs.Named.{words_in}
use Rattle.kernel_model.specs.Parts.{served_in}
use Rattle.kernel_model.specs.World.{random_step, receive_step, routed, storing, transmitting}
use Rattle.kernel_model.specs.Named.{slots_in}
use Rattle.kernel_model.specs.Laws.{CanStartAgain, KeepsLines, queue_after_answer, TurnsKeepLines}
use Rattle.kernel_model.proofs.Lines.{keeps_ended, keeps_restarted}
use Rattle.kernel_model.proofs.Steps.{of_operated}
use Rattle.kernel_model.specs.Lives.{LivesAsItRuns, HoldsThroughout}
use Rattle.kernel_lives.specs.Lists.{ListsStay, asks_at, once_if, times_in}
use Rattle.kernel_lives.proofs.Lives.{over_turn}
use Rattle.kernel_model.proofs.Places.{queue_with}
use Rattle.kernel_model.specs.Laws.{edge_done, edge_heard, one_answered}
use Rattle.kernel_model.proofs.Told.{of_device, with_rest}
use Rattle.std.proofs.Common.{inl, inr}
use Rattle.std.proofs.lemmas.Bool.{cases_Bool, cond_both, not-true}
use Rattle.kernel_lives.proofs.Changes.{of_each_choice, put_at}
use Rattle.kernel_lives.specs.Lists.{ListsAreOfRequests}
use Rattle.driver_model.specs.Answers.{FollowsAnswer}
use Rattle.kernel_model.specs.World.{unmade, with_queue}
use Rattle.kernel_model.specs.Laws.{quiet}
use Rattle.std.proofs.Common.{arith}
use Rattle.std.proofs.Common.{zero, suc, map}

-- a list with one more, and without one
pub joined : (slot : ℕ) (xs : List ℕ) → times_in slot (xs ++ slot ∷ []) ≡ times_in slot xs + 1
joined slot [] = rw (eq-eqb slot slot refl)
joined slot (x ∷ xs) =
    let later = joined slot xs in
    elim (cases_Bool (x == slot)) [ inl e ↦ rw e (omega (arith, later)) | inr e ↦ rw e later ]

pub joined_other : (slot other : ℕ) (xs : List ℕ) → (slot == other) ≡ false
    → times_in other (xs ++ slot ∷ []) ≡ times_in other xs
joined_other slot other [] apart = rw apart
joined_other slot other (x ∷ xs) apart = rw (joined_other slot other xs apart)

pub gone_from : (slot : ℕ) (xs : List ℕ) → times_in slot (queue_without slot xs) ≡ 0
gone_from slot [] = refl
gone_from slot (x ∷ xs) =
    elim (cases_Bool (x == slot)) [ inl e ↦ rw e (gone_from slot xs) | inr e ↦ rw (e, e) (gone_from slot xs) ]

pub gone_other : (slot other : ℕ) (xs : List ℕ) → (slot == other) ≡ false
    → times_in other (queue_without slot xs) ≡ times_in other xs
gone_other slot other [] apart = refl
gone_other slot other (x ∷ xs) apart =
    let later = gone_other slot other xs apart in
    elim (cases_Bool (x == slot)) [
      | inl e ↦ rw (e, eqb-true x slot e, apart) later
      | inr e ↦ rw (e, later)
    ]

-- Where it begins to wait only where it does not wait already, it stands there once where it waits, after what its turn
-- asks of the board; and all others stand there as often as before.
acted_own : (here : QueueName) (slot : ℕ) (waits : Bool) (act : BoardRequest) (d : Devices)
    → times_in slot (slots_in here d.waiting) ≡ once_if waits → not (begins here act && waits) ≡ true
    → times_in slot (slots_in here (acted slot act d).waiting) ≡ once_if (waits_by here act waits)
acted_own here slot waits (Waits line) d is once =
    rw (queue_with here line (λ slots. slots ++ slot ∷ []) d) (elim (cases_Bool (is_same line here)) [
      | inl e ↦ rw (e, joined slot (slots_in here d.waiting), is, not-true waits (rw e at once))
      | inr e ↦ rw e is
    ])
acted_own here slot waits (Leaves line) d is once =
    rw (queue_with here line (queue_without slot) d)
    (elim (cases_Bool (is_same line here)) [ inl e ↦ rw e (gone_from slot _) | inr e ↦ rw e is ])
acted_own here slot waits (Lights led switch) d is once = is

acted_other : (here : QueueName) (slot other : ℕ) (act : BoardRequest) (d : Devices) → (slot == other) ≡ false
    → times_in other (slots_in here (acted slot act d).waiting) ≡ times_in other (slots_in here d.waiting)
acted_other here slot other (Waits line) d apart =
    rw (queue_with here line (λ slots. slots ++ slot ∷ []) d)
    (elim (cases_Bool (is_same line here)) [ inl e ↦ rw e (joined_other slot other _ apart) | inr e ↦ rw e ])
acted_other here slot other (Leaves line) d apart =
    rw (queue_with here line (queue_without slot) d)
    (elim (cases_Bool (is_same line here)) [ inl e ↦ rw e (gone_other slot other _ apart) | inr e ↦ rw e ])
acted_other here slot other (Lights led switch) d apart = refl

routed_own : (here : QueueName) (slot : ℕ) (waits : Bool) (acts : List BoardRequest) (d : Devices)
    → times_in slot (slots_in here d.waiting) ≡ once_if waits → waits_once here waits acts ≡ true
    → times_in slot (slots_in here (routed slot acts d).waiting) ≡ once_if (waits_after here waits acts)
routed_own here slot waits [] d is once = is
routed_own here slot waits (act ∷ acts) d is once =
    let tests = and_parts (not (begins here act && waits)) _ once in
    routed_own here slot (waits_by here act waits) acts (acted slot act d)
    (acted_own here slot waits act d is tests.0) tests.1

routed_other : (here : QueueName) (slot other : ℕ) (acts : List BoardRequest) (d : Devices) → (slot == other) ≡ false
    → times_in other (slots_in here (routed slot acts d).waiting) ≡ times_in other (slots_in here d.waiting)
routed_other here slot other [] d apart = refl
routed_other here slot other (act ∷ acts) d apart =
    routed_other here slot other acts (acted slot act d) apart ∙ acted_other here slot other act d apart

-- what becomes of the requests of a process in its turn, and of those of one on which an operator acted
same_lines : (size : ℕ) (own : Own) → KeepsLines size own own []
same_lines size own =
    record { lines = λ queue. refl; once = λ queue. refl; life = λ queue e. refl; within = λ h. h }

pub turn_keeps : TurnsKeepLines → (settings : Settings) (time : ℕ) (r : Record) → LivesAsItRuns r
    → let t = turned settings time r in KeepsLines settings.storage r.own t.after.own t.acts
turn_keeps law settings time r h =
    elim (cases_Bool r.own.lives) [
      | inl e ↦ law settings time r e h.application
      | inr e ↦ rw (over_turn settings time r (sym h.lives ∙ e)) (same_lines settings.storage r.own)
    ]

pub act_keeps : (size : ℕ) (verb : Verb) (r : Record) → CanStartAgain r
    → KeepsLines size r.own (operated verb r).own (acts_of verb r)
act_keeps size verb r can =
    let same = same_lines size r.own in
    of_operated (λ ended s. KeepsLines size r.own s.own (cond ended leaving_all [])) r same (λ held. same)
    (λ lives. keeps_ended size r.own) (keeps_restarted size r can) verb

-- the lists of some devices are those of the requests of some processes
abbrev AreLists : List Record → Devices → Type 0
AreLists rs d = (queue : QueueName) (k : ℕ)
    → times_in k (slots_in queue d.waiting) ≡ once_if (asks_at queue (slice_get rs k))

-- so they are still after an act of the board, and after an answer to one that waits in a queue, or in another
module _ (rs : List Record) (d : Devices) (h : AreLists rs d) (slot : ℕ) (r s : Record)
    (is : slice_get rs slot ≡ Some r) where
  put_lists : (queue : QueueName) (later : List ℕ) → times_in slot later ≡ once_if (has_waiting queue s.own)
      → ((k : ℕ) → (slot == k) ≡ false → times_in k later ≡ times_in k (slots_in queue d.waiting))
      → (k : ℕ) → times_in k later ≡ once_if (asks_at queue (slice_get (slice_set rs slot s) k))
  put_lists queue later own others =
      put_at (λ k b o. times_in k later ≡ once_if (asks_at queue o)) rs slot r s is own
      (λ k apart. others k apart ∙ h queue k)

  routed_lists : (size : ℕ) (acts : List BoardRequest) → KeepsLines size r.own s.own acts
      → AreLists (slice_set rs slot s) (routed slot acts d)
  routed_lists size acts keeps queue =
      put_lists queue (slots_in queue (routed slot acts d).waiting) (rw (keeps.lines queue)
      (routed_own queue slot (has_waiting queue r.own) acts d (rw is at (h queue slot)) (keeps.once queue)))
      (λ k apart. routed_other queue slot k acts d apart)

  answered_lists : (later : Devices) (left : QueueName → Bool)
      → ((here : QueueName) → slots_in here later.waiting
      ≡ cond (left here) (queue_without slot (slots_in here d.waiting)) (slots_in here d.waiting))
      → ((queue : QueueName) → has_waiting queue s.own ≡ cond (left queue) false (has_waiting queue r.own))
      → AreLists (slice_set rs slot s) later
  answered_lists later left lists waits queue =
      let before = slots_in queue d.waiting in
      put_lists queue (slots_in queue later.waiting) (rw (lists queue, waits queue)
      (elim (cases_Bool (left queue)) [
        | inl e ↦ rw e (gone_from slot before)
        | inr e ↦ rw e (rw is at
            (h queue slot))
      ]))
      (λ k apart. rw (lists queue) (cond_both (left queue) _ _ (λ xs. times_in k xs ≡ times_in k before)
      (λ e. gone_other slot k before apart) (λ e. refl)))

-- an edge of a button changes no request
pub edge_asks : LinesFollowAnswers → (queue : QueueName) (button : ℕ) (pressed : Bool) (rs : List Record) (k : ℕ)
    → asks_at queue (slice_get (map (edge_heard button pressed) rs) k) ≡ asks_at queue (slice_get rs k)
edge_asks follow queue button pressed [] k = refl
edge_asks follow queue button pressed (r ∷ rs) zero =
    cond_both (differs r.pressed button pressed) _ _ (λ (s : Record). has_waiting queue s.own ≡ has_waiting queue r.own)
    (λ e. (follow.edges button pressed r.own).lines queue) (λ e. refl)
edge_asks follow queue button pressed (r ∷ rs) (suc k) = edge_asks follow queue button pressed rs k

-- What holds after each answer that leaves queues and requests so, and where nobody is answered, holds of a device's
-- step.
module _ (follow : LinesFollowAnswers) (tell : EventsTellSteps) (w : World) (P : Stepped → Type 0)
    (answers : (slot : ℕ) (r : Record) → slice_get w.records slot ≡ Some r → (a : DeviceAnswer)
    (left : QueueName → Bool) → ((here : QueueName) → slots_in here a.devices.waiting
    ≡ cond (left here) (queue_without slot (slots_in here w.devices.waiting)) (slots_in here w.devices.waiting))
    → ((queue : QueueName) → has_waiting queue (apply w.settings a.answer.event r).own
    ≡ cond (left queue) false (has_waiting queue r.own))
    → P (one_answered w slot r a)) where
  -- an answer to one that waits in a queue, which completed or did not
  queued : (slot : ℕ) (r : Record) → slice_get w.records slot ≡ Some r → (a : DeviceAnswer) (name : QueueName)
      (completed : Bool) → a.devices.waiting ≡ (with_queue name (queue_after_answer completed slot) w.devices).waiting
      → (o : Own) → (apply w.settings a.answer.event r).own ≡ o → FollowsAnswer (queue_left_by name completed) r.own o
      → P (one_answered w slot r a)
  queued slot r is a name completed devices o same follows =
      answers slot r is a (queue_left_by name completed)
      (λ here. rw (devices, queue_with here name (queue_after_answer completed slot) w.devices)
      (elim (cases_Bool (is_same name here)) [ inl e ↦ rw e | inr e ↦ rw e ]))
      (λ queue. rw same (follows.lines queue))

  sent_own : (r : Record) (step : DriverStep) (b : Bool)
      → step ≡ cond b (console.write_done r.own) (console.taken r.own)
      → (apply w.settings (cond b WriteDone Taken) r).own ≡ own_after step
  unfolding apply
  sent_own r step true e = rw e
  sent_own r step false e = rw e

  drawn_own : (r : Record) (drawn : Option ℕ)
      → (apply w.settings (drawn_event drawn) r).own ≡ own_after (random.answered drawn r.own).step
  unfolding apply
  drawn_own r None = refl
  drawn_own r (Some word) = refl

  stored_own : (r : Record) (fails : Bool) → (apply w.settings (Stored (not fails)) r).own
      ≡ own_after (storage.answered fails (flash_of r) r.storage r.own).step
  unfolding apply
  stored_own r true = refl
  stored_own r false = refl

  pub of_followed : P (unmade w) → ((devices : Devices) → devices.waiting ≡ w.devices.waiting → P (quiet w devices))
      → ((button : ℕ) (pressed : Bool) (rest : List Arrival)
      → P (edge_done w button pressed (with_rest w.devices rest)))
      → ((verb : Verb) (rest : List Arrival) (slot : ℕ) (r : Record) → slice_get w.records slot ≡ Some r
      → P (one_answered w slot r (operating verb (with_rest w.devices rest) slot r)))
      → (device : Dev) → P (done w (device_step_of w device))
  unfolding apply
  of_followed none quietly edges acts device =
      of_device w P (record {
        none = none;
        arrives = λ bytes rest. quietly _ refl;
        edges = edges;
        nobody = λ rest. quietly _ refl;
        acts = acts;
        alarms = λ slot r first is.
            answers slot r is (alarmed w.settings w.clock.time w.devices) (λ line. false) (λ here. refl)
            (follow.alarms (now_in w) r.own).lines;
        sends = λ slot r first is.
            let s = console.sent (flash_of r) r.own in
            queued slot r is (transmitting (lane_in w) w.clock.time w.devices slot r) Writes s.completed refl _
            (sent_own r s.step s.completed (tell.writes (flash_of r) r.own)) (follow.writes (flash_of r) r.own);
        receives = λ slot r first is.
            let ring = (line_in (lane_in w) w.devices).ring in
            queued slot r is (receive_step (lane_in w) w.devices slot r) Reads _ refl _
            (ap own_after (sym (tell.reads ring r.own))) (follow.reads ring r.own);
        draws = λ slot r first is.
            let word = slice_get (words_in (lane_in w) w.devices) 0 in
            queued slot r is (random_step (lane_in w) w.devices slot r) Randoms _ refl _
            (drawn_own r _ ∙ ap own_after (sym (tell.randoms word r.own))) (follow.randoms word r.own);
        stores = λ slot r first is.
            let fails = is_fault w.devices.faults (served_in (lane_in w) w.devices + 1) in
            queued slot r is (storing (lane_in w) w.devices slot r) Stores _ refl _ (stored_own r fails)
            (follow.stores fails (flash_of r) r.storage r.own);
      }) device

-- so it is with each step
step_lists : LinesFollowAnswers → EventsTellSteps → TurnsKeepLines → (w : World) → ListsAreOfRequests w
    → (choice : Choice) → AreLists (after w choice).records (after w choice).devices
unfolding apply
step_lists follow tell law w h =
    of_each_choice (λ s. AreLists s.after.records s.after.devices) w h.each
    (λ slot r is. routed_lists w.records w.devices h.each slot r (turned w.settings w.clock.time r).after is _ _
    (turn_keeps law w.settings w.clock.time r (rw is at (h.lives slot))))
    (of_followed follow tell w (λ s. AreLists s.after.records s.after.devices)
    (λ slot r is a left. answered_lists w.records w.devices h.each slot r (apply w.settings a.answer.event r) is
    a.devices left) h.each (λ devices same. rw same h.each)
    (λ button pressed rest queue k. rw (edge_asks follow queue button pressed w.records k) (h.each queue k))
    (λ verb rest slot r is. routed_lists w.records (with_rest w.devices rest) h.each slot r (operated verb r) is 0
    (acts_of verb r) (act_keeps 0 verb r (rw is at (h.lives slot)).application)))
    (λ clock. h.each)

pub lists_stay : LinesFollowAnswers → EventsTellSteps → TurnsKeepLines → HoldsThroughout LivesAsItRuns → ListsStay
lists_stay follow tell law lives w [] h = h
lists_stay follow tell law lives w (choice ∷ choices) h =
    lists_stay follow tell law lives (after w choice) choices (record {
      each = step_lists follow tell law w h choice;
      lives = λ slot. lives w (choice ∷ []) slot (h.lives slot);
    })
