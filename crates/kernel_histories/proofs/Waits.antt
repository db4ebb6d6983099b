-- A process that waits for one upcall alone gets the arguments of the first scheduling of it. What it waits for is a
-- fold over what is scheduled since (`over`), which the first of its upcall decides; each step without a turn of it
-- adds to the fold, by induction on the choices, and it has no turn before.
use Rattle.std.proofs.Common.{◌≡◌, ◌≢◌, ℕ, ◌==◌, true, false, cond, List, [], ◌∷◌, ◌++◌, slice_get}
use Rattle.std.proofs.Common.{Option, None, Some, IfSome, refl, sym, ap, ◌∙◌, eqb-true, eq-eqb, subst, not, ◌&&◌}
use Rattle.std.specs.Prelude.{All, IsSomeAnd, filter_map, option_and_then}
use Rattle.std.specs.List.{cons_option, flat_map, list_any}
use Rattle.std.specs.Option.{option_map}
use Rattle.std.proofs.lemmas.Bool.{false≢true}
use Rattle.std.proofs.lemmas.List.Elements.{All-head, All-tail, All-weaker}
use Rattle.tk_base.specs.declared.process.Choice.{Choice}
use Rattle.tk_base.specs.declared.process.Choice.TheVariants.{Run, Device, Pass}
use Rattle.tk_base.specs.declared.process.Verb.{Verb}
use Rattle.tk_base.specs.declared.upcall.Upcall.{Upcall as Scheduled}
use Rattle.tk_base.specs.declared.upcall.Wait.{Wait}
use Rattle.tk_base.specs.declared.upcall.Wait.TheVariants.{For, Given}
use Rattle.rv32_model.specs.Laws.{CallsAreOfEcall}
use Rattle.upcall_queue.specs.declared.inbox.Delivery.TheVariants.{Arguments}
use Rattle.upcall_queue.specs.declared.inbox.Inbox.{Inbox}
use Rattle.upcall_queue.specs.Pending.{awaits, due, has_room, is_of, place_of, scheduled}
use Rattle.driver_model.specs.Upcalls.{scheduled_if}
use Rattle.process_record.specs.declared.process.Process.{Process}
use Rattle.process_record.specs.declared.process.State.{State}
use Rattle.process_record.specs.declared.process.State.TheVariants.{Yielded}
use Rattle.process_record.specs.Process.{after_turn, delivered}
use Rattle.kernel_model.specs.Record.{Record}
use Rattle.kernel_model.specs.declared.settings.Settings.{Settings}
use Rattle.kernel_model.specs.Turn.{Act, Event, apply, is_turn, turn_in}
use Rattle.kernel_model.specs.Turn.{has_turn, may_turn, turned}
use Rattle.kernel_model.specs.World.{Answer, DeviceStep, Label, Stepped, World, after, carried_out, device_step_of}
use Rattle.kernel_model.specs.World.{done, labels}
use Rattle.kernel_model.specs.World.{labels_told, ran}
use Rattle.kernel_model.specs.Parts.{happens, labels_of}
use Rattle.process_record.specs.Operator.{ends_by}
use Rattle.kernel_model.specs.Replay.{after_all}
use Rattle.kernel_model.specs.Parts.{happened}
use Rattle.kernel_model.specs.Histories.{is_end, is_ended_in, turns_in}
use Rattle.kernel_laws.specs.Ready.{IsOfReady, TurnsAreOfReadyProcesses}
use Rattle.kernel_laws.specs.Scheduled.{answer_step, upcall_told}
use Rattle.kernel_histories.specs.Deliveries.{FirstOf, Takes, takes, told_in, wait_in, wait_in_slot}
use Rattle.kernel_histories.specs.Deliveries.{wait_of}
use Rattle.kernel_histories.specs.Waits.{HasNoTurn, WaitsGetTheFirst, awaited, upcalls_since, upcalls_told}
use Rattle.kernel_model.proofs.Places.{of_stepped, ran-other, free_turned}
use Rattle.kernel_model.proofs.Steps.{IsAnswer, TellsNoTurn, answer_changes, device_answers, ended_told, of_operated}
use Rattle.kernel_model.proofs.Steps.{of_told}
use Rattle.kernel_model.proofs.Told.{labels_at, told_at, told_there}
use Rattle.kernel_laws.proofs.Scheduled.{told_inbox}
use Rattle.kernel_histories.proofs.Takings.{OfTakings, step_takes, each_turn_told}
use Rattle.std.proofs.Math.Bool.{and-false}
use Rattle.std.proofs.lemmas.Bool.{and_parts, cases_Bool, cond_both}
use Rattle.std.proofs.Common.{inl, inr, ne_eqb}
use Rattle.kernel_model.specs.Turn.{TurnTrace}

-- what a process waits for after an upcall was scheduled for it, and after some
abbrev wait_after : Wait → Scheduled → Wait
wait_after wait u = cond (awaits wait u) (Given u.args) wait

abbrev over : Wait → List Scheduled → Wait
over wait [] = wait
over wait (u ∷ us) = over (wait_after wait u) us

over_both : (wait : Wait) (us vs : List Scheduled) → over wait (us ++ vs) ≡ over (over wait us) vs
over_both wait [] vs = refl
over_both wait (u ∷ us) vs = over_both (wait_after wait u) us vs

over_given : (args : List ℕ) (us : List Scheduled) → over (Given args) us ≡ Given args
over_given args [] = refl
over_given args (u ∷ us) = over_given args us

over_for : (driver number : ℕ) (us : List Scheduled) → over (For driver number) us ≡ awaited driver number us
over_for driver number [] = refl
over_for driver number (u ∷ us) =
    elim (cases_Bool (is_of driver number u)) [
      | inl e ↦ rw e (over_given u.args us)
      | inr e ↦ rw e (over_for driver number us)
    ]

wait_scheduled : (u : Scheduled) (inbox : Inbox) → (scheduled u inbox).wait ≡ wait_after inbox.wait u
wait_scheduled u inbox =
    elim (cases_Bool (awaits inbox.wait u)) [
      | inl e ↦ rw e refl
      | inr e ↦ rw e (cond_both (u.function == 0) _ _ (λ (i : Inbox). i.wait ≡ inbox.wait) (λ null. refl)
          (λ null. cond_both (has_room inbox.pending) _ _ (λ (i : Inbox). i.wait ≡ inbox.wait) (λ room. refl)
          (λ room. refl)))
    ]

-- those that an option holds
abbrev listed : Option Scheduled → List Scheduled
listed o = cons_option o []

wait_if : (o : Option Scheduled) (inbox : Inbox) → (scheduled_if o inbox).wait ≡ over inbox.wait (listed o)
wait_if None inbox = refl
wait_if (Some u) inbox = wait_scheduled u inbox

-- a process that has yielded, after an answer
waits_on : (state : State) (a b wait : Wait) (us : List Scheduled) → wait_in state a ≡ Some wait → b ≡ over a us
    → wait_in state b ≡ Some (over wait us)
waits_on Yielded a b wait us is left =
    let same : a ≡ wait = cc in ap Some (left ∙ ap (λ (x : Wait). over x us) same)
waits_on _ a b wait us is left = absurd (cc)

after_answer : (settings : Settings) (event : Event) (r : Record) → IsAnswer event → (wait : Wait)
    → wait_of r ≡ Some wait → wait_of (apply settings event r) ≡ Some (over wait (listed (upcall_told event r)))
after_answer settings event r is wait waits =
    ap (λ (p : Process). wait_in p.state (apply settings event r).own.inbox.wait)
    (ap (λ (x : Record). x.process) (answer_changes settings event r is))
    ∙ waits_on r.process.state r.own.inbox.wait _ wait (listed (upcall_told event r)) waits
    (ap (λ (i : Inbox). i.wait) (told_inbox settings event r is) ∙ wait_if (upcall_told event r) r.own.inbox)

-- after an operator's act that ends no life
after_act : (settings : Settings) (verb : Verb) (r : Record) → ends_by verb r.process ≡ false → (wait : Wait)
    → wait_of r ≡ Some wait
    → wait_of (apply settings (Act verb) r) ≡ Some (over wait (listed (upcall_told (Act verb) r)))
unfolding apply answer_step
after_act settings verb r none wait waits =
    of_operated (λ ended s. ended ≡ false → wait_of s ≡ wait_of r) r (λ e. refl) (λ held e. refl)
    (λ lives e. absurd (false≢true (sym e))) (λ e. absurd (false≢true (sym e))) verb none ∙ waits

-- so it is after whatever else happens to it that is no turn
after_told : (settings : Settings) (event : Event) (r : Record) → is_turn event ≡ false
    → is_end (Some r) event ≡ false → (wait : Wait) → wait_of r ≡ Some wait
    → wait_of (apply settings event r) ≡ Some (over wait (listed (upcall_told event r)))
after_told settings event r is none wait waits =
    of_told (λ (e : Event). is_end (Some r) e ≡ false
    → wait_of (apply settings e r) ≡ Some (over wait (listed (upcall_told e r))))
    (λ e answers goes_on. after_answer settings e r answers wait waits)
    (λ verb goes_on. after_act settings verb r goes_on wait waits) event is none

-- of a step in which the process in a slot has no turn, and no operator's act ends a life of it
module _ (w : World) (slot : ℕ) where
  abbrev told : Label → Option Scheduled
  told label =
      cond (label.slot == slot) (option_and_then (upcall_told label.event) (slice_get w.records slot)) None

  abbrev Does : Stepped → Type 0
  Does s = flat_map (turns_in slot) s.labels ≡ []
      → list_any (is_end (slice_get w.records slot)) (flat_map (happened slot) s.labels) ≡ false → (wait : Wait)
      → option_and_then wait_of (slice_get w.records slot) ≡ Some wait
      → option_and_then wait_of (slice_get s.after.records slot) ≡ Some (over wait (filter_map told s.labels))

  of_ran : (other : ℕ) (o : Option Record) → slice_get w.records other ≡ o → Does (ran w other o)
  of_ran other None there none goes_on wait is = is
  of_ran other (Some r) there none goes_on wait is =
      elim (cases_Bool (other == slot)) [
        | inl e ↦ let told_one = rw e at none in absurd (cc)
        | inr e ↦ rw e (ap (option_and_then wait_of)
            (ran-other w other slot (Some r) (λ same. false≢true (sym e ∙ eq-eqb other slot (sym same)))) ∙ is)
      ]

  -- what a device's step tells it, if it tells it anything
  of_deed : (o : Option DeviceStep) → IfSome o (λ deed. TellsNoTurn deed.told) → Does (done w o)
  of_deed None answers none goes_on wait is = is
  of_deed (Some deed) answers none goes_on wait is =
      rw (told_at w.settings deed.told w.records slot, heard) (by_record (slice_get w.records slot) refl is)
    where
      others : (label : Label) (us : List Scheduled) → label.slot ≢ slot → cons_option (told label) us ≡ us
      others label us apart = rw (ne_eqb label.slot slot apart) refl

      heard : filter_map told (labels_told deed.told 0 w.records)
          ≡ filter_map told (labels_of slot (told_there deed.told w.records slot slot))
      heard =
          labels_at (filter_map told) (λ label us. cons_option (told label) us) (λ label ls. refl) slot others deed.told
          w.records

      by_answer : (r : Record) → slice_get w.records slot ≡ Some r → wait_of r ≡ Some wait → (o : Option Answer)
          → deed.told slot ≡ o
          → wait_of (happens w.settings o r) ≡ Some (over wait (filter_map told (labels_of slot o)))
      by_answer r there waits None e = waits
      by_answer r there waits (Some a) e =
          after_told w.settings a.event r (answers slot a e) (sym (ended_told w slot deed r a there e) ∙ goes_on) wait
          waits
          ∙ rw (eq-eqb slot slot refl, there) refl

      by_record : (o : Option Record) → slice_get w.records slot ≡ o → option_and_then wait_of o ≡ Some wait
          → option_and_then wait_of (option_map (happens w.settings (deed.told slot)) o)
          ≡ Some (over wait (filter_map told (labels_of slot (option_and_then (λ (r : Record). deed.told slot) o))))
      by_record None there waits = absurd (cc)
      by_record (Some r) there waits = by_answer r there waits (deed.told slot) refl

  of_choice : (choice : Choice) → Does (carried_out w choice)
  unfolding carried_out
  of_choice (Run other) = of_ran other (slice_get w.records other) refl
  of_choice (Device device) = of_deed (device_step_of w device) (device_answers w device)
  of_choice (Pass ticks) = λ none goes_on wait is. is

  pub step_waits : (choice : Choice) (wait : Wait) → wait_in_slot slot w ≡ Some wait → told_in slot w choice ≡ []
      → is_ended_in slot w choice ≡ false
      → wait_in_slot slot (after w choice) ≡ Some (over wait (upcalls_told slot w choice))
  step_waits choice wait is none goes_on =
      of_stepped Does w choice (λ none goes_on wait is. is) (λ ready. of_choice choice) none goes_on wait is

-- and of all steps since it waits
since_waits : (since : List Choice) (slot : ℕ) (w : World) (wait : Wait) → wait_in_slot slot w ≡ Some wait
    → HasNoTurn slot w since → wait_in_slot slot (after_all w since) ≡ Some (over wait (upcalls_since slot w since))
since_waits [] slot w wait is none = is
since_waits (choice ∷ since) slot w wait is none =
    since_waits since slot (after w choice) (over wait (upcalls_told slot w choice))
    (step_waits w slot choice wait is none.0 none.1) none.2
    ∙ ap Some (sym (over_both wait (upcalls_told slot w choice) (upcalls_since slot (after w choice) since)))

-- a call that asks for one upcall alone, of which none waits, waits for it
abbrev WaitsFor : Takes → Record → Record → Type 0
WaitsFor taking r s = (driver number : ℕ) → taking ≡ FirstOf driver number
    → slice_get r.own.inbox.pending (place_of driver number r.own.inbox.pending) ≡ None
    → wait_of s ≡ Some (For driver number)

begins_to_wait : OfTakings WaitsFor
begins_to_wait = record {
  nothing = λ r s driver number e none. absurd (cc);
  now = λ r at runs driver number e none. absurd (cc);
  asks = λ r asked_driver asked_number runs driver number e none.
      let same_driver : asked_driver ≡ driver = cc in
      let same_number : asked_number ≡ number = cc in
      rw (same_driver, same_number, none) refl;
  woken = λ r yielded driver number e none. absurd (cc);
}

-- a turn of a process that is not held and has the arguments of the upcall for which it waited
given_turn : (settings : Settings) (time : ℕ) (r : Record) (args : List ℕ) → r.process.held ≡ false
    → wait_of r ≡ Some (Given args)
    → (turned settings time r).after.process ≡ delivered (Arguments args) (after_turn r.process)
given_turn settings time r args free waits =
    rw (free_turned settings time r free) (by_state r.process.state waits)
  where
    by_state : (state : State) → wait_in state r.own.inbox.wait ≡ Some (Given args)
        → (turn_in settings time state r).after.process ≡ delivered (Arguments args) (after_turn r.process)
    by_state Yielded is =
        let given : r.own.inbox.wait ≡ Given args = cc in rw given refl
    by_state _ is = absurd (cc)

step_gives : (w : World) (slot : ℕ) (choice : Choice) (r s : Record) (args : List ℕ)
    → slice_get w.records slot ≡ Some r → slice_get (after w choice).records slot ≡ Some s
    → wait_of r ≡ Some (Given args)
    → All (λ told. s.process ≡ delivered (Arguments args) (after_turn r.process)) (told_in slot w choice)
step_gives w slot choice r s args is left waits =
    each_turn_told (λ x told. x.process ≡ delivered (Arguments args) (after_turn r.process)) w slot choice r s is left
    (λ free. given_turn w.settings w.clock.time r args free waits)

-- one that waits for an upcall alone may have no turn
waiting_rests : (r : Record) (driver number : ℕ) → wait_of r ≡ Some (For driver number) → may_turn r ≡ false
waiting_rests r driver number waits = by_state r.process.state waits
  where
    by_state : (state : State) → wait_in state r.own.inbox.wait ≡ Some (For driver number)
        → (not r.process.held && has_turn state (due r.own.inbox)) ≡ false
    by_state Yielded is =
        let alone : r.own.inbox.wait ≡ For driver number = cc in rw (alone, and-false (not r.process.held)) refl
    by_state _ is = absurd (cc)

-- so none of the labels of a step tells one
no_turns : (v : World) (slot : ℕ) (r : Record) → slice_get v.records slot ≡ Some r → may_turn r ≡ false
    → (ls : List Label) → All (IsOfReady v) ls → flat_map (turns_in slot) ls ≡ []
no_turns v slot r there none [] ready = refl
no_turns v slot r there none (label ∷ ls) ready =
    let rest = no_turns v slot r there none ls (All-tail (IsOfReady v) label ls ready) in
    cond_both (is_turn label.event && label.slot == slot) _ _ (λ (front : List TurnTrace).
    front ++ flat_map (turns_in slot) ls ≡ []) (λ e. let both = and_parts (is_turn label.event) _ e in
    absurd (false≢true (sym none ∙ subst (λ (o : Option Record). IsSomeAnd o (λ q. may_turn q ≡ true))
    (ap (slice_get v.records) (eqb-true label.slot slot both.1) ∙ there)
    (All-head (IsOfReady v) label ls ready both.0)))) (λ e. rest)

waiting_has_none : TurnsAreOfReadyProcesses → (v : World) (slot : ℕ) (choice : Choice) (driver number : ℕ)
    → wait_in_slot slot v ≡ Some (For driver number) → told_in slot v choice ≡ []
waiting_has_none law v slot choice driver number waits = by_record (slice_get v.records slot) refl waits
  where
    by_record : (o : Option Record) → slice_get v.records slot ≡ o
        → option_and_then wait_of o ≡ Some (For driver number) → told_in slot v choice ≡ []
    by_record None there waits = absurd (cc)
    by_record (Some r) there waits =
        no_turns v slot r there (waiting_rests r driver number waits) (labels v choice) (law v choice)

pub waits_get_the_first : CallsAreOfEcall → TurnsAreOfReadyProcesses → WaitsGetTheFirst
waits_get_the_first of_ecall ready w slot = record {
  rests = λ choices choice driver number.
      waiting_has_none ready (after_all w choices) slot choice driver number;
  calls = λ choices choice r s driver number is left none.
      All-weaker (λ told. WaitsFor (takes (wait_of r) told.call) r s)
      (λ told. takes (wait_of r) told.call ≡ FirstOf driver number → wait_of s ≡ Some (For driver number))
      (λ told asks e. asks driver number e none) (told_in slot (after_all w choices) choice)
      (step_takes WaitsFor begins_to_wait of_ecall (after_all w choices) slot choice r s is left);
  waits = λ choices since driver number is none.
      since_waits since slot (after_all w choices) (For driver number) is none
      ∙ ap Some (over_for driver number (upcalls_since slot (after_all w choices) since));
  given = λ choices choice r s args is left waits.
      step_gives (after_all w choices) slot choice r s args is left waits;
}
