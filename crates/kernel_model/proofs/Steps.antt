-- What a step does to the process in a slot: nothing, its turn, or what a device tells it. `of_answers` is the walk
-- over all that devices answer, `of_operated` over an operator's verbs, and `of_step` over the whole step: it reads off
-- the labels what was told of the slot, since labels of other slots count nothing.
use Rattle.std.proofs.Common.{◌≡◌, ◌≢◌, ℕ, ◌==◌, ◌||◌, Bool, true, false, cond, List, [], ◌∷◌, ◌++◌, slice_get}
use Rattle.std.proofs.Common.{Option, None, Some, IfSome, refl, sym, ap, eqb-true, eq-eqb}
use Rattle.std.specs.List.{flat_map, list_any}
use Rattle.tk_base.specs.declared.process.Choice.{Choice}
use Rattle.tk_base.specs.declared.process.Choice.TheVariants.{Run, Device, Pass}
use Rattle.tk_base.specs.declared.process.Dev.{Dev}
use Rattle.tk_base.specs.declared.process.Verb.{Verb}
use Rattle.tk_base.specs.declared.process.Verb.TheVariants as verbs
use Rattle.process_record.specs.Operator.{ends_by}
use Rattle.process_record.specs.Process.{after_end, is_alive}
use Rattle.process_record.specs.Parts.{with_held}
use Rattle.tk_base.specs.declared.process.Dev.TheVariants as dev
use Rattle.script_text.specs.Settings.{ScriptEvent as Arrival}
use Rattle.process_model.specs.Own.{Own, own_ended}
use Rattle.driver_model.specs.Services.{OfEachService}
use Rattle.kernel_model.specs.declared.settings.Settings.{Settings}
use Rattle.kernel_model.specs.Record.{Record}
use Rattle.kernel_model.specs.Turn.{Act, Event, Turn, Alarmed, Edge, Taken, WriteDone, Input, Word, NoWord, Stored}
use Rattle.kernel_model.specs.Turn.{TurnTrace, apply, is_act, is_turn, operated, turned}
use Rattle.kernel_model.specs.Calls.{restart}
use Rattle.kernel_model.specs.World.{Answer, DeviceAnswer, DeviceStep, Devices, Stepped, World, after}
use Rattle.kernel_model.specs.Parts.{alarmed}
use Rattle.kernel_model.specs.World.{answering, arrived, carried_out, device_step_of, done}
use Rattle.kernel_model.specs.Parts.{drawn_event}
use Rattle.kernel_model.specs.World.{labels, lane_in, labels_told, ran, random_step, receive_step}
use Rattle.kernel_model.specs.Parts.{served_by}
use Rattle.kernel_model.specs.Parts.{labels_of}
use Rattle.kernel_model.specs.World.{operating, serving, storing}
use Rattle.kernel_model.specs.World.{transmitting, unmade}
use Rattle.kernel_model.specs.Histories.{is_end, is_ended_in, turns_in}
use Rattle.kernel_model.specs.Parts.{happened}
use Rattle.kernel_model.specs.Named.{can_run}
use Rattle.kernel_model.proofs.Places.{free_where_may, may_where_ready, of_stepped, ran-other, ran-own}
use Rattle.kernel_model.specs.Laws.{edge_done, one_answered, quiet}
use Rattle.kernel_model.proofs.Told.{edge_answer, heard_at, labels_at, of_coming, of_device, told_at, told_there}
use Rattle.kernel_model.proofs.Told.{with_arrived, with_rest}
use Rattle.std.proofs.lemmas.Bool.{cases_Bool, or_parts, ne_eqb, eqb-false, and_right}
use Rattle.std.proofs.Common.{inl, inr}
use Rattle.std.proofs.lemmas.Option.{cond_some, IfSome_then}
use Rattle.kernel_model.proofs.Places.{cases_Option}
use Rattle.std.proofs.lemmas.Bool.{cond_both}

-- an event that a device tells: no turn, and no operator's act
abbrev pub IsAnswer : Event → Type 0
IsAnswer event = (is_turn event || is_act event) ≡ false

-- what is no turn is an answer of a device, or an operator's act
pub of_told : (P : Event → Type 0) → ((event : Event) → IsAnswer event → P event) → ((verb : Verb) → P (Act verb))
    → (event : Event) → is_turn event ≡ false → P event
of_told P answers acts (Turn time) is = absurd (cc)
of_told P answers acts (Act verb) is = acts verb
of_told P answers acts event is = answers event refl

-- an answer is no turn, and ends no life
pub answer_no_turn : (event : Event) → IsAnswer event → is_turn event ≡ false
answer_no_turn event is = (or_parts (is_turn event) (is_act event) is).0

answer_no_end : (o : Option Record) (event : Event) → IsAnswer event → is_end o event ≡ false
answer_no_end o (Act verb) is = absurd (cc)
answer_no_end o event is = refl

-- What holds of a process that is as it was, or held, or let go, and where a life of it ends of one that ended, or
-- starts again, holds of one on which an operator acted.
pub of_operated : (P : Bool → Record → Type 0) (r : Record) → P false r
    → ((held : Bool) → P false (record r { process = with_held held r.process }))
    → (is_alive r.process.state ≡ true → P true (record r { process = after_end r.process 0; own = own_ended r.own }))
    → P true (restart r) → (verb : Verb) → P (ends_by verb r.process) (operated verb r)
of_operated P r same holds ends again verbs.List = same
of_operated P r same holds ends again verbs.Stop =
    elim (cases_Bool (is_alive r.process.state)) [ inl e ↦ rw e (holds true) | inr e ↦ rw e same ]
of_operated P r same holds ends again verbs.Start =
    cond_both r.process.held _ r.process (λ p. P false (record r { process = p })) (λ e. holds false) (λ e. same)
of_operated P r same holds ends again verbs.Terminate =
    elim (cases_Bool (is_alive r.process.state)) [ inl e ↦ rw e (ends e) | inr e ↦ rw e same ]
of_operated P r same holds ends again verbs.Restart = again

-- what holds of all that drivers do to a process holds of what is its own after such an event
pub of_answer : (P : Own → Own → Type 0) → OfEachService P → (settings : Settings) (event : Event) (r : Record)
    → IsAnswer event → P r.own (apply settings event r).own
unfolding apply
of_answer P each settings (Turn time) r is = absurd (cc)
of_answer P each settings (Alarmed now) r is = each.alarmed now r.own
of_answer P each settings (Edge button pressed) r is = each.edged button pressed r.own
of_answer P each settings Taken r is = each.taken r.own
of_answer P each settings WriteDone r is = each.write_done r.own
of_answer P each settings (Input bytes) r is = each.input bytes r.own
of_answer P each settings (Word word) r is = each.drawn (Some word) r.own
of_answer P each settings NoWord r is = each.drawn None r.own
of_answer P each settings (Stored moved) r is = each.stored _ _ _ r.own
of_answer P each settings (Act verb) r is = absurd (cc)

-- of its record it changes nothing else but the storage, and which buttons are pressed as far as it was told
pub answer_changes : (settings : Settings) (event : Event) (r : Record) → IsAnswer event
    → let s = apply settings event r in s ≡ record r { own = s.own; storage = s.storage; pressed = s.pressed }
unfolding apply
answer_changes settings (Turn time) r is = absurd (cc)
answer_changes settings (Act verb) r is = absurd (cc)
answer_changes settings event r is = refl

sent_is_answer : (completed : Bool) → IsAnswer (cond completed WriteDone Taken)
sent_is_answer true = refl
sent_is_answer false = refl

drawn_is_answer : (drawn : Option ℕ) → IsAnswer (drawn_event drawn)
drawn_is_answer None = refl
drawn_is_answer (Some word) = refl

-- what holds of each answer that a device may give, of an edge, and of an operator's act, holds of what a device does
pub of_answers : (w : World) (P : Stepped → Type 0) → P (unmade w) → ((devices : Devices) → P (quiet w devices))
    → ((button : ℕ) (pressed : Bool) (devices : Devices) → P (edge_done w button pressed devices))
    → ((slot : ℕ) (r : Record) → slice_get w.records slot ≡ Some r → (a : DeviceAnswer) → IsAnswer a.answer.event
    → P (one_answered w slot r a))
    → ((verb : Verb) (devices : Devices) (slot : ℕ) (r : Record) → slice_get w.records slot ≡ Some r
    → P (one_answered w slot r (operating verb devices slot r)))
    → (device : Dev) → P (done w (device_step_of w device))
of_answers w P none quietly edges each acts device =
    of_device w P (record {
      none = none;
      arrives = λ bytes rest. quietly (with_arrived w.devices bytes rest);
      edges = λ button pressed rest. edges button pressed (with_rest w.devices rest);
      nobody = λ rest. quietly (with_rest w.devices rest);
      acts = λ verb rest. acts verb (with_rest w.devices rest);
      alarms = λ slot r first is. each slot r is (alarmed w.settings w.clock.time w.devices) refl;
      sends = λ slot r first is.
          each slot r is (transmitting (lane_in w) w.clock.time w.devices slot r) (sent_is_answer _);
      receives = λ slot r first is. each slot r is (receive_step (lane_in w) w.devices slot r) refl;
      draws = λ slot r first is. each slot r is (random_step (lane_in w) w.devices slot r) (drawn_is_answer _);
      stores = λ slot r first is. each slot r is (storing (lane_in w) w.devices slot r) refl;
    }) device

-- what is told is no turn
abbrev pub TellsNoTurn : (ℕ → Option Answer) → Type 0
TellsNoTurn told = (slot : ℕ) (a : Answer) → told slot ≡ Some a → is_turn a.event ≡ false

-- what one process is told is that alone
one_told : (P : Event → Type 0) (slot : ℕ) (a : DeviceAnswer) → P a.answer.event → (other : ℕ) (b : Answer)
    → (answering slot a).told other ≡ Some b → P b.event
one_told P slot a is other b told = rw (cond_some (other == slot) a.answer b told).1 at is

-- each device that lets nothing come in tells answers alone
abbrev pub AnswersOnly : (ℕ → Option Answer) → Type 0
AnswersOnly told = (slot : ℕ) (a : Answer) → told slot ≡ Some a → IsAnswer a.event

serving_only : (w : World) (answer : ℕ → Record → DeviceAnswer)
    → ((slot : ℕ) (r : Record) → IsAnswer (answer slot r).answer.event) → (served : Option ℕ)
    → IfSome (serving w.records answer served) (λ deed. AnswersOnly deed.told)
serving_only w answer each None = tt
serving_only w answer each (Some slot) =
    elim (cases_Option (slice_get w.records slot))
    [ inl none ↦ rw none tt | inr is ↦ rw is.1 (one_told IsAnswer slot (answer slot is.0) (each slot is.0)) ]

pub only_answers : (w : World) (device : Dev) → device ≢ dev.Event
    → IfSome (device_step_of w device) (λ deed. AnswersOnly deed.told)
only_answers w dev.Event apart = absurd (apart refl)
only_answers w dev.Alarm apart =
    serving_only w (λ slot r. alarmed w.settings w.clock.time w.devices) (λ slot r. refl) (served_by w dev.Alarm)
only_answers w dev.Uart apart =
    serving_only w (transmitting (lane_in w) w.clock.time w.devices) (λ slot r. sent_is_answer _) (served_by w dev.Uart)
only_answers w dev.Receive apart =
    serving_only w (receive_step (lane_in w) w.devices) (λ slot r. refl) (served_by w dev.Receive)
only_answers w dev.Random apart =
    serving_only w (random_step (lane_in w) w.devices) (λ slot r. drawn_is_answer _) (served_by w dev.Random)
only_answers w dev.Store apart = serving_only w (storing (lane_in w) w.devices) (λ slot r. refl) (served_by w dev.Store)

-- so it is with all that devices tell: it is no turn
pub device_answers : (w : World) (device : Dev)
    → IfSome (device_step_of w device) (λ deed. TellsNoTurn deed.told)
device_answers w dev.Event = arrived_answers w.devices.arrivals
  where
    arrived_answers : (arrivals : List Arrival)
        → IfSome (arrived w.records w.devices arrivals) (λ deed. TellsNoTurn deed.told)
    arrived_answers [] = tt
    arrived_answers (arrival ∷ rest) =
        of_coming (λ deed. TellsNoTurn deed.told) w (with_rest w.devices rest) (record {
          bytes = λ bytes slot a told. absurd (cc);
          edges = λ button pressed slot a told.
              ap (λ (x : Answer). is_turn x.event) (edge_answer button pressed (slice_get w.records slot) a told);
          nobody = λ slot a told. absurd (cc);
          acts = λ verb slot r is.
              one_told (λ event. is_turn event ≡ false) slot (operating verb (with_rest w.devices rest) slot r) refl;
        }) arrival.kind
device_answers w device =
    IfSome_then (device_step_of w device) (only_answers w device (λ e. absurd (cc)))
    (λ deed only slot a told. answer_no_turn a.event (only slot a told))

-- what holds of each thing that a step may do to the process in a slot: of whether an operator's act ended a life of
-- it, of what its turn tells, if it has one, and of its record afterwards
pub record OfEachStep (w : World) (slot : ℕ) (P : Bool → List TurnTrace → Option Record → Type 0) : Type 0 where
  pub stays : P false [] (slice_get w.records slot)
  pub turn : (r : Record) → slice_get w.records slot ≡ Some r → r.process.held ≡ false →
      let t = turned w.settings w.clock.time r in
      P false (t.told ∷ []) (Some t.after)
  pub answer : (r : Record) → slice_get w.records slot ≡ Some r → (event : Event) → IsAnswer event
      → P false [] (Some (apply w.settings event r))
  pub act : (r : Record) → slice_get w.records slot ≡ Some r → (verb : Verb)
      → P (ends_by verb r.process) [] (Some (operated verb r))

pub or_false : (b : Bool) → (b || false) ≡ b
or_false true = refl
or_false false = refl

-- what a device's step tells a process ends a life of it as that event does
pub ended_told : (w : World) (slot : ℕ) (deed : DeviceStep) (r : Record) (a :
    Answer) → slice_get w.records slot ≡ Some r
    → deed.told slot ≡ Some a
    → list_any (is_end (slice_get w.records slot)) (flat_map (happened slot) (done w (Some deed)).labels)
    ≡ is_end (Some r) a.event
ended_told w slot deed r a is tells =
    rw (heard_at deed.told w.records slot, is, tells, eq-eqb slot slot refl) (or_false (is_end (Some r) a.event))

module _ (w : World) (slot : ℕ) (P : Bool → List TurnTrace → Option Record → Type 0) (each : OfEachStep w slot P) where
  -- whether one of the events of the slot's process ended a life of it
  abbrev ended_by : List Event → Bool
  ended_by es = list_any (is_end (slice_get w.records slot)) es

  of_ran : (other : ℕ) (o : Option Record) → slice_get w.records other ≡ o → can_run o ≡ true
      → P (ended_by (flat_map (happened slot) (ran w other o).labels))
      (flat_map (turns_in slot) (ran w other o).labels) (slice_get (ran w other o).after.records slot)
  unfolding apply
  of_ran other None is may = each.stays
  of_ran other (Some r) is may =
      elim (cases_Bool (other == slot)) [
        | inl e ↦
            let t = turned w.settings w.clock.time r in
            let same : slice_get w.records slot ≡ Some r = rw (← eqb-true other slot e) is in
            let own : slice_get (ran w other (Some r)).after.records slot ≡ Some t.after =
            rw (← eqb-true other slot e) (ran-own w other (Some r) is) in
            rw (e, own) (each.turn r same (free_where_may r may))
        | inr e ↦ rw (e, ran-other w other slot (Some r) (λ same. eqb-false other slot e (sym same))) each.stays
      ]

  -- what a device's step tells of turns and of acts, and leaves of the process
  of_deed : (o : Option DeviceStep) → IfSome o (λ deed. TellsNoTurn deed.told)
      → P (ended_by (flat_map (happened slot) (done w o).labels)) (flat_map (turns_in slot) (done w o).labels)
      (slice_get (done w o).after.records slot)
  unfolding apply
  of_deed None answers = each.stays
  of_deed (Some deed) answers =
      rw (told_at w.settings deed.told w.records slot, heard_at deed.told w.records slot, turns)
      (elim (cases_Option (slice_get w.records slot)) [
        | inl none ↦ rw none (rw none at each.stays)
        | inr is ↦ let r = is.0 in elim (cases_Option (deed.told slot)) [
          | inl none ↦ rw (is.1, none) (rw is.1 at each.stays)
          | inr tells ↦ let a = tells.0 in
              rw (is.1, tells.1, eq-eqb slot slot refl, answers slot a tells.1, or_false)
              (of_told (λ event. P (is_end (Some r) event) [] (Some (apply w.settings event r)))
              (λ event is_answer. rw (answer_no_end (Some r) event is_answer) (each.answer r is.1 event is_answer))
              (λ verb. each.act r is.1 verb) a.event (answers slot a tells.1))
        ]
      ])
    where
      turns : flat_map (turns_in slot) (labels_told deed.told 0 w.records)
          ≡ flat_map (turns_in slot) (labels_of slot (told_there deed.told w.records slot slot))
      turns =
          labels_at (flat_map (turns_in slot)) (λ label tolds. turns_in slot label ++ tolds) (λ label ls. refl) slot
          (λ label tolds apart. rw (and_right (is_turn label.event) _ (ne_eqb label.slot slot apart))) deed.told
          w.records

  abbrev Does : Stepped → Type 0
  Does s =
      P (ended_by (flat_map (happened slot) s.labels)) (flat_map (turns_in slot) s.labels)
      (slice_get s.after.records slot)

  pub of_step : (choice : Choice)
      → P (is_ended_in slot w choice) (flat_map (turns_in slot) (labels w choice))
      (slice_get (after w choice).records slot)
  unfolding carried_out
  of_step (Run other) =
      of_stepped Does w (Run other) each.stays
      (λ ready. of_ran other (slice_get w.records other) refl (may_where_ready w other ready))
  of_step (Device device) =
      of_stepped Does w (Device device) each.stays
      (λ ready. of_deed (device_step_of w device) (device_answers w device))
  of_step (Pass ticks) = of_stepped Does w (Pass ticks) each.stays (λ ready. each.stays)
