-- Each edge of a button schedules one upcall for a process that is told of it, and no other step schedules one. No
-- driver schedules another's upcall, and the buttons' commands none (`DriversScheduleTheirOwn`); so it goes by what the
-- slot is told, and of edges it is told what comes in and changes its mask (`ServesBy`).
use Rattle.std.proofs.lemmas.Bool.{cases_Bool, cond_both}
use Rattle.kernel_model.proofs.Places.{same_some}
use Rattle.std.proofs.Common.{inl, inr}
use Rattle.std.proofs.Common.{◌≡◌, ◌≢◌, ◌⊎◌, inl, inr, ℕ, ◌+◌, ◌==◌, ◌&&◌, Bool, true, false, cond, List, [], ◌∷◌}
use Rattle.std.proofs.Common.{◌++◌, filter, slice_get, Option, None, Some, IfSome, refl, sym, ap, subst, ◌∙◌, arith}
use Rattle.std.proofs.Common.{eqb-true, eq-eqb}
use Rattle.std.specs.Prelude.{is_none, option_and_then, unwrap_or}
use Rattle.tk_base.specs.declared.process.Verb.{Verb}
use Rattle.std.specs.List.{cons_option}
use Rattle.std.specs.Option.{option_map}
use Rattle.std.proofs.lemmas.Bool.{false≢true}
use Rattle.std.proofs.lemmas.Bool.Decides.{nat_tests}
use Rattle.tk_base.specs.declared.process.Choice.{Choice}
use Rattle.tk_base.specs.declared.process.Choice.TheVariants.{Run, Device, Pass}
use Rattle.tk_base.specs.declared.process.Dev.{Dev}
use Rattle.tk_base.specs.declared.process.Dev.TheVariants as dev
use Rattle.tk_base.specs.declared.upcall.Upcall.{Upcall as Scheduled}
use Rattle.tk_base.specs.declared.upcall.Wait.TheVariants.{Given}
use Rattle.rv32_model.specs.Laws.{CallsAreOfEcall}
use Rattle.script_text.specs.Settings.{ScriptEvent as Arrival, EventKind}
use Rattle.script_text.specs.Settings as script
use Rattle.board_devices.specs.Arriving.{change_by, differs}
use Rattle.upcall_queue.specs.Pending.{awaits, has_room}
use Rattle.grant_values.specs.declared.drivers.Driver.TheVariants.{Buttons}
use Rattle.grant_values.specs.Drivers.{drivers}
use Rattle.process_model.specs.Own.{Own}
use Rattle.process_model.specs.Served.{ScheduledUpcall, upcall_of}
use Rattle.process_record.specs.declared.emit.CallMade.{CallMade}
use Rattle.driver_model.specs.Alarm as alarm
use Rattle.driver_model.specs.Buttons.{buttons, edged, is_told}
use Rattle.driver_model.specs.Console as console
use Rattle.driver_model.specs.Random as random
use Rattle.driver_model.specs.Storage as storage
use Rattle.driver_model.specs.Drivers.{CommandContext, CommandHandler, handler_by, handler_of}
use Rattle.driver_model.specs.Laws.{RefusedByAnyDriver}
use Rattle.driver_model.specs.Steps.{DriverStep, own_after}
use Rattle.driver_model.specs.Upcalls.{DriversScheduleTheirOwn, IsOfDriver}
use Rattle.kernel_model.specs.Record.{Record}
use Rattle.kernel_model.specs.declared.settings.Settings.{Settings}
use Rattle.kernel_model.specs.Edges.{EachIsScheduledOnce, IsScheduledOnce, IsThenScheduled, SchedulesEdge}
use Rattle.kernel_model.specs.Edges.{StepsServeEdges, arrival_in, edge_in, first_for}
use Rattle.kernel_model.specs.Named.{is_of_edge}
use Rattle.kernel_model.specs.Parts.{if_told}
use Rattle.kernel_model.specs.Named.{edge_upcall}
use Rattle.kernel_model.specs.Edges.{pressed_after_all, told_edge_in}
use Rattle.kernel_model.specs.Named.{pressed_by}
use Rattle.kernel_model.specs.Laws.{OnlyItsOwnEvents, answer_by}
use Rattle.kernel_model.specs.Turn.{Event, Turn, Alarmed, Edge, Taken, WriteDone, Input, Word, NoWord, Stored}
use Rattle.kernel_model.specs.Turn.{Act, apply, surroundings, turned}
use Rattle.kernel_model.specs.World.{Answer, DeviceAnswer, DeviceStep, Devices, World, after}
use Rattle.kernel_model.specs.Parts.{acting_on, alarmed}
use Rattle.kernel_model.specs.World.{answering, arrived}
use Rattle.kernel_model.specs.Parts.{drawn_event}
use Rattle.kernel_model.specs.World.{coming_in, edge_told, is_ready, operating, random_step, receive_step}
use Rattle.kernel_model.specs.Parts.{happens}
use Rattle.kernel_model.specs.World.{lane_in, serving, storing, telling_nobody, transmitting}
use Rattle.kernel_model.specs.Parts.{served_by}
use Rattle.kernel_model.specs.Parts.{slot_of_name}
use Rattle.kernel_laws.specs.Scheduled.{answer_schedules, answer_step, call_schedules}
use Rattle.kernel_laws.specs.Scheduled.{event_schedules, scheduled_by}
use Rattle.kernel_laws.specs.Scheduled.{upcall_told}
use Rattle.kernel_model.proofs.Steps.{IsAnswer}
use Rattle.kernel_laws.proofs.Scheduled.{act_leaves, all_remain, then_scheduled, told_inbox, turn_leaves}

-- an upcall is of another driver than the buttons
abbrev pub OfAnother : Option Scheduled → Type 0
OfAnother upcall = IfSome upcall (λ u. u.driver ≢ buttons)

-- so is one that is of a driver which is another
by_driver : (driver : ℕ) → driver ≢ buttons → (step : DriverStep) → IsOfDriver driver step.schedules
    → OfAnother (scheduled_by step)
by_driver driver apart step is =
    elim step.schedules as (λ (o : Option ScheduledUpcall). IsOfDriver driver o
    → OfAnother (option_map (λ u. upcall_of u.driver u.number u.args step.own) o)) [
      | None ↦ λ of_it. tt
      | Some u ↦ λ of_it same. apart (sym of_it ∙ same)
    ] is

none_scheduled : (step : DriverStep) → step.schedules ≡ None → OfAnother (scheduled_by step)
none_scheduled step none = rw none tt

-- an event that is no edge
abbrev pub is_edge : Event → Bool
is_edge (Edge button pressed) = true
is_edge other = false

module _ (law : DriversScheduleTheirOwn) where
  -- a command to any driver
  of_taker : (driver : ℕ) (taker : CommandHandler) → handler_of driver ≡ Some taker → (around : CommandContext)
      (number a2 a3 : ℕ) (own : Own) → OfAnother (scheduled_by (taker around number a2 a3 own).step)
  unfolding drivers
  of_taker driver taker is around number a2 a3 own =
      elim (cases_Bool (driver == buttons)) [
        | inl e ↦
            rw (← same_some (handler_by Buttons) taker (ap handler_of (sym (eqb-true driver buttons e)) ∙ is))
            (none_scheduled (handler_by Buttons around number a2 a3 own).step
            (law.buttons around.buttons around.pressed number a2 own))
        | inr e ↦
            by_driver driver (λ same. false≢true (sym e ∙ eq-eqb driver buttons same))
            (taker around number a2 a3 own).step (law.command driver taker is around number a2 a3 own)
      ]

  of_made : (around : CommandContext) (own : Own) (o : Option CallMade)
      → OfAnother (option_and_then (call_schedules around own) o)
  of_made around own None = tt
  of_made around own (Some made) =
      cond_both (made.class == 2 && is_none made.rule) _ None OfAnother
      (λ e. by_handler made.args _ _ _ _ _ refl) (λ e. tt)
    where
      by_handler : (args : List ℕ) (driver number a2 a3 : ℕ) (o : Option CommandHandler) → handler_of driver ≡ o
          → OfAnother (option_and_then (λ taker. scheduled_by (taker around number a2 a3 own).step) o)
      by_handler args driver number a2 a3 None e = tt
      by_handler args driver number a2 a3 (Some taker) e = of_taker driver taker e around number a2 a3 own

  -- what happens to a process other than by an edge
  pub others : (settings : Settings) (event : Event) (r : Record) → is_edge event ≡ false
      → OfAnother (event_schedules settings event r)
  unfolding answer_step
  others settings (Turn time) r is = of_made (surroundings settings time r) r.own (turned settings time r).told.call
  others settings (Alarmed now) r is =
      by_driver alarm.alarm_driver (λ e. cc) (answer_step (Alarmed now) r) (law.alarmed now r.own)
  others settings (Edge button pressed) r is = absurd (false≢true (sym is))
  others settings Taken r is =
      by_driver console.console (λ e. cc) (answer_step Taken r) (law.taken r.own)
  others settings WriteDone r is =
      by_driver console.console (λ e. cc) (answer_step WriteDone r) (law.write_done r.own)
  others settings (Input bytes) r is =
      by_driver console.console (λ e. cc) (answer_step (Input bytes) r) (law.input bytes r.own)
  others settings (Word word) r is =
      by_driver random.random (λ e. cc) (answer_step (Word word) r) (law.drawn (Some word) r.own)
  others settings NoWord r is =
      by_driver random.random (λ e. cc) (answer_step NoWord r) (law.drawn None r.own)
  others settings (Stored moved) r is =
      by_driver storage.storage (λ e. cc) (answer_step (Stored moved) r) (law.stored _ _ _ r.own)
  others settings (Act verb) r is = tt

-- what happens to a process leaves what remains of what was scheduled, and then what it schedules
answer_then : (settings : Settings) (event : Event) (r : Record) → IsAnswer event
    → IsThenScheduled (upcall_told event r) r.own.inbox (apply settings event r).own.inbox
answer_then settings event r is =
    then_scheduled _ _ r.own.inbox _ (all_remain r.own.inbox) (told_inbox settings event r is)

-- an operator's act schedules nothing
act_then : (settings : Settings) (verb : Verb) (r : Record)
    → IsThenScheduled (event_schedules settings (Act verb) r) r.own.inbox (apply settings (Act verb) r).own.inbox
unfolding apply answer_step
act_then settings verb r = (act_leaves verb r).leaves

module _ (refuse : RefusedByAnyDriver) (of_ecall : CallsAreOfEcall) where
  pub event_then : (settings : Settings) (event : Event) (r : Record)
      → IsThenScheduled (event_schedules settings event r) r.own.inbox (apply settings event r).own.inbox
  unfolding apply
  event_then settings (Turn time) r = (turn_leaves refuse of_ecall settings time r).leaves
  event_then settings (Act verb) r = act_then settings verb r
  event_then settings event r = answer_then settings event r refl

  -- of which buttons are pressed a process learns by edges alone
  pub event_pressed : (settings : Settings) (event : Event) (r : Record) → is_edge event ≡ false
      → (apply settings event r).pressed ≡ r.pressed
  unfolding apply
  event_pressed settings (Turn time) r is = (turn_leaves refuse of_ecall settings time r).pressed
  event_pressed settings (Act verb) r is = (act_leaves verb r).pressed
  event_pressed settings (Edge button pressed) r is = absurd (false≢true (sym is))
  event_pressed settings event r is = refl

-- what a device tells a process that is no edge
abbrev NoEdge : Option Answer → Type 0
NoEdge told = IfSome told (λ a. is_edge a.event ≡ false)

serving_no_edge : (w : World) (slot : ℕ) (answer : ℕ → Record → DeviceAnswer)
    → ((at : ℕ) (r : Record) → is_edge (answer at r).answer.event ≡ false) → (served : Option ℕ)
    → NoEdge (option_and_then (λ (deed : DeviceStep). deed.told slot) (serving w.records answer served))
serving_no_edge w slot answer each None = tt
serving_no_edge w slot answer each (Some at) =
    elim (slice_get w.records at) as (λ o. NoEdge (option_and_then (λ (deed : DeviceStep). deed.told slot)
    (option_map (λ (r : Record). answering at (answer at r)) o))) [
      | None ↦ tt
      | Some r ↦ cond_both (slot == at) _ _ NoEdge (λ e. each at r) (λ e. tt)
    ]

acting_no_edge : (verb : Verb) (rs : List Record) (d : Devices) (slot : ℕ) (o : Option ℕ)
    → NoEdge ((acting_on verb rs d o).told slot)
acting_no_edge verb rs d slot None = tt
acting_no_edge verb rs d slot (Some at) =
    elim (slice_get rs at) as (λ o. NoEdge ((unwrap_or
    (option_map (λ (r : Record). answering at (operating verb d at r)) o) (telling_nobody d)).told slot)) [
      | None ↦ tt
      | Some r ↦ cond_both (slot == at) _ _ NoEdge (λ e. refl) (λ e. tt)
    ]

sent_no_edge : (completed : Bool) → is_edge (cond completed WriteDone Taken) ≡ false
sent_no_edge true = refl
sent_no_edge false = refl

drawn_no_edge : (drawn : Option ℕ) → is_edge (drawn_event drawn) ≡ false
drawn_no_edge None = refl
drawn_no_edge (Some word) = refl

-- of upcalls those of edges, where one more is scheduled
abbrev pub FiltersTo : Option Scheduled → Option Scheduled → Type 0
FiltersTo o edge =
    (us : List Scheduled) → filter is_of_edge (cons_option o us) ≡ cons_option edge (filter is_of_edge us)

filters_another : (o : Option Scheduled) → OfAnother o → FiltersTo o None
filters_another None other us = refl
filters_another (Some u) other us =
    elim (cases_Bool (u.driver == buttons)) [
      | inl e ↦ absurd (other (eqb-true u.driver buttons e))
      | inr e ↦ rw e
    ]

-- the edge that comes in for a process, and that of which it is told
abbrev edge_by : Option Arrival → Record → Option (ℕ × Bool)
edge_by arrival r = option_and_then (λ a. change_by a.kind r.pressed) arrival

abbrev told_by : Option Arrival → Record → Option (ℕ × Bool)
told_by arrival r = option_and_then (if_told r.own) (edge_by arrival r)

-- what a step is for a process that it tells something, or nothing, by what comes in by it
pub record ServesBy (settings : Settings) (arrival : Option Arrival) (r : Record) (told : Option Answer) : Type 0 where
  pub schedules : SchedulesEdge (told_by arrival r) r.own (happens settings told r).own
  pub knows : (happens settings told r).pressed ≡ pressed_by (edge_by arrival r) r.pressed
  pub filters : FiltersTo (answer_schedules settings told r) (option_map (edge_upcall r.own) (told_by arrival r))

-- the same by the edge
record ServesFor (settings : Settings) (edge : Option (ℕ × Bool)) (r : Record) (told : Option Answer) : Type 0 where
  schedules : SchedulesEdge (option_and_then (if_told r.own) edge) r.own (happens settings told r).own
  knows : (happens settings told r).pressed ≡ pressed_by edge r.pressed
  filters : FiltersTo (answer_schedules settings told r)
      (option_map (edge_upcall r.own) (option_and_then (if_told r.own) edge))

-- no upcall is scheduled
stays : (own : Own) → SchedulesEdge None own own
stays own = (None, tt, then_scheduled None _ own.inbox _ (all_remain own.inbox) refl)

serves_none : (settings : Settings) (r : Record) → ServesFor settings None r None
serves_none settings r = record { schedules = stays r.own; knows = refl; filters = λ us. refl }

-- an edge of which a process is told, or not
edge_schedules : (button : ℕ) (state : Bool) (own : Own)
    → SchedulesEdge (if_told own (button, state)) own (own_after (edged button state own))
unfolding edged
edge_schedules button state own =
    elim (cases_Bool (is_told button own)) [
      | inl e ↦ rw e refl
      | inr e ↦ rw e (stays own)
    ]

edge_filters : (button : ℕ) (state : Bool) (own : Own)
    → FiltersTo (scheduled_by (edged button state own)) (option_map (edge_upcall own) (if_told own (button, state)))
unfolding edged
edge_filters button state own us =
    elim (cases_Bool (is_told button own)) [
      | inl e ↦ rw e refl
      | inr e ↦ rw e refl
    ]

-- an edge comes in, of which a process hears where the button had another state for it
serves_edge : (settings : Settings) (button : ℕ) (state : Bool) (r : Record)
    → ServesFor settings (cond (differs r.pressed button state) (Some (button, state)) None) r
    (edge_told button state r)
unfolding apply answer_step
serves_edge settings button state r =
    elim (cases_Bool (differs r.pressed button state)) [
      | inl e ↦ rw e (record {
        schedules = edge_schedules button state r.own;
        knows = refl;
        filters = edge_filters button state r.own;
      })
      | inr e ↦ rw e (serves_none settings r)
    ]

module _ (law : DriversScheduleTheirOwn) (refuse : RefusedByAnyDriver) (of_ecall : CallsAreOfEcall) where
  -- something happens to it that is no edge
  serves_event : (settings : Settings) (told : Option Answer) (r : Record) → NoEdge told
      → ServesFor settings None r told
  serves_event settings None r none = serves_none settings r
  serves_event settings (Some a) r none =
      let other = others law settings a.event r none in
      record {
        schedules = (event_schedules settings a.event r, other, event_then refuse of_ecall settings a.event r);
        knows = event_pressed refuse of_ecall settings a.event r none;
        filters = filters_another (event_schedules settings a.event r) other;
      }

  module _ (w : World) (slot : ℕ) (r : Record) (there : slice_get w.records slot ≡ Some r) where
    of_arrivals : (arrivals : List Arrival)
        → ServesFor w.settings (edge_by (slice_get arrivals 0) r) r
        (option_and_then (λ (deed : DeviceStep). deed.told slot) (arrived w.records w.devices arrivals))
    of_arrivals [] = serves_none w.settings r
    of_arrivals (arrival ∷ rest) = by_kind arrival.kind
      where
        by_edge : (button : ℕ) (state : Bool)
            → ServesFor w.settings (cond (differs r.pressed button state) (Some (button, state)) None) r
            (option_and_then (edge_told button state) (slice_get w.records slot))
        by_edge button state =
            rw there (serves_edge w.settings button state r)

        by_kind : (kind : EventKind)
            → ServesFor w.settings (change_by kind r.pressed) r
            ((coming_in kind w.records (record w.devices { arrivals = rest })).told slot)
        by_kind (script.Input bytes) = serves_none w.settings r
        by_kind (script.Press button) = by_edge button true
        by_kind (script.Release button) = by_edge button false
        by_kind (script.Act verb name) =
            serves_event w.settings _ r (acting_no_edge verb w.records (record w.devices { arrivals = rest }) slot
            (slot_of_name name w.records))

    of_device : (device : Dev) → ServesFor w.settings (edge_by (first_for (Device device) w.devices.arrivals) r) r
        (answer_by w (Device device) slot)
    of_device dev.Event = of_arrivals w.devices.arrivals
    of_device dev.Alarm =
        serves_event w.settings _ r (serving_no_edge w slot (λ at x. alarmed w.settings w.clock.time w.devices)
        (λ at x. refl) (served_by w dev.Alarm))
    of_device dev.Uart =
        serves_event w.settings _ r (serving_no_edge w slot (transmitting (lane_in w) w.clock.time w.devices)
        (λ at x. sent_no_edge _) (served_by w dev.Uart))
    of_device dev.Receive =
        serves_event w.settings _ r (serving_no_edge w slot (receive_step (lane_in w) w.devices) (λ at x. refl)
        (served_by w dev.Receive))
    of_device dev.Random =
        serves_event w.settings _ r (serving_no_edge w slot (random_step (lane_in w) w.devices) (λ at x. drawn_no_edge
        _) (served_by w dev.Random))
    of_device dev.Store =
        serves_event w.settings _ r (serving_no_edge w slot (storing (lane_in w) w.devices) (λ at x. refl)
        (served_by w dev.Store))

    of_choice : (choice : Choice) → ServesFor w.settings (edge_by (first_for choice w.devices.arrivals) r) r
        (answer_by w choice slot)
    of_choice (Run other) =
        serves_event w.settings _ r (cond_both (slot == other) _ _ NoEdge (λ e. refl) (λ e. tt))
    of_choice (Device device) = of_device device
    of_choice (Pass ticks) = serves_none w.settings r

    -- what a step tells it, if it is made
    abbrev told_in_step : Choice → Bool → Option Answer
    told_in_step choice ready = cond ready (answer_by w choice slot) None

    of_ready : (choice : Choice) (b : Bool)
        → ServesBy w.settings (cond b (first_for choice w.devices.arrivals) None) r (told_in_step choice b)
    of_ready choice true =
        let s = of_choice choice in record { schedules = s.schedules; knows = s.knows; filters = s.filters }
    of_ready choice false = record { schedules = stays r.own; knows = refl; filters = λ us. refl }

    pub step_serves : (choice : Choice)
        → ServesBy w.settings (arrival_in w choice) r (told_in_step choice (is_ready w choice))
    step_serves choice = of_ready choice (is_ready w choice)

  -- what the process in a slot is after a step, by what it is told
  pub step_happens : OnlyItsOwnEvents → (w : World) (slot : ℕ) (choice : Choice)
      → slice_get (after w choice).records slot
      ≡ option_map (happens w.settings (cond (is_ready w choice) (answer_by w choice slot) None))
      (slice_get w.records slot)
  step_happens only w slot choice =
      elim (cases_Bool (is_ready w choice)) [
        | inl e ↦ rw e (only.each w choice slot e)
        | inr e ↦
            rw e (ap (λ (v : World). slice_get v.records slot) (only.unready w choice e).0
            ∙ unchanged (slice_get w.records slot))
      ]
    where
      unchanged : (o : Option Record) → o ≡ option_map (happens w.settings None) o
      unchanged None = refl
      unchanged (Some r) = refl

  -- it leaves what remains of what was scheduled for it, and schedules what it does
  pub answer_leaves : (settings : Settings) (told : Option Answer) (r : Record)
      → IsThenScheduled (answer_schedules settings told r) r.own.inbox (happens settings told r).own.inbox
  answer_leaves settings None r = then_scheduled None _ r.own.inbox _ (all_remain r.own.inbox) refl
  answer_leaves settings (Some a) r = event_then refuse of_ecall settings a.event r

  pub same_record : (o : Option Record) (x y : Record) → o ≡ Some x → o ≡ Some y → x ≡ y
  same_record o x y e f = let both : Some x ≡ Some y = sym e ∙ f in cc

  pub steps_serve_edges : OnlyItsOwnEvents → StepsServeEdges
  steps_serve_edges only w choice slot r s there left =
      let h = step_serves w slot r there choice in
      let told = cond (is_ready w choice) (answer_by w choice slot) None in
      let is = same_record (slice_get (after w choice).records slot) (happens w.settings told r) s
      (step_happens only w slot choice ∙ ap (option_map (happens w.settings told)) there) left in
      record {
        schedules = subst (λ (x : Record). SchedulesEdge (told_edge_in w choice r) r.own x.own) is h.schedules;
        knows = subst (λ (x : Record). x.pressed ≡ pressed_by (edge_in w choice r) r.pressed) is h.knows;
      }

-- which buttons are pressed after what comes in by a step, and then after more
pub pressed_on : (arrival : Option Arrival) (rest : List Arrival) (mask : ℕ)
    → pressed_after_all rest (pressed_by (option_and_then (λ a. change_by a.kind mask) arrival) mask)
    ≡ pressed_after_all (cons_option arrival rest) mask
pressed_on None rest mask = refl
pressed_on (Some arrival) rest mask = refl

-- an upcall that is scheduled, once
pub each_is_scheduled_once : EachIsScheduledOnce
each_is_scheduled_once u before counts =
    by_test_of (awaits before.wait u) (u.function == 0) (has_room before.pending) refl refl refl counts
  where
    by_test_of : (awaited null room : Bool) → awaits before.wait u ≡ awaited → (u.function == 0) ≡ null
        → has_room before.pending ≡ room → ((awaits before.wait u ≡ true) ⊎ (u.function ≢ 0))
        → IsScheduledOnce u before (cond awaited (record before { wait = Given u.args }) (cond null before
        (cond room (record before { pending = before.pending ++ u ∷ [] })
        (record before { dropped = before.dropped + 1 }))))
    by_test_of true null room e f g counts = inl (e, refl)
    by_test_of false true room e f g (inl waits) = absurd (false≢true (sym e ∙ waits))
    by_test_of false true room e f g (inr some) = absurd (some (eqb-true u.function 0 f))
    by_test_of false false true e f g counts =
        inr (inl ((e, λ null. false≢true (sym f ∙ eq-eqb u.function 0 null)), grind (arith, nat_tests), refl))
    by_test_of false false false e f g counts =
        inr (inr ((e, λ null. false≢true (sym f ∙ eq-eqb u.function 0 null)), grind (arith, nat_tests), refl))
