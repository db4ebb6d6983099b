-- A device's step that told one process something (`DeviceTold`) makes the step of the world that the board shows, and
-- leaves a board. One resident changed, so layouts, losses and alarms of all others stay, and who was answered stands
-- in its line as long as it has a request. A device that may not act is refused, and nothing changes.
use Rattle.board_devices.specs.Buttons.{ButtonsView}
use Rattle.board_devices.specs.Clock.{clock_at}
use Rattle.alarm_capsule.proofs.KeptTimes.{others_tell}
use Rattle.alarm_capsule.specs.Times.{OthersTell}
use Rattle.std.proofs.Common.{◌≡◌, ℕ, zero, suc, ◌+◌, ◌==◌, ◌<◌, Bool, true, false, cond, not, ◌&&◌, ◌||◌, Option}
use Rattle.std.proofs.Common.{nat_lt}
use Rattle.std.proofs.Common.{if◌then◌else◌, List, [], ◌∷◌, ◌++◌, length, map, slice_get, slice_set, slice_index_or}
use Rattle.std.proofs.Common.{All, None, Some, Ok, Err, IsTrue, refl, sym, ap, ap₂, subst, ◌∙◌, arith, eq-eqb}
use Rattle.std.specs.List.{zip}
use Rattle.std.proofs.lemmas.Bool.{false≢true}
use Rattle.std.proofs.lemmas.Bool.Decides.{nat_tests}
use Rattle.std.proofs.lemmas.List.{append-nil, length-set, set-get_or}
use Rattle.std.proofs.lemmas.List.Elements.{All-head, All-set}
use Rattle.std.proofs.Math.Seq.{map-set_same}
use Rattle.std.proofs.lemmas.Option.{slice_get-get_or, get_or_from_slice_get}
use Rattle.tk_base.specs.declared.limits.TheConstants.{STEP_LIMIT}
use Rattle.tk_base.specs.declared.process.Choice.{Choice}
use Rattle.tk_base.specs.declared.process.Choice.TheVariants.{Device}
use Rattle.tk_base.specs.declared.process.Dev.{Dev}
use Rattle.tk_base.specs.declared.process.ProcessId.{ProcessId}
use Rattle.board_memory.specs.Registers.{Protect}
use Rattle.process_layout.specs.Bounds.{Bounds}
use Rattle.process_model.specs.Own.{Own}
use Rattle.process_record.specs.Emit.{nothing}
use Rattle.process_record.specs.declared.emit.Emit.{Emit}
use Rattle.process_record.specs.declared.process.Process.{Process}
use Rattle.driver_model.specs.Answers.{Remains}
use Rattle.driver_model.specs.Commands.{Leaves, QueueName, is_same, order_of}
use Rattle.driver_model.specs.Lines.{IsWithin, has_waiting}
use Rattle.driver_requests.specs.Waiting.{waiting_still, without}
use Rattle.grant_enter.specs.Homes.{Homes, ChangesOnly, nobody, own_of}
use Rattle.kernel_model.specs.Record.{Record}
use Rattle.tk_base.specs.declared.process.Verb.{Verb}
use Rattle.kernel_model.specs.Turn.{Act, Event}
use Rattle.kernel_model.specs.Turn.{is_act, is_turn}
use Rattle.kernel_model.specs.World.{Answer, Label, Stepped, World, answer_label, can_act, carried_out, done}
use Rattle.kernel_model.specs.World.{device_step_of, is_ready, may_be_made}
use Rattle.kernel_model.proofs.Labels.{answer_labels, none_in}
use Rattle.kernel_model.proofs.Steps.{IsAnswer}
use Rattle.kernel_model.specs.Shown.{act_shown, shown_by}
use Rattle.kernel_model.specs.Laws.{DevicesAnswerOne, one_answered}
use Rattle.board_core.specs.declared.state.BoardState.{BoardState}
use Rattle.board_drivers.specs.declared.drivers.Drivers.{Drivers}
use Rattle.board_turns.specs.declared.guard.ActivePmp.{ActivePmp}
use Rattle.board_drivers.specs.Calm.{AlarmsTell, IsCalm}
use Rattle.board_drivers.specs.Driven.{AreDriven, IsQueueOf, devices_of, ids_waiting_in}
use Rattle.board_turns.specs.Guards.{GuardsOnly}
use Rattle.board_core.specs.Makes.{MakesStep, showing, shown_printed}
use Rattle.kernel_calls.specs.Residents.{IsResident, record_of}
use Rattle.board_turns.specs.Turning.{ChangesSlot}
use Rattle.board_core.specs.Shows.{IsBoard, recorded, world_of}
use Rattle.board_drivers.specs.Tells.{DeviceTold, is_alarm, tells_one}
use Rattle.kernel_alarms.specs.Acting.{AnswersLeaveAlarms, HasSameAlarm}
use Rattle.board_core.proofs.SameAlarms.{same_alarms_tell}
use Rattle.board_turns.specs.ReadySlots.{TurnsTell}
use Rattle.board_drivers.proofs.Lines.{line_after}
use Rattle.board_core.proofs.Boards.{and_false, has_storage}
use Rattle.board_core.proofs.Changes.{a_step_later, as_many_owns, changed_records, found, lost_before, still_lost}
use Rattle.board_drivers.proofs.Records.{bytes_of}
use Rattle.board_core.proofs.Changes.{still_seated, with_step}
use Rattle.board_core.proofs.Ready.{is_carried_out}
use Rattle.board_drivers.proofs.Records.{seated_there}
use Rattle.board_core.specs.PartsOf.{board_parts}

-- each slot's layout stays, so whom the registers protect they protect still
pub still_guards : (guard : ActivePmp) (home home_after : Homes) (slot : ℕ) → ChangesOnly slot home home_after
    → (own_of home_after slot).layout ≡ (own_of home slot).layout → GuardsOnly guard home → GuardsOnly guard home_after
still_guards guard home home_after slot only same guards = record {
  protects = λ s is. subst (Protect guard.pmp) (sym (layout_of s)) (guards.protects s is);
}
  where
    layouts : map (λ (o : Own). o.layout) home_after.owns ≡ map (λ (o : Own). o.layout) home.owns
    layouts = ap (λ (h : Homes). map (λ (o : Own). o.layout) h.owns) only
        ∙ map-set_same (λ (o : Own). o.layout) home.owns slot (own_of home_after slot) nobody same

    in_place : (h : Homes) (s : ℕ)
        → (own_of h s).layout ≡ slice_index_or (map (λ (o : Own). o.layout) h.owns) s nobody.layout
    in_place h s = of_each h.owns s
      where
        of_each : (owns : List Own) (k : ℕ)
            → (slice_index_or owns k nobody).layout ≡ slice_index_or (map (λ (o : Own). o.layout) owns) k nobody.layout
        of_each [] k = refl
        of_each (o ∷ owns) zero = refl
        of_each (o ∷ owns) (suc k) = of_each owns k

    layout_of : (s : ℕ) → (own_of home_after s).layout ≡ (own_of home s).layout
    layout_of s = in_place home_after s ∙ ap (λ (es : List Bounds). slice_index_or es s nobody.layout) layouts
        ∙ sym (in_place home s)

-- a device that may act is ready, below the limit of steps
pub may_act : (w : World) (device : Dev) → w.clock.steps < STEP_LIMIT → can_act w device ≡ true
    → IsTrue (is_ready w (Device device))
unfolding may_be_made
may_act w device below e = rw e under
  where
    under : IsTrue (nat_lt w.clock.steps STEP_LIMIT && true)
    under = grind (arith, nat_tests)

-- a step that printed bytes shows them
printed_shown : (slot : ℕ) (a : Answer) → IsAnswer a.event
    → shown_printed slot a.printed ≡ shown_by (answer_label slot a ∷ [])
unfolding shown_by
printed_shown slot a is =
    by_length (length a.printed == 0) refl
    ∙ sym (ap₂ (λ (shown : Bool) (act : Option (ℕ × Verb)).
    if shown then shows act (a.printed ++ []) else nothing)
    (shown_so (is_turn a.event) (is_act a.event) (not (length a.printed == 0)) is) (no_act a.event is))
  where
    shows : Option (ℕ × Verb) → List ℕ → Emit
    shows act bytes = record nothing { slot = Some slot; act = act; printed = record { items = bytes } }

    shown_so : (turn act some : Bool) → (turn || act) ≡ false → (turn || (act || some)) ≡ some
    shown_so false false some e = refl
    shown_so turn act some e = absurd (false≢true (sym e))

    no_act : (event : Event) → IsAnswer event → act_shown slot event ≡ None
    no_act (Act verb) e = absurd (false≢true (sym e))
    no_act event e = refl

    by_length : (none : Bool) → (length a.printed == 0) ≡ none
        → record nothing { slot = if none then None else Some slot; printed = record { items = a.printed } }
        ≡ (if not none then shows None (a.printed ++ []) else nothing)
    by_length true e = ap (λ (xs : List ℕ). record nothing { printed = record { items = xs } }) (none_in a.printed e)
    by_length false e = ap (shows None) (sym (append-nil a.printed))

-- A list is that of those with a request, after an answer to one of them.
left_line : (queue : QueueName) (left : Bool) (ids ids' : List ProcessId) (owns : List Own) (slot : ℕ) (own o : Own)
    → IsQueueOf queue ids owns → slice_get owns slot ≡ Some own
    → has_waiting queue o ≡ (if left then false else has_waiting queue own) → o.life ≡ own.life
    → ids' ≡ waiting_still left slot ids
    → IsQueueOf queue ids' (slice_set owns slot o)
left_line queue true ids ids' owns slot own o line was waits life e =
    rw (e, ← ap (λ (b : Bool). cond b (without slot ids) ids) same)
    (line_after queue ids owns slot own o (Leaves queue ∷ []) line was
    (waits ∙ sym (ap (λ (b : Bool). cond b false (has_waiting queue own)) same)) (λ w. life))
  where
    same : is_same queue queue ≡ true
    same = eq-eqb (order_of queue) (order_of queue) refl
left_line queue false ids ids' owns slot own o line was waits life e =
    rw e (line_after queue ids owns slot own o [] line was waits (λ w. life))

-- a process that remains is seated a step later
remains_seated : (flash : List ℕ) (steps : ℕ) (process : Process) (own o : Own) → Remains own o
    → IsResident flash steps (process, own) → IsResident flash (steps + 1) (process, o)
remains_seated flash steps process own o rest s =
    rw rest (record {
      own = record { object = s.own.object; object_is = s.own.object_is; lives = s.own.lives };
      turns = omega (arith, s.turns);
      restarts = omega (arith, s.restarts);
      life = omega (arith, s.life);
    })

module _ {b : BoardState} (h : IsBoard b) {device : Dev} {slot : ℕ} {printed : List ℕ} {home : Homes} {d : Drivers}
    (t : DeviceTold (board_parts b) device slot printed home d) where
  own_was : slice_get b.machine.home.owns slot ≡ Some (own_of b.machine.home slot)
  own_was = slice_get-get_or b.machine.home.owns slot nobody t.there

  -- the change of its process
  pub told_at : ChangesSlot slot b.machine.home home b.processes.items b.processes.items
  told_at = record {
    before = (t.process, own_of b.machine.home slot);
    after = (t.process, own_of home slot);
    was = t.was;
    own_was = own_was;
    is = sym (same b.processes.items slot t.process t.was);
    own_is = t.only;
  }
    where
      same : (ps : List Process) (i : ℕ) (p : Process) → slice_get ps i ≡ Some p → slice_set ps i p ≡ ps
      same ps i p was = ap (slice_set ps i) (sym (get_or_from_slice_get ps i p p was)) ∙ set-get_or ps i p

  told_found : slice_get (world_of b).records slot
      ≡ Some (recorded b ((t.process, own_of b.machine.home slot), bytes_of b.machine.drivers.stores.slots slot))
  unfolding told_at
  told_found = found told_at
      b.machine.drivers.buttons.pressed b.machine.drivers.stores.slots (has_storage h)

  -- its process alone was answered
  answered_so : DevicesAnswerOne → done (world_of b) (device_step_of (world_of b) device)
      ≡ one_answered (world_of b) slot
      (recorded b ((t.process, own_of b.machine.home slot), bytes_of b.machine.drivers.stores.slots slot))
      (record { answer = record { event = t.serves.event; printed = printed }; devices = devices_of d })
  answered_so law = ap (done (world_of b)) t.serves.deed ∙ law.one (world_of b) slot
      (record { answer = record { event = t.serves.event; printed = printed }; devices = devices_of d })
      (recorded b ((t.process, own_of b.machine.home slot), bytes_of b.machine.drivers.stores.slots slot)) told_found

  -- the world after it
  pub world_told : DevicesAnswerOne
      → with_step b
      (map (record_of home.flash d.buttons.pressed) (zip (zip b.processes.items home.owns) d.stores.slots))
      (devices_of d) (a_step_later b.machine.moment) b.present.slot b.present.used
      ≡ (carried_out (world_of b) (Device device)).after
  unfolding carried_out told_at
  world_told law =
      let w = world_of b in
      let pressed = b.machine.drivers.buttons.pressed in
      let changed : map (record_of home.flash d.buttons.pressed) (zip (zip b.processes.items home.owns) d.stores.slots)
      ≡ slice_set w.records slot (recorded b ((t.process, own_of home slot), t.serves.bytes)) =
      rw (t.serves.buttons, t.serves.stores.slots) (changed_records told_at pressed
      b.machine.drivers.stores.slots t.serves.bytes) in
      ap (λ (rs : List Record). with_step b rs (devices_of d) (a_step_later b.machine.moment) b.present.slot
      b.present.used)
      (changed ∙ ap (slice_set w.records slot) (sym t.serves.tells))
      ∙ sym (ap (λ (s : Stepped). s.after) (answered_so law))

  -- it is no turn, and no operator's act
  no_turn : DevicesAnswerOne → tells_one device ≡ true → IsAnswer t.serves.event
  no_turn law one =
      let w = world_of b in
      All-head (λ (label : Label). IsAnswer label.event) _ [] (subst (λ (s : Stepped).
      All (λ (label : Label). IsAnswer label.event) s.labels) (answered_so law)
      (answer_labels (λ label. IsAnswer label.event) w (λ slot r a there is. is) device
      (λ same. false≢true (sym (ap tells_one same) ∙ one))))

  -- what it shows
  pub told_shown : DevicesAnswerOne → tells_one device ≡ true → shown_printed slot printed
      ≡ shown_by (carried_out (world_of b) (Device device)).labels
  unfolding carried_out
  told_shown law one = printed_shown slot (record { event = t.serves.event; printed = printed }) (no_turn law one)
      ∙ sym (ap (λ (s : Stepped). shown_by s.labels) (answered_so law))

  -- it may be made below the limit of steps
  pub may_tell : b.machine.moment.steps < STEP_LIMIT → IsTrue (is_ready (world_of b) (Device device))
  may_tell below = may_act (world_of b) device below t.may

  told_owns : home.owns ≡ slice_set b.machine.home.owns slot (own_of home slot)
  told_owns = ap (λ (x : Homes). x.owns) t.only

  own_life : (own_of home slot).life ≡ (own_of b.machine.home slot).life
  own_life = ap (λ (o : Own). o.life) t.serves.follows.rest

  -- who waits in a line has a request there then, and no other
  told_line : (queue : QueueName)
      → IsQueueOf queue (ids_waiting_in d queue) (slice_set b.machine.home.owns slot (own_of home slot))
  told_line queue =
      left_line queue (t.serves.left queue) (ids_waiting_in b.machine.drivers queue) (ids_waiting_in d queue)
      b.machine.home.owns slot
      (own_of b.machine.home slot) (own_of home slot) (h.machine.driven.queues queue) own_was
      (t.serves.follows.lines queue)
      own_life
      (t.serves.lines queue)

  told_driven : AreDriven b.machine.moment.settings b.machine.moment.time home.owns d
  told_driven = rw told_owns (record {
    queues = told_line;
    within = All-set (IsWithin b.machine.moment.settings.storage) b.machine.home.owns slot (own_of home slot)
        (t.serves.follows.within b.machine.moment.settings.storage (h.machine.driven.within slot nobody t.there))
        h.machine.driven.within;
    leds = t.serves.leds ∙ h.machine.driven.leds;
    buttons = ap (λ (s : ButtonsView). s.count) t.serves.buttons ∙ h.machine.driven.buttons;
    size = t.serves.stores.size ∙ h.machine.driven.size;
    slots = ap length t.serves.stores.slots ∙ length-set b.machine.drivers.stores.slots slot t.serves.bytes
        ∙ h.machine.driven.slots;
    ticks = t.serves.lines_ready.ticks;
    free = t.serves.lines_ready.free;
  })

  -- what is told of the alarms of all other processes stays true
  pub others_still : OthersTell slot (clock_at b.machine.moment.settings.start b.machine.moment.time)
      b.machine.moment.time b.machine.alarms home.owns
  others_still =
      rw told_owns (others_tell (clock_at b.machine.moment.settings.start b.machine.moment.time) b.machine.moment.time
      slot b.machine.alarms b.machine.home.owns (own_of home slot) h.machine.alarms)

  -- and where the device is another one than the alarm, so does what is told of its own
  pub all_still : AnswersLeaveAlarms → is_alarm device ≡ false
      → AlarmsTell b.machine.moment b.machine.alarms home.owns
  unfolding told_at
  all_still law other =
      same_alarms_tell told_at (subst (HasSameAlarm (own_of b.machine.home slot)) (ap (λ (r : Record). r.own)
      t.serves.tells) (law b.machine.moment.settings t.serves.event _ (t.serves.leaves other)))
      (clock_at b.machine.moment.settings.start b.machine.moment.time) b.machine.moment.time b.machine.alarms
      h.machine.alarms

  -- what always holds of a board holds then
  pub told_board : (calm : ℕ) (times : List (Option ℕ)) (ready : List Bool) → b.machine.moment.steps < STEP_LIMIT
      → AlarmsTell b.machine.moment times home.owns → TurnsTell ready (zip b.processes.items home.owns)
      → IsCalm b.machine.moment.settings.start b.machine.moment.window b.machine.moment.time calm home.owns d
      → IsBoard (record b {
        machine = record b.machine {
          home = home;
          drivers = d;
          moment = a_step_later b.machine.moment;
          alarms = times;
          calm = calm;
          ready = ready;
        };
      })
  unfolding told_at
  told_board calm times ready below tell turns quiet = record {
    machine = record {
      lost = still_lost told_at b.machine.moment.steps 1
          (omega (arith, t.serves.follows.dropped.not_more, lost_before told_at b.machine.moment.steps h.machine.lost))
          h.machine.lost;
      guard = still_guards b.machine.guard b.machine.home home slot t.only
          (ap (λ (o : Own). o.layout) t.serves.follows.rest) h.machine.guard;
      driven = told_driven;
      lanes = record {
        lines = t.serves.lines_ready.lanes ∙ h.machine.lanes.lines;
        words = t.serves.words_left ∙ h.machine.lanes.words;
        served = t.serves.stores.lanes ∙ h.machine.lanes.served;
      };
      served = t.serves.stores.counts;
      steps = omega (arith, below);
      time = omega (arith, h.machine.time);
      calm = quiet;
      alarms = tell;
    };
    seated = still_seated told_at b.machine.moment.steps 1
        (remains_seated b.machine.home.flash b.machine.moment.steps t.process (own_of b.machine.home slot)
        (own_of home slot)
        t.serves.follows.rest (seated_there b.machine.home.flash b.machine.moment.steps b.processes.items
        b.machine.home.owns slot
        (t.process, own_of b.machine.home slot) t.was own_was h.seated)) h.seated;
    owns = as_many_owns told_at ∙ h.owns;
    few = h.few;
    ready = turns;
    slice = h.slice;
    used = h.used;
  }

-- a choice that may not be made, in a world that a board shows, is refused
pub refused_so : {u v w : World} {choice : Choice} {emit : Emit} → v ≡ u → u ≡ w → is_ready u choice ≡ false
    → MakesStep choice (showing w emit) (showing v emit) (Err (record {}))
refused_so {u} {v} {w} {choice} {emit} stays is not_ready =
    subst (λ (x : World). MakesStep choice (showing x emit) (showing v emit) (Err (record {}))) is (record {
      ready = (λ e. absurd (false≢true e), λ h. absurd (false≢true (sym not_ready ∙ true_is (is_ready u choice) h)));
      ok = tt;
      shown = tt;
      refused = (stays, refl);
    })
  where
    true_is : (b : Bool) → IsTrue b → b ≡ true
    true_is true h = refl
    true_is false h = cc

-- and one that may is made
pub made_so : {v w v' : World} {choice : Choice} {emit emit' : Emit} → v ≡ w → IsTrue (is_ready v choice)
    → v' ≡ (carried_out v choice).after → emit' ≡ shown_by (carried_out v choice).labels
    → MakesStep choice (showing w emit) (showing v' emit') (Ok tt)
made_so {v} {w} {v'} {choice} {emit} {emit'} is ready made shown =
    let steps = is_carried_out v choice ready in
    subst (λ (x : World). MakesStep choice (showing x emit) (showing v' emit') (Ok tt)) is (record {
      ready = (λ e. ready, λ h. refl);
      ok = made ∙ sym (ap (λ (s : Stepped). s.after) steps);
      shown = shown ∙ sym (ap (λ (s : Stepped). shown_by s.labels) steps);
      refused = tt;
    })

-- a device that may not act is not ready
pub not_acting : (w : World) (device : Dev) → can_act w device ≡ false → is_ready w (Device device) ≡ false
unfolding may_be_made
not_acting w device e = ap (λ (c : Bool). nat_lt w.clock.steps STEP_LIMIT && c) e ∙ and_false _
