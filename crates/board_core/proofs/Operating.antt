-- An operator's act on a process that is there makes the step of the world that the board shows, and leaves a board. To
-- let the event in changes the list of what is to come alone (`lets_in`), so the act is one on that machine
-- (`operates_in`). One resident changed then; who waits follows by what an act leaves of requests (`KeepsLines`).
use Rattle.std.proofs.Common.{◌≡◌, Bool, ◌<◌, ℕ, ◌+◌, cond, List, [], ◌∷◌, drop, length, map, slice_get}
use Rattle.std.proofs.Common.{slice_set, Option, None, Some, IfSome, refl, sym, ap, ap₂, subst, ◌∙◌, arith}
use Rattle.std.specs.Prelude.{unwrap_or}
use Rattle.std.specs.Option.{option_and_then, option_map}
use Rattle.std.specs.List.{zip}
use Rattle.std.specs.Str.{bytes_eq}
use Rattle.std.proofs.lemmas.List.{append-nil, length-map}
use Rattle.std.proofs.lemmas.List.Elements.{All-set}
use Rattle.std.proofs.lemmas.List.Quantifiers.{position-Some}
use Rattle.tk_base.specs.declared.limits.TheConstants.{STEP_LIMIT}
use Rattle.tk_base.specs.declared.process.Choice.TheVariants.{Device}
use Rattle.tk_base.specs.declared.process.Dev.TheVariants as dev
use Rattle.tk_base.specs.declared.process.Verb.{Verb}
use Rattle.tbf_headers.specs.Meaning.{header_reading}
use Rattle.script_text.specs.Settings.{Act, EventKind, ScriptEvent}
use Rattle.board_devices.specs.Arriving.{act_of, change_by_first, first_act, pressed_after_first}
use Rattle.board_devices.specs.Arriving.{with_first_arrived}
use Rattle.board_devices.specs.Buttons.{ButtonsView}
use Rattle.board_devices.specs.Clock.{clock_at}
use Rattle.alarm_capsule.proofs.KeptTimes.{others_tell}
use Rattle.process_model.specs.Own.{Own}
use Rattle.process_record.specs.declared.process.Process.{Process}
use Rattle.process_record.specs.declared.summary.SlotLine.{SlotLine}
use Rattle.process_record.specs.Lines.{name_text, slot_named}
use Rattle.driver_model.specs.Commands.{QueueName, leaving_all}
use Rattle.driver_model.specs.Lines.{IsWithin}
use Rattle.grant_enter.specs.Homes.{Homes}
use Rattle.kernel_model.specs.Record.{Record, slot_line_of}
use Rattle.kernel_model.specs.Turn.{apply, operated}
use Rattle.kernel_model.specs.World.{DeviceAnswer, Devices, Stepped, answering, arrived}
use Rattle.kernel_model.specs.Parts.{acting_on, acts_of}
use Rattle.kernel_model.specs.World.{carried_out}
use Rattle.kernel_model.specs.World.{device_step_of, done, listed, operating, telling_nobody}
use Rattle.kernel_model.specs.Parts.{slot_of_name}
use Rattle.kernel_model.specs.Shown.{shown_by}
use Rattle.kernel_model.specs.Laws.{CanStartAgain, DevicesAnswerOne, KeepsLines, one_answered}
use Rattle.kernel_model.proofs.Comes.{restart_keeps}
use Rattle.kernel_model.proofs.Lines.{keeps_ended, keeps_restarted}
use Rattle.kernel_model.proofs.Steps.{of_operated}
use Rattle.board_drivers.specs.declared.drivers.Drivers.{Drivers}
use Rattle.board_drivers.specs.Calm.{AlarmsTell}
use Rattle.board_drivers.proofs.Lanes.{few_still, same_free, same_lanes, same_ticks}
use Rattle.board_drivers.specs.Driven.{AreDriven, IsQueueOf, devices_of, ids_waiting_in}
use Rattle.kernel_calls.specs.Residents.{IsResident, id_of, record_of}
use Rattle.board_drivers.specs.Tells.{Arrives, owns_told}
use Rattle.board_drivers.proofs.Lines.{line_after}
use Rattle.board_drivers.proofs.Records.{bytes_of, seated_there}
use Rattle.board_drivers.proofs.Routing.{drives_shown}
use Rattle.board_turns.specs.declared.machine.Machine.{Machine}
use Rattle.board_turns.specs.Operating.{IsActedOn, verb_acts}
use Rattle.board_turns.specs.Turning.{StepsInSlot}
use Rattle.board_core.specs.declared.state.BoardState.{BoardState}
use Rattle.board_core.specs.Makes.{shown_act}
use Rattle.board_core.specs.Shows.{IsBoard, world_of}
use Rattle.board_core.proofs.Boards.{has_storage, owns_in_world}
use Rattle.board_core.proofs.Changes.{a_step_later, as_many, found, kept_records, lost_before, owns_after, still_lost}
use Rattle.board_core.proofs.Changes.{within_before}
use Rattle.board_turns.specs.Machines.{IsCalmUntil, KeepsOtherAlarms}
use Rattle.board_core.proofs.Changes.{still_seated, with_step}
use Rattle.board_core.proofs.TurnLines.{can_start_again}
use Rattle.board_turns.specs.ReadySlots.{TurnsTell}

-- what comes in first is an operator's act on the process in a slot
pub record ActComes (arrivals : List ScriptEvent) (rs : List Record) (slot : ℕ) (verb : Verb) : Type 0 where
  pub time : ℕ
  pub name : List ℕ
  pub rest : List ScriptEvent
  pub is : arrivals ≡ record { time = time; kind = Act verb name } ∷ rest
  pub means : slot_of_name name rs ≡ Some slot

-- so it is where an act is meant for that process
pub act_comes : (arrivals : List ScriptEvent) (rs : List Record) (slot : ℕ) (verb : Verb)
    → option_and_then {U = ℕ × Verb} (λ (act : Verb × List ℕ).
    option_map {U = ℕ × Verb} (λ (s : ℕ). (s, act.0)) (slot_of_name act.1 rs))
    (first_act arrivals) ≡ Some (slot, verb)
    → ActComes arrivals rs slot verb
act_comes [] rs slot verb meant = absurd (cc)
act_comes (event ∷ rest) rs slot verb meant = by_kind event.kind refl meant
  where
    by_slot : (v : Verb) (name : List ℕ) (o : Option ℕ) → slot_of_name name rs ≡ o → event.kind ≡ Act v name
        → option_map {U = ℕ × Verb} (λ (s : ℕ). (s, v)) o ≡ Some (slot, verb) → ActComes (event ∷ rest) rs slot verb
    by_slot v name None is kind e = absurd (cc)
    by_slot v name (Some s) is kind e =
        let same : ◌≡◌ {A = ℕ × Verb} (s, v) (slot, verb) = cc in
        subst (λ (x : ℕ × Verb). ActComes (event ∷ rest) rs x.0 x.1) same (record {
          time = event.time;
          name = name;
          rest = rest;
          is = ap (λ (k : EventKind). record event { kind = k } ∷ rest) kind;
          means = is;
        })

    by_kind : (kind : EventKind) → event.kind ≡ kind
        → option_and_then {U = ℕ × Verb} (λ (act : Verb × List ℕ).
        option_map {U = ℕ × Verb} (λ (s : ℕ). (s, act.0)) (slot_of_name act.1 rs))
        (act_of kind) ≡ Some (slot, verb)
        → ActComes (event ∷ rest) rs slot verb
    by_kind (Act v name) is e = by_slot v name (slot_of_name name rs) refl is e
    by_kind kind is e = absurd (cc)

-- the machine once an act is let in, and before it is done
abbrev pub let_in : Machine → List ScriptEvent → Machine
let_in m rest = record m { drivers = record m.drivers { arrivals = rest } }

-- the act is done then, on the process in that slot of a board's tables
abbrev pub OperatesOnce : BoardState → ℕ → Verb → List ScriptEvent → Machine → List Process → Type 0
OperatesOnce b slot verb rest x processes =
    let m = let_in b.machine rest in
    StepsInSlot 1 slot m x b.processes.items processes (IsActedOn verb slot m x)

-- letting it in changes nothing else
pub lets_in : (m : Machine) (rs : List Record) (slot : ℕ) (verb : Verb)
    (c : ActComes m.drivers.arrivals rs slot verb) (home : Homes) (d : Drivers) → Arrives m.home m.drivers home d
    → record m { home = home; drivers = d } ≡ let_in m c.rest
lets_in m rs slot verb c home d came =
    ap₂ (λ (h : Homes) (e : Drivers). record m { home = h; drivers = e })
    (came.memory
    ∙ ap (λ (events : List ScriptEvent). record m.home {
      owns = owns_told (change_by_first events m.drivers.buttons.pressed) m.home.owns;
    }) c.is)
    (came.drivers
    ∙ ap (λ (events : List ScriptEvent). record m.drivers {
      uarts = with_first_arrived events m.drivers.uarts;
      buttons = record m.drivers.buttons { pressed = pressed_after_first events m.drivers.buttons.pressed };
      arrivals = drop 1 events;
    }) c.is)

-- so an act after it is one on that machine
pub operates_in : (b : BoardState) (slot : ℕ) (verb : Verb)
    (c : ActComes b.machine.drivers.arrivals (world_of b).records slot verb) (home : Homes) (d : Drivers)
    → Arrives b.machine.home b.machine.drivers home d → (x : Machine) (processes : List Process)
    → (let m = record b.machine { home = home; drivers = d } in
    StepsInSlot 1 slot m x b.processes.items processes (IsActedOn verb slot m x))
    → OperatesOnce b slot verb c.rest x processes
operates_in b slot verb c home d came x processes t =
    subst (λ (m : Machine). StepsInSlot 1 slot m x b.processes.items processes (IsActedOn verb slot m x))
    (lets_in b.machine (world_of b).records slot verb c home d came) t

-- a slot of that name is one of the records', ..
pub named_within : (name : List ℕ) (rs : List Record) (slot : ℕ) → slot_of_name name rs ≡ Some slot → slot < length rs
unfolding slot_named
named_within name [] slot is = absurd (cc)
named_within name (r ∷ rs) slot is =
    let found = position-Some (λ (line : SlotLine). bytes_eq (name_text line.name.items) name)
    (map slot_line_of (r ∷ rs)) slot (slot_line_of r) is in
    omega (arith, found.0, length-map (r ∷ rs) slot_line_of)

-- .. so it is one of the table's
pub act_within : {b : BoardState} {slot : ℕ} {verb : Verb} → IsBoard b
    → ActComes b.machine.drivers.arrivals (world_of b).records slot verb → slot < length b.processes.items
act_within {b} {slot} h c =
    omega (
      arith,
      named_within c.name (world_of b).records slot c.means,
      length-map (world_of b).records (λ (r : Record). r.own),
      ap length (owns_in_world h),
      h.owns,
    )

-- what becomes of the requests of a process on which an operator acted
act_keeps : (size : ℕ) (verb : Verb) (r : Record) → CanStartAgain r
    → KeepsLines size r.own (operated verb r).own (acts_of verb r)
act_keeps size verb r can =
    of_operated (λ ended s. KeepsLines size r.own s.own (cond ended leaving_all [])) r same (λ held. same)
    (λ lives. keeps_ended size r.own) (keeps_restarted size r can) verb
  where
    same : KeepsLines size r.own r.own []
    same = record { lines = λ queue. refl; once = λ queue. refl; life = λ queue e. refl; within = λ h. h }

-- it drops nothing
act_drops : (verb : Verb) (r : Record) → (operated verb r).own.inbox.dropped ≡ r.own.inbox.dropped
act_drops verb r =
    of_operated (λ ended s. s.own.inbox.dropped ≡ r.own.inbox.dropped) r refl (λ held. refl) (λ lives. refl)
    (restart_keeps r) verb

module _ {b : BoardState} {slot : ℕ} {verb : Verb} (h : IsBoard b)
    (c : ActComes b.machine.drivers.arrivals (world_of b).records slot verb) {x : Machine} {processes : List Process}
    (t : OperatesOnce b slot verb c.rest x processes) where
  -- the record before the act
  abbrev pub acted_on : Record
  acted_on = record_of b.machine.home.flash b.machine.drivers.buttons.pressed
      (t.at.before, bytes_of b.machine.drivers.stores.slots slot)

  was_there : slice_get (world_of b).records slot ≡ Some acted_on
  was_there = found t.at b.machine.drivers.buttons.pressed
      b.machine.drivers.stores.slots (has_storage h)

  -- the devices once it is let in, and what is told
  abbrev devices_in : Devices
  devices_in = record (devices_of b.machine.drivers) { arrivals = c.rest }

  abbrev answer : DeviceAnswer
  answer = operating verb devices_in slot acted_on

  -- its process alone is told of it
  acts_so : DevicesAnswerOne
      → done (world_of b) (device_step_of (world_of b) dev.Event) ≡ one_answered (world_of b) slot acted_on answer
  acts_so law =
      let w = world_of b in
      ap (λ (events : List ScriptEvent). done w (arrived w.records w.devices events)) c.is
      ∙ ap (λ (o : Option ℕ). done w (Some (acting_on verb w.records devices_in o))) c.means
      ∙ ap (λ (o : Option Record). done w (Some (unwrap_or
      (option_map (λ (r : Record). answering slot (operating verb devices_in slot r)) o)
      (telling_nobody devices_in)))) was_there
      ∙ law.one w slot answer acted_on was_there

  -- what the act leaves of its record
  tells : operated verb acted_on
      ≡ record_of b.machine.home.flash b.machine.drivers.buttons.pressed
      (t.at.after, bytes_of b.machine.drivers.stores.slots slot)
  tells = t.does.operates (record {
    storage = bytes_of b.machine.drivers.stores.slots slot;
    pressed = b.machine.drivers.buttons.pressed;
  })

  -- the world after it
  pub world_operated : DevicesAnswerOne
      → with_step b
      (map (record_of x.home.flash x.drivers.buttons.pressed) (zip (zip processes x.home.owns) x.drivers.stores.slots))
      (devices_of x.drivers) (a_step_later b.machine.moment) b.present.slot b.present.used
      ≡ (carried_out (world_of b) (Device dev.Event)).after
  unfolding carried_out apply
  world_operated law =
      let m = a_step_later b.machine.moment in
      let w = world_of b in
      let pressed = b.machine.drivers.buttons.pressed in
      let records : map (record_of x.home.flash x.drivers.buttons.pressed)
      (zip (zip processes x.home.owns) x.drivers.stores.slots)
      ≡ slice_set w.records slot (operated verb acted_on) =
      rw (t.does.drives.buttons, t.does.drives.bytes, tells)
      (kept_records t.at pressed b.machine.drivers.stores.slots) in
      ap (λ (rs : List Record). with_step b rs (devices_of x.drivers) m b.present.slot b.present.used) records
      ∙ ap (λ (ds : Devices). with_step b (slice_set w.records slot (operated verb acted_on)) ds m b.present.slot
      b.present.used)
      (drives_shown (id_of slot t.at.before.1) (verb_acts verb t.at.before.0) (let_in b.machine c.rest).drivers
      x.drivers
      t.does.drives)
      ∙ sym (ap (λ (s : Stepped). s.after) (acts_so law))

  -- what it shows, where its line was printed as it is listed
  pub operated_shown : DevicesAnswerOne → (printed : List ℕ)
      → IfSome (slice_get (world_of b).records slot) (λ r. printed ≡ listed verb slot r)
      → shown_act slot verb printed ≡ shown_by (carried_out (world_of b) (Device dev.Event)).labels
  unfolding carried_out shown_by
  operated_shown law printed lists =
      let is = rw was_there at lists in
      ap (shown_act slot verb) (is ∙ sym (append-nil (listed verb slot acted_on)))
      ∙ sym (ap (λ (s : Stepped). shown_by s.labels) (acts_so law))

  seat : IsResident b.machine.home.flash b.machine.moment.steps t.at.before
  seat = seated_there b.machine.home.flash b.machine.moment.steps b.processes.items b.machine.home.owns slot t.at.before
      t.at.was t.at.own_was h.seated

  own_is : (operated verb acted_on).own ≡ t.at.after.1
  own_is = ap (λ (r : Record). r.own) tells

  keeps : KeepsLines b.machine.moment.settings.storage t.at.before.1 t.at.after.1 (verb_acts verb t.at.before.0)
  keeps = rw own_is at (act_keeps b.machine.moment.settings.storage verb acted_on
      (can_start_again t.at.before.0.object.address t.at.before.1.layout (header_reading acted_on.object)
      seat.own.object.application))

  drops_none : t.at.after.1.inbox.dropped ≡ t.at.before.1.inbox.dropped
  drops_none = ap (λ (o : Own). o.inbox.dropped) (sym own_is) ∙ act_drops verb acted_on

  line_is : (queue : QueueName)
      → IsQueueOf queue (ids_waiting_in x.drivers queue) (slice_set b.machine.home.owns slot t.at.after.1)
  line_is queue = rw (t.does.drives.queues queue)
      (line_after queue (ids_waiting_in b.machine.drivers queue) b.machine.home.owns slot t.at.before.1 t.at.after.1
      (verb_acts verb t.at.before.0) (h.machine.driven.queues queue) t.at.own_was (keeps.lines queue)
      (keeps.life queue))

  -- who waits has a request then, and no other
  pub operated_driven : AreDriven b.machine.moment.settings b.machine.moment.time x.home.owns x.drivers
  operated_driven = rw t.at.own_is (record {
    queues = line_is;
    within = All-set (IsWithin b.machine.moment.settings.storage) b.machine.home.owns slot t.at.after.1
        (keeps.within (within_before t.at b.machine.moment.settings.storage h.machine.driven.within))
        h.machine.driven.within;
    leds = t.does.drives.lit ∙ h.machine.driven.leds;
    buttons = ap (λ (s : ButtonsView). s.count) t.does.drives.buttons ∙ h.machine.driven.buttons;
    size = ap (λ (s : _). s.size) t.does.drives.bytes ∙ h.machine.driven.size;
    slots = ap (λ (s : _). length s.slots) t.does.drives.bytes ∙ h.machine.driven.slots;
    ticks = same_ticks b.machine.drivers x.drivers t.does.drives.lines h.machine.driven.ticks;
    free = same_free b.machine.moment.time b.machine.drivers x.drivers t.does.drives.lines h.machine.driven.free;
  })

  -- what is told of the alarms of all other processes stays true
  pub others_unmoved : KeepsOtherAlarms slot (record b.machine { home = x.home })
  others_unmoved = rw t.at.own_is (others_tell (clock_at b.machine.moment.settings.start b.machine.moment.time)
      b.machine.moment.time slot b.machine.alarms b.machine.home.owns t.at.after.1 h.machine.alarms)

-- A board whose tables, registers and drivers are then these: after the act it is one again.
module _ {b : BoardState} (a : BoardState) {slot : ℕ} {verb : Verb} (h : IsBoard b)
    (c : ActComes b.machine.drivers.arrivals (world_of b).records slot verb)
    (t : OperatesOnce b slot verb c.rest a.machine a.processes.items) where
  pub operated_board : (calm : ℕ) (times : List (Option ℕ)) (ready : List Bool) → b.machine.moment.steps < STEP_LIMIT
      → AlarmsTell b.machine.moment times a.machine.home.owns
      → TurnsTell ready (zip a.processes.items a.machine.home.owns)
      → IsCalmUntil (record a.machine { moment = b.machine.moment }) calm
      → IsBoard (record b {
        machine = record a.machine {
          moment = a_step_later b.machine.moment;
          alarms = times;
          calm = calm;
          ready = ready;
        };
        processes = a.processes;
      })
  operated_board calm times ready below tell turns quiet = record {
    machine = record {
      lost = still_lost t.at b.machine.moment.steps 1
          (omega (arith, drops_none h c t, lost_before t.at b.machine.moment.steps h.machine.lost)) h.machine.lost;
      guard = t.leaves.guard;
      driven = operated_driven h c t;
      lanes = same_lanes b.machine.moment.window b.machine.drivers a.machine.drivers t.does.drives.lines
          t.does.drives.words t.does.drives.bytes h.machine.lanes;
      served = rw t.does.drives.bytes (few_still b.machine.moment.steps (b.machine.moment.steps + 1)
          b.machine.drivers.stores.served (omega arith) h.machine.served);
      steps = omega (arith, below);
      time = omega (arith, h.machine.time);
      calm = quiet;
      alarms = tell;
    };
    seated = still_seated t.at b.machine.moment.steps 1 t.leaves.seated h.seated;
    owns = owns_after t.at h.owns;
    few = omega (arith, as_many t.at, h.few);
    ready = turns;
    slice = h.slice;
    used = h.used;
  }
