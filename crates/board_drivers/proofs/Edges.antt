-- What comes in, as a step of the board: bytes tell nobody anything, and an edge of a button is told to each process.
-- The code's map over owns is the world's map over records, by induction on the tables (`heard`); and what is told
-- leaves life, requests and what drivers keep, so lines, alarms and seats stay true.
use Rattle.std.proofs.Common.{◌≡◌, ℕ, zero, suc, ◌+◌, ◌^◌, ◌<◌, ◌≤◌, Bool, true, false}
use Rattle.std.proofs.Common.{if◌then◌else◌, List, [], ◌∷◌, drop, length, map, slice_get, slice_index_or, All}
use Rattle.std.proofs.Common.{Option, None, Some, refl, sym, ap, ap₂, ◌∙◌, arith}
use Rattle.std.specs.List.{AllByRecursion, zip}
use Rattle.std.specs.Option.{option_map}
use Rattle.std.proofs.lemmas.Bool.{cond_both, false≢true}
use Rattle.std.proofs.lemmas.List.Elements.{All-map, All-weaker}
use Rattle.std.proofs.lemmas.Option.{slice_get-map}
use Rattle.tk_base.specs.Bits.{bit_of}
use Rattle.tk_base.specs.declared.limits.TheConstants.{BYTE_TICKS_LIMIT, SENDING_LIMIT, STEP_LIMIT}
use Rattle.tk_base.specs.declared.process.Dev.TheVariants as dev
use Rattle.tk_base.specs.declared.process.ProcessId.{ProcessId}
use Rattle.script_text.specs.Settings.{Act, EventKind, Input, Press, Release, ScriptEvent}
use Rattle.board_devices.specs.Arriving.{change_by, change_by_first, differs, is_time, lines_after, pressed_after}
use Rattle.board_devices.specs.Arriving.{pressed_after_first, with_edge, with_first_arrived}
use Rattle.board_devices.specs.Clock.{clock_at}
use Rattle.board_devices.specs.SerialLine.{SerialLine, with_input}
use Rattle.process_model.specs.Own.{Own}
use Rattle.process_record.specs.declared.process.Process.{Process}
use Rattle.process_record.specs.Emit.{nothing}
use Rattle.driver_model.specs.Answers.{FollowsAnswer, LinesFollowAnswers, Remains}
use Rattle.driver_model.specs.Buttons.{buttons, edged, is_told}
use Rattle.driver_model.specs.Commands.{QueueName}
use Rattle.driver_model.specs.Lines.{IsWithin, has_waiting}
use Rattle.driver_model.specs.Steps.{own_after, scheduling, silently}
use Rattle.grant_enter.specs.Homes.{Homes, nobody, own_of}
use Rattle.kernel_model.specs.Record.{Record}
use Rattle.kernel_model.specs.Shown.{shown_by}
use Rattle.kernel_model.specs.Laws.{DevicesAnswerOne, edge_heard}
use Rattle.kernel_model.specs.World.{Devices, Stepped, World, arrived, coming_in, device_step_of, done}
use Rattle.kernel_model.specs.Parts.{acting_on}
use Rattle.kernel_model.specs.Parts.{slot_of_name}
use Rattle.alarm_capsule.specs.Times.{AllTell, TellsAlarm}
use Rattle.alarm_capsule.proofs.KeptTimes.{same_tells}
use Rattle.board_drivers.specs.declared.drivers.Drivers.{Drivers}
use Rattle.board_drivers.specs.Calm.{AlarmsTell}
use Rattle.board_drivers.specs.Driven.{IsQueueOf, IsThere, devices_of, ids_waiting_in}
use Rattle.board_drivers.specs.Parts.{AreBoardParts, BoardParts, world_shown}
use Rattle.kernel_calls.specs.Residents.{HasLost, IsResident, Resident, record_of}
use Rattle.board_drivers.specs.Tells.{Arrives, owns_told}

-- what is a process's own once it was told an edge, if there was one
abbrev pub told_of : Option (ℕ × Bool) → Own → Own
told_of None own = own
told_of (Some edge) own = own_after (edged edge.0 edge.1 own)

-- so it is with each process
owns_each : (change : Option (ℕ × Bool)) (owns : List Own) → owns_told change owns ≡ map (told_of change) owns
owns_each None [] = refl
owns_each None (own ∷ owns) = ap (λ (xs : List Own). own ∷ xs) (owns_each None owns)
owns_each (Some edge) owns = refl

-- who is told nothing remains as it was
unchanged : (own : Own) → FollowsAnswer (λ line. false) own own
unchanged own = record {
  rest = refl;
  dropped = record { not_less = omega arith; not_more = omega arith };
  lines = λ line. refl;
  within = λ size h. h;
}

-- what is told of a button leaves requests as they were, and drops one upcall at most
pub told_follows : LinesFollowAnswers → (change : Option (ℕ × Bool)) (own : Own)
    → FollowsAnswer (λ line. false) own (told_of change own)
told_follows lines None own = unchanged own
told_follows lines (Some edge) own = lines.edges edge.0 edge.1 own

-- it leaves what drivers keep
pub told_grants : (change : Option (ℕ × Bool)) (own : Own) → (told_of change own).grants ≡ own.grants
unfolding edged
told_grants None own = refl
told_grants (Some edge) own =
    cond_both (is_told edge.0 own) (scheduling buttons 0 (edge.0 ∷ bit_of edge.1 ∷ 0 ∷ []) own) (silently own)
    (λ step. (own_after step).grants ≡ own.grants) (λ told. refl) (λ not. refl)

-- where nobody lives, nobody is told
told_nobody : (change : Option (ℕ × Bool)) → told_of change nobody ≡ nobody
unfolding edged
told_nobody None = refl
told_nobody (Some edge) = refl

pub told_length : (change : Option (ℕ × Bool)) (owns : List Own) → length (owns_told change owns) ≡ length owns
told_length None owns = refl
told_length (Some edge) [] = refl
told_length (Some edge) (own ∷ owns) = ap suc (told_length (Some edge) owns)

-- what is then the own of the process in a slot
pub told_slot : (change : Option (ℕ × Bool)) (owns : List Own) (slot : ℕ)
    → slice_index_or (owns_told change owns) slot nobody ≡ told_of change (slice_index_or owns slot nobody)
told_slot change owns slot =
    ap (λ (xs : List Own). slice_index_or xs slot nobody) (owns_each change owns) ∙ at_each owns slot
  where
    at_each : (xs : List Own) (i : ℕ)
        → slice_index_or (map (told_of change) xs) i nobody ≡ told_of change (slice_index_or xs i nobody)
    at_each [] i = sym (told_nobody change)
    at_each (x ∷ xs) zero = refl
    at_each (x ∷ xs) (suc i) = at_each xs i

-- what holds of each before holds of each then
told_all : (P Q : Own → Type 0) (change : Option (ℕ × Bool)) (owns : List Own)
    → ((own : Own) → P own → Q (told_of change own)) → All P owns → All Q (owns_told change owns)
told_all P Q change owns so all =
    rw owns_each
    (All-map Q (told_of change) owns (All-weaker P (λ own. Q (told_of change own)) so owns all))

-- and each process with its own
told_pairs : (change : Option (ℕ × Bool)) (ps : List Process) (owns : List Own)
    → zip ps (owns_told change owns)
    ≡ map (λ (r : Resident). (r.0, told_of change r.1)) (zip ps owns)
told_pairs change ps owns = ap (zip ps) (owns_each change owns) ∙ each ps owns
  where
    each : (ps : List Process) (os : List Own)
        → zip ps (map (told_of change) os) ≡ map (λ (r : Resident). (r.0, told_of change r.1)) (zip ps os)
    each [] os = refl
    each (p ∷ ps) [] = refl
    each (p ∷ ps) (o ∷ os) = ap (λ (xs : List Resident). (p, told_of change o) ∷ xs) (each ps os)

-- a process that remains is as it is to be a step later
remains_resident : (flash : List ℕ) (steps : ℕ) (process : Process) (own o : Own) → Remains own o
    → IsResident flash steps (process, own) → IsResident flash (steps + 1) (process, o)
remains_resident flash steps process own o rest s =
    rw rest (record {
      own = record { object = s.own.object; object_is = s.own.object_is; lives = s.own.lives };
      turns = omega (arith, s.turns);
      restarts = omega (arith, s.restarts);
      life = omega (arith, s.life);
    })

-- those that wait in a queue are there still, and have their requests
told_queue : LinesFollowAnswers → (change : Option (ℕ × Bool)) (queue : QueueName) (ids : List ProcessId)
    (owns : List Own) → IsQueueOf queue ids owns → IsQueueOf queue ids (owns_told change owns)
told_queue lines change queue ids owns line = record {
  there = still ids line.there;
  each = λ slot h. line.each slot (omega (arith, h, told_length change owns))
      ∙ sym ((told_follows lines change (slice_index_or owns slot nobody)).lines queue)
      ∙ ap (has_waiting queue) (sym (told_slot change owns slot));
}
  where
    still : (ids : List ProcessId) → AllByRecursion (IsThere owns) ids
        → AllByRecursion (IsThere (owns_told change owns)) ids
    still [] all = tt
    still (id ∷ ids) all = (
      (
        omega (arith, all.0.0, told_length change owns),
        ap (λ (o : Own). o.life) (told_slot change owns id.slot
            ∙ (told_follows lines change (slice_index_or owns id.slot nobody)).rest)
            ∙ all.0.1,
      ),
      still ids all.1,
    )

-- what is told of the alarms stays true
told_tells : LinesFollowAnswers → (change : Option (ℕ × Bool)) (now time : ℕ) (times : List (Option ℕ))
    (owns : List Own) → AllTell now time times owns → AllTell now time times (owns_told change owns)
told_tells lines change now time times owns tell slot =
    rw (owns_each, slice_get-map) (by_slot (slice_get owns slot) (tell slot))
  where
    by_slot : (o : Option Own) → TellsAlarm now time (slice_index_or times slot None) o
        → TellsAlarm now time (slice_index_or times slot None) (option_map (told_of change) o)
    by_slot None t = t
    by_slot (Some own) t =
        same_tells now time (slice_index_or times slot None) own (told_of change own) (told_grants change own)
        (ap (λ (o : Own). o.lives) (told_follows lines change own).rest) t

-- what each process hears of a button: by the record that it shows, what its own is told
heard : (flash : List ℕ) (mask button : ℕ) (state test : Bool) → differs mask button state ≡ test
    → (ps : List Process) (owns : List Own) (slots : List (List ℕ))
    → map (edge_heard button state) (map (record_of flash mask) (zip (zip ps owns) slots))
    ≡ (let change = if test then Some (button, state) else None in
    map (record_of flash (with_edge change mask)) (zip (zip ps (owns_told change owns)) slots))
heard flash mask button state true e [] owns slots = refl
heard flash mask button state true e (p ∷ ps) [] slots = refl
heard flash mask button state true e (p ∷ ps) (own ∷ owns) [] = refl
heard flash mask button state true e (p ∷ ps) (own ∷ owns) (bytes ∷ slots) =
    ap₂ (λ (r : Record) (rs : List Record). r ∷ rs)
    (rw e)
    (heard flash mask button state true e ps owns slots)
heard flash mask button state false e ps owns slots = each (zip (zip ps owns) slots)
  where
    each : (rs : List (Resident × List ℕ))
        → map (edge_heard button state) (map (record_of flash mask) rs) ≡ map (record_of flash mask) rs
    each [] = refl
    each (r ∷ rs) =
        ap₂ (λ (x : Record) (xs : List Record). x ∷ xs)
        (rw e)
        (each rs)

-- the records once something came in
abbrev records_by : EventKind → List Record → List Record
records_by (Input bytes) rs = rs
records_by (Press button) rs = map (edge_heard button true) rs
records_by (Release button) rs = map (edge_heard button false) rs
records_by (Act verb name) rs = rs

-- an operator's act, if one comes in, means nobody
abbrev pub MeansNobody : EventKind → List Record → Type 0
MeansNobody (Act verb name) rs = slot_of_name name rs ≡ None
MeansNobody other rs = Unit {0}

-- nor does the first that comes in
abbrev pub FirstMeansNobody : List ScriptEvent → List Record → Type 0
FirstMeansNobody [] rs = Unit {0}
FirstMeansNobody (event ∷ rest) rs = MeansNobody event.kind rs

-- they are those of the processes with what is then their own
records_then : (flash : List ℕ) (mask : ℕ) (kind : EventKind) (ps : List Process) (owns : List Own)
    (slots : List (List ℕ))
    → records_by kind (map (record_of flash mask) (zip (zip ps owns) slots))
    ≡ map (record_of flash (pressed_after kind mask)) (zip (zip ps (owns_told (change_by kind mask) owns)) slots)
records_then flash mask (Press button) ps owns slots =
    heard flash mask button true (differs mask button true) refl ps owns slots
records_then flash mask (Release button) ps owns slots =
    heard flash mask button false (differs mask button false) refl ps owns slots
records_then flash mask other ps owns slots = refl

-- the world a step later, with other records and devices
abbrev later_with : World → List Record → Devices → World
later_with w records d = record w {
  records = records;
  devices = d;
  clock = record w.clock { steps = w.clock.steps + 1 };
}

-- what a step in which something comes in leaves of a world
came_in : DevicesAnswerOne → (w : World) (kind : EventKind) (d : Devices) → MeansNobody kind w.records
    → (done w (Some (coming_in kind w.records d))).after
    ≡ later_with w (records_by kind w.records) (record d { lines = lines_after kind d.lines })
came_in law w (Input bytes) d nobody = ap (λ (s : Stepped). s.after) (law.nobody w (record d
    { lines = lines_after (Input bytes) d.lines }))
came_in law w (Press button) d nobody = ap (λ (s : Stepped). s.after) (law.tells_edge w button true d)
came_in law w (Release button) d nobody = ap (λ (s : Stepped). s.after) (law.tells_edge w button false d)
came_in law w (Act verb name) d nobody =
    ap (λ (o : Option ℕ). (done w (Some (acting_on verb w.records d o))).after) nobody
    ∙ ap (λ (s : Stepped). s.after) (law.nobody w d)

-- and it shows nothing
shows_none : DevicesAnswerOne → (w : World) (kind : EventKind) (d : Devices) → MeansNobody kind w.records
    → shown_by (done w (Some (coming_in kind w.records d))).labels ≡ nothing
unfolding shown_by
shows_none law w (Input bytes) d nobody = ap (λ (s : Stepped). shown_by s.labels) (law.nobody w (record d
    { lines = lines_after (Input bytes) d.lines }))
shows_none law w (Press button) d nobody =
    ap (λ (s : Stepped). shown_by s.labels) (law.tells_edge w button true d) ∙ law.shows_nothing w button true
shows_none law w (Release button) d nobody =
    ap (λ (s : Stepped). shown_by s.labels) (law.tells_edge w button false d) ∙ law.shows_nothing w button false
shows_none law w (Act verb name) d nobody =
    ap (λ (o : Option ℕ). shown_by (done w (Some (acting_on verb w.records d o))).labels) nobody
    ∙ ap (λ (s : Stepped). shown_by s.labels) (law.nobody w d)

-- what bytes that come in leave of each serial line, an event leaves of each
lines_keep : (P : SerialLine → Type 0) → ((bytes : List ℕ) (line : SerialLine) → P line → P (with_input bytes line))
    → (kind : EventKind) (lines : List SerialLine) → All P lines → All P (lines_after kind lines)
lines_keep P keeps (Input bytes) lines all =
    All-map P (with_input bytes) lines (All-weaker P (λ line. P (with_input bytes line)) (keeps bytes) lines all)
lines_keep P keeps other lines all = all

pub first_keeps : (P : SerialLine → Type 0)
    → ((bytes : List ℕ) (line : SerialLine) → P line → P (with_input bytes line))
    → (events : List ScriptEvent) (lines : List SerialLine) → All P lines → All P (with_first_arrived events lines)
first_keeps P keeps [] lines all = all
first_keeps P keeps (event ∷ events) lines all = lines_keep P keeps event.kind lines all

-- there are as many
lines_length : (kind : EventKind) (lines : List SerialLine) → length (lines_after kind lines) ≡ length lines
lines_length (Input bytes) [] = refl
lines_length (Input bytes) (line ∷ lines) = ap suc (lines_length (Input bytes) lines)
lines_length other lines = refl

pub first_length : (events : List ScriptEvent) (lines : List SerialLine)
    → length (with_first_arrived events lines) ≡ length lines
first_length [] lines = refl
first_length (event ∷ events) lines = lines_length event.kind lines

-- some are left, where it is their time
pub some_left : (time : ℕ) (events : List ScriptEvent) → is_time time events ≡ true → 0 < length events
some_left time [] e = absurd (false≢true e)
some_left time (event ∷ events) e = omega arith

-- each process may be told something below the limit of steps
pub may_be_told : (steps : ℕ) (owns : List Own) → All (HasLost steps) owns → steps < STEP_LIMIT
    → All (λ own. own.inbox.dropped + 1 < 2 ^ 32) owns
may_be_told steps owns lost below =
    All-weaker (HasLost steps) (λ own. own.inbox.dropped + 1 < 2 ^ 32) (λ own l. omega (arith, l, below)) owns lost

-- the parts of a board once something came in, in a step
abbrev pub parts_with : BoardParts → Homes → Drivers → BoardParts
parts_with b home d = record b {
  home = home;
  drivers = d;
  moment = record b.moment { steps = b.moment.steps + 1 };
}

module _ (b : BoardParts) where
  -- what of a button changed
  abbrev change : Option (ℕ × Bool)
  change = change_by_first b.drivers.arrivals b.drivers.buttons.pressed

  -- the memory and the drivers then
  abbrev home_then : Homes
  home_then = record b.home { owns = owns_told change b.home.owns }

  abbrev drivers_then : Drivers
  drivers_then = record b.drivers {
    uarts = with_first_arrived b.drivers.arrivals b.drivers.uarts;
    buttons = record b.drivers.buttons {
      pressed = pressed_after_first b.drivers.arrivals b.drivers.buttons.pressed;
    };
    arrivals = drop 1 b.drivers.arrivals;
  }

  -- they are those that came of it
  by_arrival : (P : Homes → Drivers → Type 0) (home : Homes) (d : Drivers) → Arrives b.home b.drivers home d
      → P home_then drivers_then → P home d
  by_arrival P home d came p =
      rw (came.memory, came.drivers) p

  -- What comes in makes the world that these parts make then, ..
  pub world_arrived : DevicesAnswerOne → (home : Homes) (d : Drivers) → Arrives b.home b.drivers home d
      → is_time b.moment.time b.drivers.arrivals ≡ true
      → FirstMeansNobody b.drivers.arrivals (world_shown b).records
      → (done (world_shown b) (device_step_of (world_shown b) dev.Event)).after ≡ world_shown (parts_with b home d)
  world_arrived law home d came may nobody =
      by_arrival (λ home d. (done w (device_step_of w dev.Event)).after ≡ world_shown (parts_with b home d)) home d came
      (by_first b.drivers.arrivals may nobody)
    where
      w : World
      w = world_shown b

      by_first : (events : List ScriptEvent) → is_time b.moment.time events ≡ true → FirstMeansNobody events w.records
          → (done w (arrived w.records w.devices events)).after
          ≡ later_with w (map (record_of b.home.flash (pressed_after_first events b.drivers.buttons.pressed))
          (zip (zip b.processes (owns_told (change_by_first events b.drivers.buttons.pressed) b.home.owns))
          b.drivers.stores.slots))
          (record (devices_of b.drivers) {
            lines = with_first_arrived events b.drivers.uarts;
            arrivals = drop 1 events;
          })
      by_first [] e nobody = absurd (false≢true e)
      by_first (event ∷ rest) e nobody =
          came_in law w event.kind (record w.devices { arrivals = rest }) nobody
          ∙ ap (λ (rs : List Record). later_with w rs (record (devices_of b.drivers) {
            lines = lines_after event.kind b.drivers.uarts;
            arrivals = rest;
          }))
          (records_then b.home.flash b.drivers.buttons.pressed event.kind b.processes b.home.owns
          b.drivers.stores.slots)

  -- .. and shows nothing
  pub arrived_shown : DevicesAnswerOne → is_time b.moment.time b.drivers.arrivals ≡ true
      → FirstMeansNobody b.drivers.arrivals (world_shown b).records
      → shown_by (done (world_shown b) (device_step_of (world_shown b) dev.Event)).labels ≡ nothing
  arrived_shown law may nobody = by_first b.drivers.arrivals may nobody
    where
      w : World
      w = world_shown b

      by_first : (events : List ScriptEvent) → is_time b.moment.time events ≡ true → FirstMeansNobody events w.records
          → shown_by (done w (arrived w.records w.devices events)).labels ≡ nothing
      by_first [] e nobody = absurd (false≢true e)
      by_first (event ∷ rest) e nobody = shows_none law w event.kind (record w.devices { arrivals = rest }) nobody

  -- what holds of the parts of each board holds of them then
  pub arrived_parts : LinesFollowAnswers → AreBoardParts b → b.moment.steps < STEP_LIMIT → (home : Homes) (d : Drivers)
      → Arrives b.home b.drivers home d → AreBoardParts (parts_with b home d)
  arrived_parts lines h below home d came =
      by_arrival (λ home d. AreBoardParts (parts_with b home d)) home d came (record {
        seated = seated;
        lost = told_all (HasLost b.moment.steps) (HasLost (b.moment.steps + 1)) change b.home.owns
            (λ own l. omega (arith, l, (told_follows lines change own).dropped.not_more)) h.lost;
        owns = told_length change b.home.owns ∙ h.owns;
        few = h.few;
        driven = record {
          queues = λ queue. told_queue lines change queue (ids_waiting_in b.drivers queue) b.home.owns
              (h.driven.queues queue);
          within = told_all (IsWithin b.moment.settings.storage) (IsWithin b.moment.settings.storage) change b.home.owns
              (λ own. (told_follows lines change own).within b.moment.settings.storage) h.driven.within;
          leds = h.driven.leds;
          buttons = h.driven.buttons;
          size = h.driven.size;
          slots = h.driven.slots;
          ticks = first_keeps (λ line. line.ticks ≤ BYTE_TICKS_LIMIT) (λ bytes line t. t) b.drivers.arrivals
              b.drivers.uarts h.driven.ticks;
          free = first_keeps (λ line. line.free ≤ b.moment.time + SENDING_LIMIT) (λ bytes line f. f)
              b.drivers.arrivals b.drivers.uarts h.driven.free;
        };
        lanes = record {
          lines = first_length b.drivers.arrivals b.drivers.uarts ∙ h.lanes.lines;
          words = h.lanes.words;
          served = h.lanes.served;
        };
        served = All-weaker (λ count. count ≤ b.moment.steps) (λ count. count ≤ b.moment.steps + 1)
            (λ count few. omega (arith, few)) b.drivers.stores.served h.served;
        steps = omega (arith, below);
        time = omega (arith, h.time);
      })
    where
      seated : All (IsResident b.home.flash (b.moment.steps + 1)) (zip b.processes (owns_told change b.home.owns))
      seated = rw told_pairs
          (All-map (IsResident b.home.flash (b.moment.steps + 1)) (λ (r : Resident). (r.0, told_of change r.1))
          (zip b.processes b.home.owns)
          (All-weaker (IsResident b.home.flash b.moment.steps)
          (λ (r : Resident). IsResident b.home.flash (b.moment.steps + 1) (r.0, told_of change r.1))
          (λ r s. remains_resident b.home.flash b.moment.steps r.0 r.1 (told_of change r.1)
          (told_follows lines change r.1).rest s) (zip b.processes b.home.owns) h.seated))

  -- where a slot's process lies, its life and that it lives stay
  pub arrived_remains : LinesFollowAnswers → (home : Homes) (d : Drivers) → Arrives b.home b.drivers home d
      → (slot : ℕ) → Remains (own_of b.home slot) (own_of home slot)
  arrived_remains lines home d came slot =
      by_arrival (λ home d. Remains (own_of b.home slot) (own_of home slot)) home d came
      (rw told_slot (told_follows lines change (own_of b.home slot)).rest)

  -- and the times that are kept of alarms tell of them still
  pub arrived_alarms : LinesFollowAnswers → (home : Homes) (d : Drivers) → Arrives b.home b.drivers home d
      → (times : List (Option ℕ)) → AlarmsTell b.moment times b.home.owns → AlarmsTell b.moment times home.owns
  arrived_alarms lines home d came times tell =
      by_arrival (λ home d. AlarmsTell b.moment times home.owns) home d came
      (told_tells lines change (clock_at b.moment.settings.start b.moment.time) b.moment.time times b.home.owns tell)
