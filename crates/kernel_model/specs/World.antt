-- The world only routes: a step finds whose turn it is, or whom a device answers, and applies that event to that one
-- record. Which steps there are, and what the devices do, is this board's own rule.
use Rattle.std.specs.Prelude.{ℕ, zero, suc, ◌+◌, ◌*◌, ◌/◌, ◌%◌, ◌==◌, Bool, true, false, not, ◌&&◌, nat_le, nat_lt}
use Rattle.std.specs.Prelude.{if◌then◌else◌, List}
use Rattle.std.specs.Prelude.{[], ◌∷◌, ◌++◌, option_and_then, unwrap_or}
use Rattle.std.specs.Prelude.{drop, filter, length, map, slice_get, slice_index_or, slice_set, Option, None, Some}
use Rattle.std.specs.Prelude.{is_some, option_to_list}
use Rattle.std.specs.Option.{option_map}
use Rattle.std.specs.List.{list_any}
use Rattle.tk_base.specs.Bits.{has_bit, with_bit}
use Rattle.tk_base.specs.declared.limits.TheConstants.{SLOT_COUNT, STEP_LIMIT}
use Rattle.tk_base.specs.declared.process.Choice.{Choice}
use Rattle.tk_base.specs.declared.process.Choice.TheVariants.{Run, Device, Pass}
use Rattle.tk_base.specs.declared.process.Dev.{Dev}
use Rattle.tk_base.specs.declared.process.Dev.TheVariants as dev
use Rattle.tk_base.specs.declared.process.Verb.{Verb}
use Rattle.tk_base.specs.declared.process.Verb.TheVariants as verbs
use Rattle.process_record.specs.Summary.{Unplaced}
use Rattle.process_record.specs.Lines.{listed_line, slot_named}
use Rattle.process_record.specs.Operator.{ends_by}
use Rattle.turn_scheduler.specs.RoundRobin.{used_after}
use Rattle.kernel_model.specs.Record.{Record, slot_line_of}
use Rattle.kernel_model.specs.declared.settings.Settings.{Settings}
use Rattle.board_devices.specs.Arriving.{differs, first_arrival_time, is_time}
use Rattle.board_devices.specs.Clock.{clock_at}
use Rattle.board_devices.specs.SerialLine.{SerialLine, line_at, with_input}
use Rattle.script_text.specs.Settings.{ScriptEvent as Arrival, EventKind}
use Rattle.script_text.specs.Settings as script
use Rattle.process_model.specs.Own.{Own}
use Rattle.driver_model.specs.Alarm as alarm
use Rattle.driver_model.specs.Alarm.{nearer}
use Rattle.driver_model.specs.Console as console
use Rattle.driver_model.specs.Random as random
use Rattle.driver_model.specs.Storage as storage
use Rattle.driver_model.specs.Leds.{is_on_after}
use Rattle.driver_model.specs.Commands.{BoardRequest, Waits, Leaves, Lights, QueueName, Writes, Reads, Randoms, Stores}
use Rattle.driver_model.specs.Commands.{leaving_all}
use Rattle.kernel_model.specs.Turn.{Act, Event, Turn, Alarmed, Edge, Taken, WriteDone, Input, Word, NoWord, Stored}
use Rattle.kernel_model.specs.Turn.{TurnTrace, Turned, untraced}
use Rattle.kernel_model.specs.Turn.{apply, turned, may_turn}
use Rattle.kernel_model.specs.Record.{flash_of}

-- what of the settings no process sees: how many turns a slice has; how many ticks a window has, 0 without time
-- partitions
pub record Pace : Type 0 where
  pub slice : ℕ
  pub window : ℕ

-- the slots that wait in each queue, the first one first
pub record WaitingSlots : Type 0 where
  pub writes : List ℕ
  pub reads : List ℕ
  pub randoms : List ℕ
  pub stores : List ℕ

-- What the devices hold: the slots that wait; the LEDs, bit n for LED n; what is still to come in, and when, bytes,
-- edges of buttons and an operator's acts; the numbers of the storage requests that fail; and by lane the serial line,
-- the random words that are left, and how many storage requests were served. There is one lane for all slots, or with
-- time partitions one for each.
pub record Devices : Type 0 where
  pub waiting : WaitingSlots
  pub leds : ℕ
  pub lines : List SerialLine
  pub arrivals : List Arrival
  pub words : List (List ℕ)
  pub served : List ℕ
  pub faults : List ℕ

-- the time in ticks, and how many steps were made
pub record Clock : Type 0 where
  pub time : ℕ
  pub steps : ℕ

-- the slot that had the last turn of a process, and how many turns of its slice it has used
pub record Present : Type 0 where
  pub slot : Option ℕ
  pub used : ℕ

-- the records by slot, the applications that were not placed, and what else the board holds
pub record World : Type 0 where
  pub records : List Record
  pub unplaced : List Unplaced
  pub settings : Settings
  pub pace : Pace
  pub devices : Devices
  pub clock : Clock
  pub present : Present

-- What a step tells of a process: its slot; what happened to it, its turn, what a device told it or an operator did to
-- it; what it did, where that was its turn; what was printed for it.
pub record Label : Type 0 where
  pub slot : ℕ
  pub event : Event
  pub trace : TurnTrace
  pub printed : List ℕ

-- of a turn at a time
abbrev pub turn_label : ℕ → ℕ → TurnTrace → Label
turn_label slot time trace = record { slot = slot; event = Turn time; trace = trace; printed = [] }

-- what a step tells a process, and what is printed for it
pub record Answer : Type 0 where
  pub event : Event
  pub printed : List ℕ

-- of what a process was told
abbrev pub answer_label : ℕ → Answer → Label
answer_label slot a = record { slot = slot; event = a.event; trace = untraced; printed = a.printed }

-- what the alarm's clock shows
abbrev pub now_in : World → ℕ
now_in w = clock_at w.settings.start w.clock.time

-- what each slot's process has as its own
abbrev pub owns_in : World → List Own
owns_in w = map (λ r. r.own) w.records

-- what a device does for one process: what it tells it, and the devices afterwards
pub record DeviceAnswer : Type 0 where
  pub answer : Answer
  pub devices : Devices

-- what a device does in a step: what it tells the process in each slot, one thing at most; the devices afterwards
pub record DeviceStep : Type 0 where
  pub told : ℕ → Option Answer
  pub devices : Devices

-- the process in one slot is answered, and no other
abbrev pub answering : ℕ → DeviceAnswer → DeviceStep
answering slot a = record { told = λ other. if other == slot then Some a.answer else None; devices = a.devices }

-- the slot that alone is served at a time, where a window has so many ticks: that whose window it is, by which slots
-- have windows in turn; none without time partitions
abbrev pub only_at : ℕ → ℕ → Option ℕ
only_at time zero = None
only_at time (suc n) = Some (time / suc n % SLOT_COUNT)

-- the slot that alone is served with a slot, where a window has so many ticks: itself; none without time partitions
abbrev pub only_for : ℕ → ℕ → Option ℕ
only_for zero slot = None
only_for (suc n) slot = Some slot

-- how many lanes there are, where a window has so many ticks
abbrev pub lane_count : ℕ → ℕ
lane_count zero = 1
lane_count (suc n) = SLOT_COUNT

-- that of a world
abbrev pub only_in : World → Option ℕ
only_in w = only_at w.clock.time w.pace.window

-- the serial line by which devices serve: that of the slot that alone is served, or the one that there is
abbrev pub line_by : Option ℕ → Devices → SerialLine
line_by only d = line_at (unwrap_or only 0) d.lines

-- the lane of that in a world
abbrev pub lane_in : World → ℕ
lane_in w = unwrap_or (only_in w) 0

-- whether a slot may be served: each may, or the one that alone is
abbrev pub is_let : Option ℕ → ℕ → Bool
is_let None slot = true
is_let (Some only) slot = slot == only

-- of some slots those that may be served
abbrev pub may_serve : Option ℕ → List ℕ → List ℕ
may_serve None slots = slots
may_serve (Some only) slots = filter (λ slot. slot == only) slots

-- the slots but one
abbrev pub queue_without : ℕ → List ℕ → List ℕ
queue_without slot slots = filter (λ s. not (s == slot)) slots

-- one queue changes, and no other
abbrev pub with_queue : QueueName → (List ℕ → List ℕ) → Devices → Devices
with_queue Writes change d = record d { waiting = record d.waiting { writes = change d.waiting.writes } }
with_queue Reads change d = record d { waiting = record d.waiting { reads = change d.waiting.reads } }
with_queue Randoms change d = record d { waiting = record d.waiting { randoms = change d.waiting.randoms } }
with_queue Stores change d = record d { waiting = record d.waiting { stores = change d.waiting.stores } }

-- after an answer to the process in a slot, whose request in a queue completed or did not
abbrev pub after_answer : QueueName → Bool → ℕ → Devices → Devices
after_answer name completed slot = with_queue name (λ slots. if completed then queue_without slot slots else slots)

-- it tells it something, and nothing is printed
abbrev pub telling : Event → Devices → DeviceAnswer
telling event d = record { answer = record { event = event; printed = [] }; devices = d }

-- the UART of a lane takes the next bytes of the write of the process in a slot, and is free again after so many ticks
-- for each; or the write completes
abbrev pub transmitting : ℕ → ℕ → Devices → ℕ → Record → DeviceAnswer
transmitting lane time d slot r =
    let s = console.sent (flash_of r) r.own in
    let line = line_at lane d.lines in
    let sent = record line { free = if length s.moved == 0 then line.free else time + length s.moved * line.ticks } in
    record {
      answer = record { event = if s.completed then WriteDone else Taken; printed = s.moved };
      devices = record (after_answer Writes s.completed slot d) { lines = slice_set d.lines lane sent };
    }

-- the bytes that came in on a lane go to the read of the process in a slot
abbrev pub receive_step : ℕ → Devices → ℕ → Record → DeviceAnswer
receive_step lane d slot r =
    let line = line_at lane d.lines in
    let s = console.received line.ring r.own in
    let rest = record line { ring = drop (length s.moved) line.ring } in
    telling (Input s.moved) (record (after_answer Reads s.completed slot d) { lines = slice_set d.lines lane rest })

-- a word of a lane is drawn for the request of the process in a slot, or none
abbrev pub random_step : ℕ → Devices → ℕ → Record → DeviceAnswer
random_step lane d slot r =
    let left = slice_index_or d.words lane [] in
    let a = random.answered (slice_get left 0) r.own in
    let words = slice_set d.words lane (random.words_after a.moved left) in
    telling (unwrap_or (option_map Word a.moved) NoWord)
    (record (after_answer Randoms a.completed slot d) { words = words })

-- the storage request of the process in a slot is served, or fails, by its number among all that were in a lane
abbrev pub storing : ℕ → Devices → ℕ → Record → DeviceAnswer
storing lane d slot r =
    let count = slice_index_or d.served lane 0 in
    let fails = list_any (λ number. number == count + 1) d.faults in
    let a = storage.answered fails (flash_of r) r.storage r.own in
    let served = slice_set d.served lane (if a.completed then count + 1 else count) in
    telling (Stored (not fails)) (record (after_answer Stores a.completed slot d) { served = served })

-- what is done for the process in a slot, if there is one, by its record
abbrev pub serving : List Record → (ℕ → Record → DeviceAnswer) → Option ℕ → Option DeviceStep
serving rs answer None = None
serving rs answer (Some slot) = option_map (λ r. answering slot (answer slot r)) (slice_get rs slot)

-- what an act of a process changes of the devices: it waits in a queue, as its last one, or waits there no more, or
-- switches an LED
abbrev pub acted : ℕ → BoardRequest → Devices → Devices
acted slot (Waits queue) d = with_queue queue (λ slots. slots ++ slot ∷ []) d
acted slot (Leaves queue) d = with_queue queue (queue_without slot) d
acted slot (Lights led switch) d =
    record d { leds = with_bit d.leds led (is_on_after switch (has_bit d.leds led)) }

-- what a turn asks the board to do, one after another
abbrev pub routed : ℕ → List BoardRequest → Devices → Devices
routed slot [] d = d
routed slot (act ∷ acts) d = routed slot acts (acted slot act d)

-- what a process is told of a button that is pressed, or released: nothing where it has that state for it already
abbrev pub edge_told : ℕ → Bool → Record → Option Answer
edge_told button pressed r =
    if differs r.pressed button pressed then Some (record { event = Edge button pressed; printed = [] }) else None

-- a button is pressed, or released, which the process in each slot is told by its own record
abbrev pub telling_edge : ℕ → Bool → List Record → Devices → DeviceStep
telling_edge button pressed rs d =
    record { told = λ slot. option_and_then (edge_told button pressed) (slice_get rs slot); devices = d }

-- what an operator's act prints: the line of the process, where it is listed
abbrev pub listed : Verb → ℕ → Record → List ℕ
listed verbs.List slot r = listed_line slot (slot_line_of r)
listed other slot r = []

-- an operator's act on the process in a slot, by its record; one that it ends, or starts again, waits in no queue any
-- more
abbrev pub operating : Verb → Devices → ℕ → Record → DeviceAnswer
operating verb d slot r = record {
  answer = record { event = Act verb; printed = listed verb slot r };
  devices = routed slot (if ends_by verb r.process then leaving_all else []) d;
}

-- nobody is told anything
abbrev pub telling_nobody : Devices → DeviceStep
telling_nobody d = record { told = λ slot. None; devices = d }

-- what comes in: bytes, in every lane, which tells nobody anything, and of those in a ring the newest are kept; an edge
-- of a button; or an operator's act on the process in the lowest slot that has a name in the report, which tells nobody
-- anything where there is none
abbrev pub coming_in : EventKind → List Record → Devices → DeviceStep
coming_in (script.Input bytes) rs d = telling_nobody (record d { lines = map (with_input bytes) d.lines })
coming_in (script.Press button) rs d = telling_edge button true rs d
coming_in (script.Release button) rs d = telling_edge button false rs d
coming_in (script.Act verb name) rs d =
    unwrap_or (serving rs (operating verb d) (slot_named name (map slot_line_of rs))) (telling_nobody d)

-- the first thing comes in that is still to, if there is one
abbrev pub arrived : List Record → Devices → List Arrival → Option DeviceStep
arrived rs d [] = None
arrived rs d (arrival ∷ rest) = Some (coming_in arrival.kind rs (record d { arrivals = rest }))

-- what is done for the first of those that wait, of those that may be served, if there is one
abbrev pub first_served : World → (ℕ → Record → DeviceAnswer) → List ℕ → Option DeviceStep
first_served w answer slots = serving w.records answer (slice_get (may_serve (only_in w) slots) 0)

-- what a device does, where it is ready: for the process in the lowest slot whose alarm is due, or for the first of
-- those that wait, of those that may be served; what comes in is nobody's
abbrev pub device_step_of : World → Dev → Option DeviceStep
device_step_of w dev.Event = arrived w.records w.devices w.devices.arrivals
device_step_of w dev.Alarm =
    let due = alarm.due_for (only_in w) (now_in w) (owns_in w) in
    serving w.records (λ slot r. telling (Alarmed (now_in w)) w.devices) due
device_step_of w dev.Uart = first_served w (transmitting (lane_in w) w.clock.time w.devices) w.devices.waiting.writes
device_step_of w dev.Receive = first_served w (receive_step (lane_in w) w.devices) w.devices.waiting.reads
device_step_of w dev.Random = first_served w (random_step (lane_in w) w.devices) w.devices.waiting.randoms
device_step_of w dev.Store = first_served w (storing (lane_in w) w.devices) w.devices.waiting.stores

-- whether one of some slots waits that may be served
abbrev pub one_waits : Option ℕ → List ℕ → Bool
one_waits only slots = not (length (may_serve only slots) == 0)

-- Whether a device step is ready at a time, when the alarm's clock shows a tick, of those that serve all slots, or one
-- alone: something is to come in; an alarm is due; a write waits and the UART is free; a read waits and bytes came in;
-- a request for random bytes waits; one for storage waits.
abbrev pub can_act_at : Option ℕ → ℕ → ℕ → List Own → Devices → Dev → Bool
can_act_at only time now owns d dev.Event = is_time time d.arrivals
can_act_at only time now owns d dev.Alarm = is_some (alarm.due_for only now owns)
can_act_at only time now owns d dev.Uart = one_waits only d.waiting.writes && nat_le (line_by only d).free time
can_act_at only time now owns d dev.Receive =
    one_waits only d.waiting.reads && not (length (line_by only d).ring == 0)
can_act_at only time now owns d dev.Random = one_waits only d.waiting.randoms
can_act_at only time now owns d dev.Store = one_waits only d.waiting.stores

-- when the UART is free again, where a write waits that may be served
abbrev pub sending_time : Option ℕ → Devices → Option ℕ
sending_time only d = if one_waits only d.waiting.writes then Some (line_by only d).free else None

-- What there is to do for the devices: which device steps are ready now; and the nearest time at which one becomes
-- ready by itself: something comes in, an alarm becomes due, or the UART is free for a write that waits.
pub record Work : Type 0 where
  pub ready : Dev → Bool
  pub next : Option ℕ

-- the work for all slots, or for one alone, at a time with what the clock shows then, by what processes keep and by the
-- devices
abbrev pub work_at : Option ℕ → ℕ → ℕ → List Own → Devices → Work
work_at only time now owns d = record {
  ready = can_act_at only time now owns d;
  next = nearer (first_arrival_time d.arrivals)
      (nearer (option_map (λ left. time + left) (alarm.left_for only now owns)) (sending_time only d));
}

-- that in a world
abbrev pub work_in : World → Option ℕ → Work
work_in w only = work_at only w.clock.time (now_in w) (owns_in w) w.devices

-- whether a device step is ready
abbrev pub can_act : World → Dev → Bool
can_act w device = (work_in w (only_in w)).ready device

-- whether a choice may be made: below the limit of steps a slot whose process can have a turn, a device step that is
-- ready, and a pass of some ticks
unfoldable pub may_be_made : World → Choice → Bool
may_be_made w (Run slot) = unwrap_or (option_map may_turn (slice_get w.records slot)) false
may_be_made w (Device device) = (work_in w (only_in w)).ready device
may_be_made w (Pass ticks) = nat_lt 0 ticks

-- whether a choice may be made: it is ready, and the limit of steps is not reached
abbrev pub is_ready : World → Choice → Bool
is_ready w choice = nat_lt w.clock.steps STEP_LIMIT && may_be_made w choice

-- the world after a turn of a slot's process
abbrev pub after_turn_of : World → ℕ → Turned → World
after_turn_of w slot t = record w {
  records = slice_set w.records slot t.after;
  devices = routed slot t.acts w.devices;
  clock = record { time = w.clock.time + 1; steps = w.clock.steps + 1 };
  present = record { slot = Some slot; used = used_after w.present.slot w.present.used w.pace.slice slot };
}

-- what a step leaves, and what it tells
pub record Stepped : Type 0 where
  pub after : World
  pub labels : List Label

-- a step that is not made
abbrev pub unmade : World → Stepped
unmade w = record { after = w; labels = [] }

-- the turn of a process is made, if there is one in the slot
abbrev pub ran : World → ℕ → Option Record → Stepped
ran w slot None = unmade w
ran w slot (Some r) =
    let t = turned w.settings w.clock.time r in
    record { after = after_turn_of w slot t; labels = turn_label slot w.clock.time t.told ∷ [] }

-- the records after a step, of the slots in order: each process was told what it was told
abbrev pub records_told : Settings → (ℕ → Option Answer) → List Record → List Record
records_told settings told [] = []
records_told settings told (r ∷ rs) =
    unwrap_or (option_map (λ answer. apply settings answer.event r) (told 0)) r
    ∷ records_told settings (λ slot. told (suc slot)) rs

-- what a step tells of the slots in order, from one on: of each whose process was told anything
abbrev pub labels_told : (ℕ → Option Answer) → ℕ → List Record → List Label
labels_told told slot [] = []
labels_told told slot (r ∷ rs) =
    option_to_list (option_map (answer_label slot) (told slot)) ++ labels_told told (suc slot) rs

-- the world after a device's step, which takes no time
abbrev pub after_deed : World → DeviceStep → World
after_deed w deed = record w {
  records = records_told w.settings deed.told w.records;
  devices = deed.devices;
  clock = record w.clock { steps = w.clock.steps + 1 };
}

-- the step of a device, if it has anything to do
abbrev pub done : World → Option DeviceStep → Stepped
done w None = unmade w
done w (Some deed) = record { after = after_deed w deed; labels = labels_told deed.told 0 w.records }

-- what a choice comes to where it is ready; while ticks pass nothing acts
unfoldable pub carried_out : World → Choice → Stepped
carried_out w (Run slot) = ran w slot (slice_get w.records slot)
carried_out w (Device device) = done w (device_step_of w device)
carried_out w (Pass ticks) =
    record (unmade w) { after = record w { clock = record { time = w.clock.time + ticks; steps = w.clock.steps + 1 } } }

-- one step; a choice that is not ready is not made: nothing changes, and nothing is told
unfoldable pub stepped : World → Choice → Stepped
stepped w choice = if is_ready w choice then carried_out w choice else unmade w

-- the world after a choice; the same where it may not be made
abbrev pub after : World → Choice → World
after w choice = (stepped w choice).after

-- what a choice tells; nothing where it may not be made
abbrev pub labels : World → Choice → List Label
labels w choice = (stepped w choice).labels
