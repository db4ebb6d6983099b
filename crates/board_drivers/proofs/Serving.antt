-- What each device tells the process that it serves is that device's step of the world. A device is a value
-- (`Answering`): its line, its answer to a process, the drivers after it, and what is printed; `acts_on` asks of it
-- only that it serves whoever is first (`ServesWhoeverIsFirst`), which each device's lemma computes field by field,
-- from the answer's definition.
use Rattle.std.proofs.Common.{◌≡◌, ℕ, zero, suc, ◌+◌, ◌*◌, ◌^◌, ◌==◌, ◌<◌, ◌≤◌, Bool, true, false, not, ◌&&◌, nat_le}
use Rattle.std.proofs.Common.{if◌then◌else◌, List, [], ◌∷◌, drop, take, length, slice_get, slice_set, Option, None}
use Rattle.std.proofs.Common.{◌%◌, ◌||◌, is_none, nat_lt, slice_index_or}
use Rattle.std.proofs.Common.{Some, Result, Ok, Err, is_ok, is_some, All, IfSome, OnErr, unwrap_or, refl, sym, ap, ap₂}
use Rattle.std.proofs.Common.{◌∙◌, arith, eq-eqb}
use Rattle.std.specs.List.{AllByRecursion}
use Rattle.std.specs.Option.{option_map}
use Rattle.std.proofs.lemmas.Bool.{false≢true}
use Rattle.std.proofs.lemmas.Bool.Decides.{nat_tests}
use Rattle.std.proofs.lemmas.List.{length-set, set-get_or}
use Rattle.std.proofs.lemmas.List.Elements.{All-set, All-weaker}
use Rattle.std.proofs.lemmas.Nat.{mul-le}
use Rattle.std.proofs.lemmas.Option.{slice_get-get_or}
use Rattle.tk_base.specs.declared.limits.TheConstants.{BYTE_TICKS_LIMIT, PRINT_LIMIT, SENDING_LIMIT, STEP_LIMIT}
use Rattle.arrayvec.specs.ArrayVec.{ArrayVec}
use Rattle.tk_base.specs.declared.process.Dev.{Dev}
use Rattle.tk_base.specs.declared.process.Dev.TheVariants.{Alarm, Uart, Receive, Random, Store}
use Rattle.tk_base.specs.declared.process.ProcessId.{ProcessId}
use Rattle.board_devices.specs.declared.answer.Answer.{Answer}
use Rattle.tk_base.specs.declared.process.NotReady.{NotReady}
use Rattle.board_devices.specs.Clock.{clock_at}
use Rattle.board_devices.specs.SerialLine.{SerialLine, line_at}
use Rattle.board_devices.specs.Parts.{no_line}
use Rattle.board_devices.specs.Storage.{StoredSlots, is_fault, with_served}
use Rattle.tk_outside.specs.Count.{counted}
use Rattle.process_model.specs.Flash.{HasObject, ReadsOwnFlash, flash_byte, object_byte, object_in}
use Rattle.process_model.specs.Handed.{HoldsInPlace, held}
use Rattle.process_model.specs.Served.{bytes_at}
use Rattle.tk_base.specs.declared.kinds.PairKind.TheVariants.{ReadOnly}
use Rattle.grant_values.specs.declared.console.WaitingWrite.{WaitingWrite}
use Rattle.process_model.specs.Own.{Own}
use Rattle.process_record.specs.declared.process.Process.{Process}
use Rattle.driver_model.specs.Answers.{EventsTellSteps, LinesFollowAnswers, queue_left_by}
use Rattle.driver_model.specs.Commands.{QueueName, Writes, Reads, Randoms, Stores, is_same}
use Rattle.driver_model.specs.Console.{console, console_writes, input, next_bytes, portion}
use Rattle.driver_model.specs.Console.{received, sending, sent, taken, taking, write_completing}
use Rattle.driver_model.specs.Console.{write_done}
use Rattle.driver_model.specs.Requests.{RequestAnswered, unanswered, waiting_in}
use Rattle.driver_model.specs.Steps.{DriverStep, own_after}
use Rattle.driver_model.specs.Alarm.{answered, due_for}
use Rattle.driver_model.specs.Random as random
use Rattle.driver_model.specs.Storage as storage
use Rattle.random_capsule.specs.Answers.{random_answer_to as random_to}
use Rattle.storage_capsule.specs.Answers.{answer_to as storage_to}
use Rattle.storage_capsule.specs.Serving.{store_fails_next, storage_stored}
use Rattle.grant_values.specs.declared.storage.StorageRequest.{StorageRequest}
use Rattle.driver_requests.specs.Answers.{Answered, AnswersFirst}
use Rattle.driver_requests.specs.Asking.{MayBeTold, in_life}
use Rattle.driver_requests.specs.Waiting.{first_of, waiting_still}
use Rattle.console_capsule.specs.Answers.{cannot_give, cannot_send, received_by, sending_at, write_answered}
use Rattle.grant_enter.specs.Homes.{Homes, ChangesOnly, nobody, own_of}
use Rattle.kernel_model.specs.declared.settings.Settings.{Settings}
use Rattle.kernel_model.specs.Record.{Record, record_with_step}
use Rattle.kernel_model.specs.Turn.{Event, Alarmed, Taken, WriteDone, Input, Stored, apply}
use Rattle.kernel_model.specs.Record.{flash_of}
use Rattle.kernel_model.specs.Parts.{written_over}
use Rattle.kernel_alarms.specs.Acting.{leaves_alarm}
use Rattle.kernel_model.specs.Laws.{queue_after_answer}
use Rattle.kernel_model.specs.World.{DeviceAnswer, Devices, answering, can_act, random_step}
use Rattle.kernel_model.specs.Parts.{drawn_event, alarmed}
use Rattle.kernel_model.specs.World.{may_serve, owns_in}
use Rattle.kernel_model.specs.Named.{lane_by}
use Rattle.kernel_model.specs.Parts.{is_waited_for}
use Rattle.kernel_model.specs.World.{receive_step, serving, storing, transmitting}
use Rattle.board_drivers.specs.declared.drivers.Drivers.{Drivers}
use Rattle.board_drivers.specs.Calm.{only_of}
use Rattle.board_drivers.specs.Driven.{AreDriven, IsThere, devices_of, ids_waiting_in, slots_of, waiting_by}
use Rattle.kernel_calls.specs.Residents.{HasLost, IsResident, record_of}
use Rattle.board_drivers.proofs.Records.{beside, bytes_of, record_found}
use Rattle.board_drivers.specs.Tells.{Acted, HoldsFor, IsFreeSoon, DeviceServes, DeviceTold}
use Rattle.board_drivers.proofs.Records.{found_at, lost_there, seated_there}
use Rattle.board_drivers.proofs.OwnFlash.{answered_of_own, sent_of_own}
use Rattle.board_drivers.proofs.Routing.{slots_without}
use Rattle.board_drivers.proofs.Waiting.{first_in_lane, first_is, first_slot, lane_there, waits_if_first}
use Rattle.board_drivers.specs.Parts.{AreBoardParts, BoardParts, world_shown}

-- those that wait in each queue after an answer, as the world has them
each_left : (same completed : Bool) (slot : ℕ) (ids : List ProcessId)
    → slots_of (waiting_still (same && completed) slot ids)
    ≡ (if same then queue_after_answer completed slot (slots_of ids) else slots_of ids)
each_left true true slot ids = slots_without slot ids
each_left true false slot ids = refl
each_left false completed slot ids = refl

-- a count that is far from its last value
counted_next : (n : ℕ) → n < 2 ^ 32 → counted n ≡ n + 1
counted_next n h = omega (arith, h)

-- the UART can send, and can give what came in
pub can_send : (only : Option ℕ) (ids : List ProcessId) (line : SerialLine) (time : ℕ)
    → (is_waited_for (may_serve only (slots_of ids)) && nat_le line.free time) ≡ not (cannot_send only ids line time)
can_send only ids line time = rw (waits_if_first only ids) (by_first (first_of only ids))
  where
    by_first : (o : Option ProcessId)
        → (is_some o && nat_le line.free time) ≡ not (is_none o || nat_lt time line.free)
    by_first None = refl
    by_first (Some id) = grind (arith, nat_tests)

pub can_give : (only : Option ℕ) (ids : List ProcessId) (line : SerialLine)
    → (is_waited_for (may_serve only (slots_of ids)) && not (length line.ring == 0)) ≡ not (cannot_give only ids line)
can_give only ids line = rw (waits_if_first only ids) (elim (first_of only ids) as (λ o.
    (is_some o && not (length line.ring == 0)) ≡ not (is_none o || length line.ring == 0))
    [ None ↦ refl | Some id ↦ refl ])

-- some wait that may be served exactly where one was answered
pub waited_for : {D : Type 0} (only : Option ℕ) (answer_to : ProcessId → Answered D) (ids : List ProcessId) (x : D)
    (old : Homes) (o : Result Answer NotReady) (ids' : List ProcessId) (y : D) (new : Homes)
    → OnErr o (first_of only ids ≡ None) → AnswersFirst only answer_to ids x old o ids' y new
    → is_waited_for (may_serve only (slots_of ids)) ≡ is_ok o
waited_for only answer_to ids x old (Err refusal) ids' y new none answers =
    waits_if_first only ids ∙ ap is_some none
waited_for only answer_to ids x old (Ok answer) ids' y new none answers =
    waits_if_first only ids ∙ ap is_some answers.0

-- the slot that alone is served on a board, if one is; the lane by which devices serve; and its line
abbrev pub only_on : BoardParts → Option ℕ
only_on b = only_of b.moment

abbrev pub lane_on : BoardParts → ℕ
lane_on b = lane_by (only_on b)

abbrev pub line_on : BoardParts → SerialLine
line_on b = line_at (lane_on b) b.drivers.uarts

abbrev pub words_on : BoardParts → List ℕ
words_on b = slice_index_or b.drivers.words (lane_on b) []

-- the drivers with another line in that lane, and with other words
abbrev pub with_line : BoardParts → SerialLine → List SerialLine
with_line b line = slice_set b.drivers.uarts (lane_on b) line

abbrev pub with_words : BoardParts → List ℕ → List (List ℕ)
with_words b words = slice_set b.drivers.words (lane_on b) words

-- what a device does that tells a process something
abbrev telling : Event → List ℕ → Devices → DeviceAnswer
telling event printed devices = record { answer = record { event = event; printed = printed }; devices = devices }

module _ (b : BoardParts) (h : AreBoardParts b) (id : ProcessId) (is_there : IsThere b.home.owns id) where
  own : Own
  own = own_of b.home id.slot

  own_was : slice_get b.home.owns id.slot ≡ Some (own_of b.home id.slot)
  own_was = slice_get-get_or b.home.owns id.slot nobody is_there.0

  pub process_there : (process : Process) × (slice_get b.processes id.slot ≡ Some process)
  process_there = found_at b.processes id.slot (omega (arith, is_there.0, h.owns))

  pub its_process : Process
  its_process = process_there.0

  abbrev pub its_record : Record
  its_record = record_of b.home.flash b.drivers.buttons.pressed
      ((its_process, own_of b.home id.slot), bytes_of b.drivers.stores.slots id.slot)

  pub its_seat : IsResident b.home.flash b.moment.steps (its_process, own_of b.home id.slot)
  unfolding its_process
  its_seat = seated_there b.home.flash b.moment.steps b.processes b.home.owns id.slot
      (its_process, own_of b.home id.slot) process_there.1 own_was h.seated

  pub its_process_was : slice_get b.processes id.slot ≡ Some its_process
  unfolding its_process
  its_process_was = process_there.1

  pub its_object : HasObject (length b.home.flash) (own_of b.home id.slot).object (own_of b.home id.slot).layout
  its_object = rw its_seat.own.object_is its_seat.own.object.lies

  pub its_record_was : slice_get (world_shown b).records id.slot ≡ Some its_record
  its_record_was =
      record_found b.home.flash b.drivers.buttons.pressed b.processes b.home.owns b.drivers.stores.slots id.slot
      its_process (own_of b.home id.slot) its_process_was own_was
      (beside b.processes b.home.owns b.drivers.stores.slots h.owns h.few h.driven.slots)

  -- a device that does not serve the serial line leaves it as it is
  uarts_stay : IsFreeSoon b.moment.time b.drivers.uarts b.drivers.uarts
  uarts_stay = record { lanes = refl; ticks = h.driven.ticks; free = h.driven.free }

  -- one that does leaves the others as they are
  uart_changes : (line : SerialLine) → line.ticks ≡ (line_on b).ticks
      → ((line_on b).ticks ≤ BYTE_TICKS_LIMIT → (line_on b).free ≤ b.moment.time + SENDING_LIMIT → line.free ≤
      b.moment.time + SENDING_LIMIT)
      → IsFreeSoon b.moment.time b.drivers.uarts (with_line b line)
  uart_changes line ticks free =
      let lines : List SerialLine = b.drivers.uarts in
      let lane : ℕ = lane_on b in
      let there : lane < length lines = omega (arith, lane_there b.moment.time b.moment.window, h.lanes.lines) in
      let ticks_there : (line_on b).ticks ≤ BYTE_TICKS_LIMIT = h.driven.ticks lane no_line there in
      let free_there : (line_on b).free ≤ b.moment.time + SENDING_LIMIT = h.driven.free lane no_line there in
      record {
        lanes = length-set lines lane line;
        ticks = All-set (λ (l : SerialLine). l.ticks ≤ BYTE_TICKS_LIMIT) lines lane line
            (omega (arith, ticks, ticks_there)) h.driven.ticks;
        free = All-set (λ (l : SerialLine). l.free ≤ b.moment.time + SENDING_LIMIT) lines lane line
            (free ticks_there free_there) h.driven.free;
      }

  -- and one that is not the storage leaves the storage as it is
  stores_stay : HoldsFor b.moment.steps id.slot (bytes_of b.drivers.stores.slots id.slot) b.drivers.stores
      b.drivers.stores
  stores_stay = record {
    size = refl;
    lanes = refl;
    counts = All-weaker (λ count. count ≤ b.moment.steps) (λ count. count ≤ b.moment.steps + 1)
        (λ count few. omega (arith, few)) b.drivers.stores.served h.served;
    slots = sym (set-get_or b.drivers.stores.slots id.slot []);
  }

  -- the deed of a device for the first of a line, where that leaves these drivers
  first_deed : (deed : ℕ → Record → DeviceAnswer) (here : QueueName) (completed : Bool) (event : Event)
      (printed : List ℕ) (d : Drivers) → first_of (only_on b) (ids_waiting_in b.drivers here) ≡ Some id
      → ((queue : QueueName) → ids_waiting_in d queue
      ≡ waiting_still (queue_left_by here completed queue) id.slot (ids_waiting_in b.drivers queue))
      → deed id.slot its_record ≡ telling event printed (record (devices_of d) {
        waiting = waiting_by (λ queue. let slots = slots_of (ids_waiting_in b.drivers queue) in
            if is_same here queue then queue_after_answer completed id.slot slots else slots);
      })
      → serving (world_shown b).records deed (slice_get (may_serve (only_on b)
      (slots_of (ids_waiting_in b.drivers here))) 0) ≡ Some (answering id.slot (telling event printed (devices_of d)))
  first_deed deed here completed event printed d e left does =
      ap (serving (world_shown b).records deed) (first_slot (only_on b) (ids_waiting_in b.drivers here)
      ∙ ap (option_map (λ (x : ProcessId). x.slot)) e)
      ∙ ap (option_map (λ (x : Record). answering id.slot (deed id.slot x))) its_record_was
      ∙ ap (λ (a : DeviceAnswer). Some (answering id.slot a)) (does ∙ (λ i. telling event printed (record
      (devices_of d) {
        waiting = waiting_by (λ queue. sym (ap slots_of (left queue)
            ∙ each_left (is_same here queue) completed id.slot (ids_waiting_in b.drivers queue)) i);
      })))

  -- what a device did for a process is what it told it
  pub told_by : (device : Dev) (printed : List ℕ) (o : Own) (home : Homes) (d : Drivers)
      → ChangesOnly id.slot b.home home → own_of home id.slot ≡ o → can_act (world_shown b) device ≡ true
      → DeviceServes b its_process device id.slot printed o d → DeviceTold b device id.slot printed home d
  told_by device printed o home d only is may serves = record {
    process = its_process;
    was = its_process_was;
    there = is_there.0;
    only = only;
    may = may;
    serves = rw is serves;
  }

-- each buffer that a process holds may be lent
abbrev pub Lent : Homes → Type 0
Lent home = (slot : ℕ) → slot < length home.owns → HoldsInPlace (own_of home slot)

-- whoever waits is there
waiters_there : (b : BoardParts) → AreBoardParts b → (here : QueueName)
    → AllByRecursion (IsThere b.home.owns) (ids_waiting_in b.drivers here)
waiters_there b h here = (h.driven.queues here).there

-- and may be told something
pub first_may_be_told : (only : Option ℕ) (queue : QueueName) (settings : Settings) (time steps : ℕ) (home : Homes)
    (d : Drivers) → AreDriven settings time home.owns d → All (HasLost steps) home.owns → steps < STEP_LIMIT
    → IfSome (first_of only (ids_waiting_in d queue)) (MayBeTold home)
first_may_be_told only queue settings time steps home d driven lost below =
    by_first (first_of only (ids_waiting_in d queue)) refl
  where
    by_first : (o : Option ProcessId) → first_of only (ids_waiting_in d queue) ≡ o → IfSome o (MayBeTold home)
    by_first None e = tt
    by_first (Some id) e =
        let there : IsThere home.owns id =
        first_is (IsThere home.owns) only (ids_waiting_in d queue) id e (driven.queues queue).there in
        record {
          slot = there.0;
          dropped = omega (arith, lost_there steps home id.slot lost, below);
        }

-- A device that answers the first of a line: what its answer to a process comes to; the drivers by who waits in the
-- line and by the device afterwards, and what was printed then.
pub record Answering (D : Type 0) : Type 0 where
  pub device : Dev
  pub here : QueueName
  pub answer_to : ProcessId → Answered D
  pub after : List ProcessId → D → Drivers
  pub prints : D → List ℕ

-- what such a device does for a process by an answer, where it is the first
abbrev pub ServesFirst : {D : Type 0} (b : BoardParts) (h : AreBoardParts b) (id : ProcessId) → IsThere b.home.owns id
    → Answering D
    → Answered D → Type 0
ServesFirst b h id there is a =
    DeviceServes b (its_process b h id there) is.device id.slot (is.prints a.device) (own_after a.step)
    (is.after (waiting_still a.completed id.slot (ids_waiting_in b.drivers is.here)) a.device)

-- and that it does it for whoever is the first
abbrev pub ServesWhoeverIsFirst : {D : Type 0} (b : BoardParts) → AreBoardParts b → Answering D → Type 0
ServesWhoeverIsFirst b h is = (id : ProcessId) (there : IsThere b.home.owns id)
    → first_of (only_on b) (ids_waiting_in b.drivers is.here) ≡ Some id
    → ServesFirst b h id there is (is.answer_to id)

-- So it does where it is to act: it serves the first, or may not act, and then nothing changes.
pub acts_on : {D : Type 0} (b : BoardParts) (h : AreBoardParts b) (is : Answering D) (x : D)
    → is.after (ids_waiting_in b.drivers is.here) x ≡ b.drivers → ServesWhoeverIsFirst b h is
    → (o : Result Answer NotReady) (home : Homes) (ids : List ProcessId) (y : D)
    → can_act (world_shown b) is.device ≡ is_ok o
    → AnswersFirst (only_on b) is.answer_to (ids_waiting_in b.drivers is.here) x b.home o ids y home
    → Acted b is.device o (is.prints y) home (is.after ids y)
acts_on b h is x before serves (Err refusal) home ids y may answers =
    (may, answers.2, ap₂ is.after answers.0 answers.1 ∙ before)
acts_on b h is x before serves (Ok answer) home ids y may answers =
    let id : ProcessId = answer.to in
    let there : IsThere b.home.owns id =
    first_is (IsThere b.home.owns) (only_on b) (ids_waiting_in b.drivers is.here) id answers.0
    (waiters_there b h is.here) in
    let a = is.answer_to id in
    told_by b h id there is.device (is.prints y) (own_after a.step) home (is.after ids y) answers.5 answers.2 may
    (rw (answers.4, answers.3) (serves id there answers.0))

-- a process in the life that it is in
in_its_life : {X : Type 0} (life : ℕ) (own : Own) (there gone : X) → own.life ≡ life
    → in_life life own there gone ≡ there
in_its_life life own there gone is = rw (eq-eqb own.life life is) refl

-- what the UART tells of a write, and the source of a word, leaves an alarm
sent_leaves : (done : Bool) → leaves_alarm (if done then WriteDone else Taken) ≡ true
sent_leaves true = refl
sent_leaves false = refl

drawn_leaves : (drawn : Option ℕ) → leaves_alarm (drawn_event drawn) ≡ true
drawn_leaves None = refl
drawn_leaves (Some word) = refl

-- what is then its own, as an event tells
sent_applied : (settings : Settings) (done : Bool) (r : Record) (step : DriverStep)
    → step ≡ (if done then write_done r.own else taken r.own)
    → apply settings (if done then WriteDone else Taken) r ≡ record_with_step r step
unfolding apply
sent_applied settings true r step e = ap (record_with_step r) (sym e)
sent_applied settings false r step e = ap (record_with_step r) (sym e)

-- the UART is free soon after it took some bytes
free_soon : (time ticks free : ℕ) (printed : List ℕ) → ticks ≤ BYTE_TICKS_LIMIT → length printed ≤ PRINT_LIMIT
    → free ≤ time + SENDING_LIMIT
    → (if length printed == 0 then free else time + length printed * ticks) ≤ time + SENDING_LIMIT
free_soon time ticks free printed few short soon = by_length (length printed == 0)
  where
    sending : length printed * ticks ≤ SENDING_LIMIT
    sending = mul-le (length printed) ticks PRINT_LIMIT BYTE_TICKS_LIMIT short few

    by_length : (b : Bool) → (if b then free else time + length printed * ticks) ≤ time + SENDING_LIMIT
    by_length true = soon
    by_length false = omega (arith, sending)

-- one step of a write, which is finished or has bytes left
abbrev portioned : (ℕ → ℕ) → Own → Bool → WaitingWrite → RequestAnswered (List ℕ)
portioned flash own finished write =
    if finished then record { step = write_completing own write; moved = []; completed = true }
    else record { step = taking own write; moved = next_bytes flash write own; completed = false }

-- it takes so many bytes at most
sent_few : (flash : ℕ → ℕ) (own : Own) → length (sent flash own).moved ≤ PRINT_LIMIT
unfolding sent
sent_few flash own = by_write (waiting_in console_writes own)
  where
    take_few : (n : ℕ) (xs : List ℕ) → length (take n xs) ≤ n
    take_few zero xs = omega arith
    take_few (suc n) [] = omega arith
    take_few (suc n) (x ∷ xs) = omega (arith, take_few n xs)

    by_portion : (finished : Bool) (write : WaitingWrite)
        → length (portioned flash own finished write).moved ≤ PRINT_LIMIT
    by_portion true write = omega arith
    by_portion false write =
        omega (
          arith,
          take_few (portion write own)
              (drop write.taken (bytes_at flash own (held ReadOnly console 1 own))),
        )

    by_write : (o : Option WaitingWrite)
        → length (unwrap_or (option_map (sending flash own) o) (unanswered [] own)).moved ≤ PRINT_LIMIT
    by_write None = omega arith
    by_write (Some write) = by_portion (portion write own == 0) write

-- the UART, as it takes bytes of a write
abbrev pub sends : BoardParts → Answering (ArrayVec ℕ)
sends b = record {
  device = Uart;
  here = Writes;
  answer_to = write_answered b.home;
  after = λ ids printed.
      record b.drivers {
        console = record { writes = ids; reads = b.drivers.console.reads };
        uarts = with_line b (sending_at b.moment.time printed.items (line_on b));
      };
  prints = λ printed. printed.items;
}

pub serves_sent : (b : BoardParts) (h : AreBoardParts b) → LinesFollowAnswers → EventsTellSteps → ReadsOwnFlash
    → Lent b.home
    → ServesWhoeverIsFirst b h (sends b)
serves_sent b h lines events law lent id is_there first =
    let own : Own = own_of b.home id.slot in
    let r : Record = its_record b h id is_there in
    let s : RequestAnswered (List ℕ) = sent (flash_of r) own in
    let same : in_life id.life own (sent (flash_byte b.home.flash) own) (unanswered [] own) ≡ s =
    in_its_life id.life own _ (unanswered [] own) is_there.1
    ∙ sent_of_own b.home.flash own law (its_object b h id is_there) (lent id.slot is_there.0)
    ∙ ap (λ (o : _). sent (object_byte o (object_in b.home.flash o)) own) (its_seat b h id is_there).own.object_is in
    let ids = waiting_still s.completed id.slot b.drivers.console.writes in
    rw same (record {
      left = queue_left_by Writes s.completed;
      follows = lines.writes (flash_of r) own;
      lines = elim [ Writes ↦ refl | Reads ↦ refl | Randoms ↦ refl | Stores ↦ refl ];
      leds = refl;
      buttons = refl;
      lines_ready = uart_changes b h id is_there (sending_at b.moment.time s.moved (line_on b)) refl
          (λ ticks. free_soon b.moment.time (line_on b).ticks (line_on b).free s.moved ticks
          (sent_few (flash_of r) own));
      words_left = refl;
      bytes = bytes_of b.drivers.stores.slots id.slot;
      stores = stores_stay b h id is_there;
      event = if s.completed then WriteDone else Taken;
      leaves = λ other. sent_leaves s.completed;
      deed = first_deed b h id is_there (transmitting (lane_on b) b.moment.time (devices_of b.drivers)) Writes
          s.completed _ s.moved ((sends b).after ids (record { items = s.moved })) first
          (elim [ Writes ↦ refl | Reads ↦ refl | Randoms ↦ refl | Stores ↦ refl ]) refl;
      tells = sent_applied b.moment.settings s.completed r s.step (events.writes (flash_of r) own);
    })

input_applied : (settings : Settings) (bytes : List ℕ) (r : Record) (step : DriverStep) → step ≡ input bytes r.own
    → apply settings (Input bytes) r ≡ record_with_step r step
unfolding apply
input_applied settings bytes r step e = ap (record_with_step r) (sym e)

-- the UART, as bytes that came in go to a read
abbrev pub receives : BoardParts → Answering SerialLine
receives b = record {
  device = Receive;
  here = Reads;
  answer_to = received_by (line_on b) b.home;
  after = λ ids line.
      record b.drivers {
        console = record { writes = b.drivers.console.writes; reads = ids };
        uarts = with_line b line;
      };
  prints = λ line. [];
}

pub serves_received : (b : BoardParts) (h : AreBoardParts b) → LinesFollowAnswers → EventsTellSteps
    → ServesWhoeverIsFirst b h (receives b)
serves_received b h lines events id is_there first =
    let own : Own = own_of b.home id.slot in
    let r : Record = its_record b h id is_there in
    let ring : List ℕ = (line_on b).ring in
    let s : RequestAnswered (List ℕ) = received ring own in
    let ids = waiting_still s.completed id.slot b.drivers.console.reads in
    let line = record (line_on b) { ring = drop (length s.moved) ring } in
    rw (in_its_life id.life own s (unanswered [] own) is_there.1) (record {
      left = queue_left_by Reads s.completed;
      follows = lines.reads ring own;
      lines = elim [ Writes ↦ refl | Reads ↦ refl | Randoms ↦ refl | Stores ↦ refl ];
      leds = refl;
      buttons = refl;
      lines_ready = uart_changes b h id is_there line refl (λ ticks free. free);
      words_left = refl;
      bytes = bytes_of b.drivers.stores.slots id.slot;
      stores = stores_stay b h id is_there;
      event = Input s.moved;
      leaves = λ other. refl;
      deed = first_deed b h id is_there (receive_step (lane_on b) (devices_of b.drivers)) Reads s.completed _ []
          ((receives b).after ids line) first
          (elim [ Writes ↦ refl | Reads ↦ refl | Randoms ↦ refl | Stores ↦ refl ]) refl;
      tells = input_applied b.moment.settings s.moved r s.step (events.reads ring own);
    })

-- what a process has as its own once a word was drawn for it, or none
drawn_applied : (settings : Settings) (drawn : Option ℕ) (r : Record) (step : DriverStep)
    → step ≡ (random.answered drawn r.own).step
    → apply settings (drawn_event drawn) r ≡ record_with_step r step
unfolding apply
drawn_applied settings None r step e = ap (record_with_step r) (sym e)
drawn_applied settings (Some word) r step e = ap (record_with_step r) (sym e)

-- the source of random bytes, as it answers a request
abbrev pub draws : BoardParts → Answering (List ℕ)
draws b = record {
  device = Random;
  here = Randoms;
  answer_to = random_to (words_on b) b.home;
  after = λ ids words. record b.drivers { random = record { waiting = ids }; words = with_words b words };
  prints = λ words. [];
}

pub serves_drawn : (b : BoardParts) (h : AreBoardParts b) → LinesFollowAnswers → EventsTellSteps
    → ServesWhoeverIsFirst b h (draws b)
serves_drawn b h lines events id is_there first =
    let own : Own = own_of b.home id.slot in
    let r : Record = its_record b h id is_there in
    let words : List ℕ = words_on b in
    let word : Option ℕ = slice_get words 0 in
    let s : RequestAnswered (Option ℕ) = random.answered word own in
    let ids = waiting_still s.completed id.slot b.drivers.random.waiting in
    let rest = random.words_after s.moved words in
    rw (in_its_life id.life own s (unanswered None own) is_there.1) (record {
      left = queue_left_by Randoms s.completed;
      follows = lines.randoms word own;
      lines = elim [ Writes ↦ refl | Reads ↦ refl | Randoms ↦ refl | Stores ↦ refl ];
      leds = refl;
      buttons = refl;
      lines_ready = uarts_stay b h id is_there;
      words_left = length-set b.drivers.words (lane_on b) rest;
      bytes = bytes_of b.drivers.stores.slots id.slot;
      stores = stores_stay b h id is_there;
      event = drawn_event s.moved;
      leaves = λ other. drawn_leaves s.moved;
      deed = first_deed b h id is_there (random_step (lane_on b) (devices_of b.drivers)) Randoms s.completed _ []
          ((draws b).after ids rest) first
          (elim [ Writes ↦ refl | Reads ↦ refl | Randoms ↦ refl | Stores ↦ refl ]) refl;
      tells = drawn_applied b.moment.settings s.moved r s.step (events.randoms word own);
    })

-- the answer to a request, if there is one
abbrev answer_to : Bool → (ℕ → ℕ) → List ℕ → Own → Option StorageRequest → RequestAnswered (Option (ℕ × List ℕ))
answer_to fault flash bytes own o =
    unwrap_or (option_map (λ (request : StorageRequest). storage.finished
    (storage.storage_served fault flash bytes request own)) o) (unanswered None own)

-- nothing is written for a request that did not complete
not_written : (fault : Bool) (flash : ℕ → ℕ) (bytes : List ℕ) (own : Own)
    → let a = storage.answered fault flash bytes own in a.completed ≡ false → a.moved ≡ None
unfolding storage.answered
not_written fault flash bytes own e = by_request (waiting_in storage.storages own) e
  where
    by_request : (o : Option StorageRequest) → (answer_to fault flash bytes own o).completed ≡ false
        → (answer_to fault flash bytes own o).moved ≡ None
    by_request None e = refl
    by_request (Some request) e = absurd (false≢true (sym e))

-- the bytes of the slots after an answer
slots_after : (s : StoredSlots) (slot : ℕ) (completed : Bool) (written : Option (ℕ × List ℕ))
    → (completed ≡ false → written ≡ None)
    → (if completed then storage_stored slot written s else s).slots
    ≡ slice_set s.slots slot (written_over (bytes_of s.slots slot) written)
slots_after s slot true None none = sym (set-get_or s.slots slot [])
slots_after s slot true (Some written) none = refl
slots_after s slot false written none =
    sym (ap (λ (w : Option (ℕ × List ℕ)). slice_set s.slots slot (written_over (bytes_of s.slots slot) w)) (none refl)
    ∙ set-get_or s.slots slot [])

-- what else the storage has
kept_beside : (s : StoredSlots) (slot : ℕ) (completed : Bool) (written : Option (ℕ × List ℕ))
    → let s' : StoredSlots = if completed then storage_stored slot written s else s in
    (s'.size ≡ s.size) × (s'.faults ≡ s.faults)
kept_beside s slot true None = (refl, refl)
kept_beside s slot true (Some written) = (refl, refl)
kept_beside s slot false written = (refl, refl)

-- how many requests were served in each lane
served_then : (s : StoredSlots) (slot lane : ℕ) (completed : Bool) (written : Option (ℕ × List ℕ))
    → slot % length s.served ≡ lane → slice_index_or s.served lane 0 < 2 ^ 32
    → (if completed then storage_stored slot written s else s).served
    ≡ (let count = slice_index_or s.served lane 0 in
    slice_set s.served lane (if completed then count + 1 else count))
served_then s slot lane false written is few = sym (set-get_or s.served lane 0)
served_then s slot lane true written is few =
    by_written written
    ∙ ap (λ (l : ℕ). slice_set s.served l (counted (slice_index_or s.served l 0))) is
    ∙ ap (slice_set s.served lane) (counted_next (slice_index_or s.served lane 0) few)
  where
    by_written : (o : Option (ℕ × List ℕ)) → (storage_stored slot o s).served ≡ (with_served slot s).served
    by_written None = refl
    by_written (Some w) = refl

stored_applied : (settings : Settings) (fails : Bool) (r : Record)
    → let a = storage.answered fails (flash_of r) r.storage r.own in
    apply settings (Stored (not fails)) r ≡ record
    (record_with_step r a.step) { storage = written_over r.storage a.moved }
unfolding apply
stored_applied settings true r = refl
stored_applied settings false r = refl

-- the storage, as it serves a request
abbrev pub stores : BoardParts → Answering StoredSlots
stores b = record {
  device = Store;
  here = Stores;
  answer_to = storage_to b.drivers.stores b.home;
  after = λ ids s. record b.drivers { storage = record { waiting = ids }; stores = s };
  prints = λ s. [];
}

pub serves_stored : (b : BoardParts) (h : AreBoardParts b) → LinesFollowAnswers → ReadsOwnFlash → Lent b.home
    → ServesWhoeverIsFirst b h (stores b)
serves_stored b h lines law lent id is_there first =
    let own : Own = own_of b.home id.slot in
    let r : Record = its_record b h id is_there in
    let s : StoredSlots = b.drivers.stores in
    let lane : ℕ = lane_on b in
    let there : lane < length s.served = omega (arith, lane_there b.moment.time b.moment.window, h.lanes.served) in
    let count : ℕ = slice_index_or s.served lane 0 in
    let counted_few : count ≤ b.moment.steps = h.served lane 0 there in
    let few : count < 2 ^ 32 = omega (arith, counted_few, h.steps) in
    let lane_is : id.slot % length s.served ≡ lane = ap (λ (n : ℕ). id.slot % n) h.lanes.served
    ∙ first_in_lane b.moment.time b.moment.window b.drivers.storage.waiting id first
    (omega (arith, is_there.0, h.owns, h.few)) in
    let fails : Bool = is_fault s.faults (count + 1) in
    let bytes : List ℕ = bytes_of s.slots id.slot in
    let a : RequestAnswered (Option (ℕ × List ℕ)) = storage.answered fails (flash_of r) bytes own in
    let flash : ℕ → ℕ = flash_byte b.home.flash in
    let answered = storage.answered (store_fails_next id.slot s) flash bytes own in
    let same : in_life id.life own answered (unanswered None own) ≡ a =
    in_its_life id.life own answered (unanswered None own) is_there.1
    ∙ ap (λ (n : ℕ). storage.answered (is_fault s.faults n) flash bytes own)
    (ap (λ (l : ℕ). counted (slice_index_or s.served l 0)) lane_is ∙ counted_next count few)
    ∙ answered_of_own fails b.home.flash bytes own law (its_object b h id is_there) (lent id.slot is_there.0)
    ∙ ap (λ (o : _). storage.answered fails (object_byte o (object_in b.home.flash o)) bytes own)
    (its_seat b h id is_there).own.object_is in
    let s' : StoredSlots = if a.completed then storage_stored id.slot a.moved s else s in
    let kept = kept_beside s id.slot a.completed a.moved in
    let served = served_then s id.slot lane a.completed a.moved lane_is few in
    rw same (record {
      left = queue_left_by Stores a.completed;
      follows = lines.stores fails (flash_of r) bytes own;
      lines = elim [ Writes ↦ refl | Reads ↦ refl | Randoms ↦ refl | Stores ↦ refl ];
      leds = refl;
      buttons = refl;
      lines_ready = uarts_stay b h id is_there;
      words_left = refl;
      bytes = written_over bytes a.moved;
      stores = record {
        size = kept.0;
        lanes = ap length served ∙ length-set s.served lane _;
        counts = rw served (All-set (λ n. n ≤ b.moment.steps + 1) s.served lane _
            (one_more a.completed count b.moment.steps counted_few) (stores_stay b h id is_there).counts);
        slots = slots_after s id.slot a.completed a.moved (not_written fails (flash_of r) bytes own);
      };
      event = Stored (not fails);
      leaves = λ other. refl;
      deed = first_deed b h id is_there (storing lane (devices_of b.drivers)) Stores a.completed _ []
          ((stores b).after (waiting_still a.completed id.slot b.drivers.storage.waiting) s') first
          (elim [ Writes ↦ refl | Reads ↦ refl | Randoms ↦ refl | Stores ↦ refl ]) (rw (served, kept.1) refl);
      tells = stored_applied b.moment.settings fails r;
    })
  where
    one_more : (c : Bool) (n m : ℕ) → n ≤ m → (if c then n + 1 else n) ≤ m + 1
    one_more true n m e = omega (arith, e)
    one_more false n m e = omega (arith, e)

alarm_applied : (settings : Settings) (now : ℕ) (r : Record)
    → apply settings (Alarmed now) r ≡ record_with_step r (answered now r.own)
unfolding apply
alarm_applied settings now r = refl

-- the alarm of the lowest slot whose alarm is due fired
pub serves_alarmed : (b : BoardParts) (h : AreBoardParts b) (id : ProcessId) (is_there : IsThere b.home.owns id)
    → let now = clock_at b.moment.settings.start b.moment.time in
    LinesFollowAnswers → due_for (only_on b) now (owns_in (world_shown b)) ≡ Some id.slot
    → DeviceServes b (its_process b h id is_there) Alarm id.slot []
    (own_after (answered now (own_of b.home id.slot))) b.drivers
serves_alarmed b h id is_there lines due =
    let now : ℕ = clock_at b.moment.settings.start b.moment.time in
    record {
      left = λ line. false;
      follows = lines.alarms now (own_of b.home id.slot);
      lines = λ line. refl;
      leds = refl;
      buttons = refl;
      lines_ready = uarts_stay b h id is_there;
      words_left = refl;
      bytes = bytes_of b.drivers.stores.slots id.slot;
      stores = stores_stay b h id is_there;
      event = Alarmed now;
      leaves = λ other. absurd (false≢true (sym other));
      deed = ap (serving (world_shown b).records (λ slot r. alarmed b.moment.settings b.moment.time
          (devices_of b.drivers))) due
          ∙ ap (option_map (λ (r : Record). answering id.slot
          (alarmed b.moment.settings b.moment.time (devices_of b.drivers)))) (its_record_was b h id is_there);
      tells = alarm_applied b.moment.settings now (its_record b h id is_there);
    }
