-- Laws over the definitions alone. The calls are those of TRD 104; what a step reaches is this board's own rule.
use Rattle.std.specs.Prelude.{◌≡◌, ◌≢◌, ◌<◌, ◌==◌, ℕ, Bool, true, false, if◌then◌else◌, List, [], Option, None, Some}
use Rattle.std.specs.Prelude.{is_some, All, IfSome, IsTrue, map, option_and_then, slice_get, slice_set}
use Rattle.std.specs.Prelude.{◌⊎◌, ◌+◌}
use Rattle.std.specs.Option.{option_map}
use Rattle.tk_base.specs.declared.limits.TheConstants.{STEP_LIMIT}
use Rattle.tk_base.specs.declared.process.Choice.{Choice}
use Rattle.tk_base.specs.declared.process.Choice.TheVariants.{Run, Device, Pass}
use Rattle.tk_base.specs.declared.process.Dev.{Dev}
use Rattle.tk_base.specs.declared.call.CallRule.{CallRule}
use Rattle.tbf_headers.specs.Meaning.{header_reading, main_by}
use Rattle.board_devices.specs.Arriving.{differs}
use Rattle.script_text.specs.Settings.{ScriptEvent as Arrival}
use Rattle.process_record.specs.Emit.{nothing}
use Rattle.syscall_abi.specs.declared.form.CallForm.{CallForm}
use Rattle.process_model.specs.Own.{Own}
use Rattle.driver_model.specs.Commands.{BoardRequest, QueueName}
use Rattle.driver_model.specs.Drivers.{CommandContext}
use Rattle.driver_model.specs.Laws.{CommandDropsAtMostOne, CommandsStayInPlace, IsAtMostOneMore, RefusedByAnyDriver}
use Rattle.driver_model.specs.Keeping.{KeepsLimit}
use Rattle.driver_model.specs.Services.{OfEachService}
use Rattle.driver_model.specs.Lines.{IsWithin, LinesFollowCommands, OnlyDriversMoveLines}
use Rattle.driver_model.specs.Lines.{has_waiting, waits_after, waits_once}
use Rattle.process_record.specs.declared.outcome.Outcome.TheVariants.{ToDriver}
use Rattle.kernel_model.specs.Record.{Record}
use Rattle.kernel_model.specs.declared.settings.Settings.{Settings}
use Rattle.kernel_model.specs.Calls.{Served, served, refused_with, failure_of}
use Rattle.kernel_model.specs.Turn.{Turn, Turned, apply, is_act, is_turn, rule_shown, turned}
use Rattle.kernel_model.specs.Parts.{edge_known}
use Rattle.kernel_model.specs.World.{World, Answer, DeviceAnswer, Devices, Label, Stepped, after, answering}
use Rattle.kernel_model.specs.World.{device_step_of, done, is_ready, labels, labels_told}
use Rattle.kernel_model.specs.Parts.{happens, labels_of}
use Rattle.kernel_model.specs.World.{queue_without, telling_edge, unmade}
use Rattle.kernel_model.specs.Shown.{shown_by}
use Rattle.kernel_model.specs.Run.{next, next_time, ready_devices}
use Rattle.turn_scheduler.specs.RoundRobin.{ready_device}

-- what a choice that is ready tells the process in a slot: its turn, or what a device tells it
abbrev pub answer_by : World → Choice → ℕ → Option Answer
answer_by w (Run other) slot = if slot == other then Some (record { event = Turn w.clock.time; printed = [] }) else None
answer_by w (Device device) slot = option_and_then (λ deed. deed.told slot) (device_step_of w device)
answer_by w (Pass ticks) slot = None

-- under settings a record is what one event makes of the first one, or the first one where there is no event
abbrev pub ChangesByOne : Settings → Option Answer → Option Record → Option Record → Type 0
ChangesByOne settings answer first now = now ≡ option_map (happens settings answer) first

-- a world stays, and nothing is told
abbrev pub StaysUntold : World → World → List Label → Type 0
StaysUntold w v told = (v ≡ w) × (told ≡ [])

-- A step changes the record of each process by the one event that it tells it, or not at all. A choice that is not
-- ready changes nothing, and tells nothing.
pub record OnlyItsOwnEvents : Type 0 where
  pub each : (w : World) (choice : Choice) (slot : ℕ) → is_ready w choice ≡ true →
      ChangesByOne w.settings (answer_by w choice slot) (slice_get w.records slot)
      (slice_get (after w choice).records slot)
  pub unready : (w : World) (choice : Choice) → is_ready w choice ≡ false →
      StaysUntold w (after w choice) (labels w choice)

-- those that wait in a queue after an answer to one of them, whose request completed or did not
abbrev pub queue_after_answer : Bool → ℕ → List ℕ → List ℕ
queue_after_answer completed slot slots = if completed then queue_without slot slots else slots

-- a step that tells nobody anything, and leaves these devices
abbrev pub quiet : World → Devices → Stepped
quiet w devices = record {
  after = record w { devices = devices; clock = record w.clock { steps = w.clock.steps + 1 } };
  labels = [];
}

-- a step that answers one process, which has this record
abbrev pub one_answered : World → ℕ → Record → DeviceAnswer → Stepped
one_answered w slot r a = record {
  after = record w {
    records = slice_set w.records slot (apply w.settings a.answer.event r);
    devices = a.devices;
    clock = record w.clock { steps = w.clock.steps + 1 };
  };
  labels = labels_of slot (Some a.answer);
}

-- a step is one that answers a process
pub record IsOneAnswered (w : World) (s : Stepped) : Type 0 where
  pub slot : ℕ
  pub there : Record
  pub is_there : slice_get w.records slot ≡ Some there
  pub answer : DeviceAnswer
  pub is : s ≡ one_answered w slot there answer

-- the record of a process once a button is pressed, or released: it knows that, where it had another state for it
abbrev pub edge_heard : ℕ → Bool → Record → Record
edge_heard button pressed r = if differs r.pressed button pressed then edge_known button pressed r else r

-- what is told of a button that is pressed, or released, to the slots in order
abbrev pub edge_labels : ℕ → Bool → World → List Label
edge_labels button pressed w = labels_told (telling_edge button pressed w.records w.devices).told 0 w.records

-- a step that tells each process of such an edge by its own record, and leaves these devices
abbrev pub edge_done : World → ℕ → Bool → Devices → Stepped
edge_done w button pressed devices = record {
  after = record w {
    records = map (edge_heard button pressed) w.records;
    devices = devices;
    clock = record w.clock { steps = w.clock.steps + 1 };
  };
  labels = edge_labels button pressed w;
}

-- a step is one that tells of an edge which was still to come in
pub record IsEdgeTold (w : World) (s : Stepped) : Type 0 where
  pub rest : List Arrival
  pub button : ℕ
  pub pressed : Bool
  pub is : s ≡ done w (Some (telling_edge button pressed w.records (record w.devices { arrivals = rest })))

-- it is none, or one that tells nobody anything, or one that answers a process, or one that tells of an edge
abbrev pub ComesTo : World → Stepped → Type 0
ComesTo w s =
    (s ≡ unmade w) ⊎ (((devices : Devices) × (s ≡ quiet w devices)) ⊎ (IsOneAnswered w s ⊎ IsEdgeTold w s))

-- a label is that of no turn and of no operator's act, and tells of nothing printed
pub record IsSilent (label : Label) : Type 0 where
  pub no_turn : is_turn label.event ≡ false
  pub no_act : is_act label.event ≡ false
  pub prints : label.printed ≡ []

-- A device's step that answers one process, or nobody, or that tells of an edge, is that; and each is one of these, or
-- none. An edge prints nothing, and nothing is shown of it.
pub record DevicesAnswerOne : Type 0 where
  pub one : (w : World) (slot : ℕ) (a : DeviceAnswer) (r : Record) → slice_get w.records slot ≡ Some r →
      done w (Some (answering slot a)) ≡ one_answered w slot r a
  pub nobody : (w : World) (devices : Devices) →
      done w (Some (record { told = λ slot. None; devices = devices })) ≡ quiet w devices
  pub tells_edge : (w : World) (button : ℕ) (pressed : Bool) (devices : Devices) →
      done w (Some (telling_edge button pressed w.records devices)) ≡ edge_done w button pressed devices
  pub silent : (w : World) (button : ℕ) (pressed : Bool) → All IsSilent (edge_labels button pressed w)
  pub shows_nothing : (w : World) (button : ℕ) (pressed : Bool) → shown_by (edge_labels button pressed w) ≡ nothing
  pub each : (w : World) (device : Dev) → ComesTo w (done w (device_step_of w device))

-- a choice may be made below the limit of steps
abbrev pub IsReadyBelowLimit : World → Choice → Type 0
IsReadyBelowLimit w choice = w.clock.steps < STEP_LIMIT → IsTrue (is_ready w choice)

-- below the limit of steps the next choice of the round robin may be made
abbrev pub NextIsReady : Type 0
NextIsReady = (w : World) (c : Choice) → next w ≡ Some c → IsReadyBelowLimit w c

-- a time, if there is one, lies ahead
abbrev pub LiesAhead : World → Option ℕ → Type 0
LiesAhead w time = IfSome time (λ at. w.clock.time < at)

-- where no device step is ready, the nearest time at which one becomes ready lies ahead
abbrev pub NextLiesAhead : Type 0
NextLiesAhead = (w : World) → ready_device (ready_devices w) ≡ None → LiesAhead w (next_time w)

-- What serving a call left: where it is refused by a rule, the call gets the failure of that rule; of the process it
-- changes the reply registers, pc and the recorded refusal, and nothing of what else is its own (TRD 104, "Return
-- Values").
abbrev pub ChangesLittleRefused : Record → CallForm → CallRule → Served → Type 0
ChangesLittleRefused r call rule s = rule_shown s.outcome ≡ Some rule → s ≡ refused_with r rule (failure_of call rule)

-- so it is with each call, a command to a driver too
abbrev pub RefusedChangesNothingElse : Type 0
RefusedChangesNothingElse =
    (strict : Bool) (around : CommandContext) (r : Record) (call : CallForm) (rule : CallRule)
    → ChangesLittleRefused r call rule (served strict around r call)

-- a call has come to its end once it is served: no driver has it still to answer
abbrev pub NoneIsLeft : Type 0
NoneIsLeft = (strict : Bool) (around : CommandContext) (r : Record) (call : CallForm) →
    (served strict around r call).outcome ≢ ToDriver

-- a turn without a call and without a denial leaves the grants of its process as they were, and it lives as before
abbrev pub KeepsGrants : Record → Turned → Type 0
KeepsGrants r t =
    t.told.call ≡ None → t.told.denial ≡ None → (t.after.own.grants ≡ r.own.grants) × (t.after.own.lives ≡ r.own.lives)

-- What drivers keep of a process changes at its own calls alone, and at what ends its life.
abbrev pub GrantsChangeAtCalls : Type 0
GrantsChangeAtCalls = (settings : Settings) (time : ℕ) (r : Record) → KeepsGrants r (turned settings time r)

-- a turn drops one upcall at most: one that its command has a driver schedule where as many are pending as may be
abbrev pub DropsAtMostOne : Type 0
DropsAtMostOne = (settings : Settings) (time : ℕ) (r : Record) →
    IsAtMostOneMore r.own.inbox.dropped (turned settings time r).after.own.inbox.dropped

-- a process can start again: its object is that of an application (TRD 104, "Exit"; Tock Binary Format, "Main",
-- "Program")
abbrev pub CanStartAgain : Record → Type 0
CanStartAgain r = is_some (main_by (header_reading r.object)) ≡ true

-- What becomes of a process's requests, of which it had some before: it has one of a kind exactly where it waits in
-- that queue after what was asked of the board, and it is then in the same life. It begins to wait only where it does
-- not wait already. One for storage is for some of so many bytes, as one before it was.
pub record KeepsLines (size : ℕ) (own after : Own) (acts : List BoardRequest) : Type 0 where
  pub lines : (queue : QueueName) → has_waiting queue after ≡ waits_after queue (has_waiting queue own) acts
  pub once : (queue : QueueName) → waits_once queue (has_waiting queue own) acts ≡ true
  pub life : (queue : QueueName) → has_waiting queue after ≡ true → after.life ≡ own.life
  pub within : IsWithin size own → IsWithin size after

-- so it is with each turn of a process that lives, and whose object is that of an application
abbrev pub TurnsKeepLines : Type 0
TurnsKeepLines = (settings : Settings) (time : ℕ) (r : Record) → r.own.lives ≡ true → CanStartAgain r →
    let t = turned settings time r in
    KeepsLines settings.storage r.own t.after.own t.acts

-- a turn without a call and without a denial asks nothing of the board
abbrev pub ActsAtCalls : Turned → Type 0
ActsAtCalls t = t.told.call ≡ None → t.told.denial ≡ None → t.acts ≡ []

-- so it is with each turn
abbrev pub TurnsActAtCalls : Type 0
TurnsActAtCalls = (settings : Settings) (time : ℕ) (r : Record) → ActsAtCalls (turned settings time r)

-- Only proofs use this: what the laws of calls rest on, the laws of the drivers' commands and requests.
pub record DriversPromise : Type 0 where
  pub refuse : RefusedByAnyDriver
  pub drop : CommandDropsAtMostOne
  pub stay : CommandsStayInPlace
  pub follow : LinesFollowCommands
  pub alone : OnlyDriversMoveLines
  pub limit : OfEachService KeepsLimit
