-- The drivers of a board: the devices that they show, and who waits. A board shows `devices_of`; the rest is for proofs
-- alone. It is this board's own.
use Rattle.std.specs.Prelude.{◌≡◌, ◌≤◌, ◌<◌, ℕ, ◌+◌, false, List, [], length, map, replicate, slice_index_or, All}
use Rattle.std.specs.Prelude.{Option, None, Some}
use Rattle.std.specs.List.{AllByRecursion}
use Rattle.tk_base.specs.declared.call.CallRule.{CallRule}
use Rattle.tk_base.specs.declared.limits.TheConstants.{BYTE_TICKS_LIMIT, SENDING_LIMIT, SLOT_COUNT}
use Rattle.tk_base.specs.declared.process.ProcessId.{ProcessId}
use Rattle.syscall_abi.specs.declared.form.CallForm.{CallForm}
use Rattle.syscall_abi.specs.declared.form.CallForm.TheVariants.{Command}
use Rattle.syscall_abi.specs.declared.reply.Reply.{Reply}
use Rattle.board_devices.specs.Storage.{fresh_storage}
use Rattle.script_text.specs.Settings.{ScriptSettings as Script}
use Rattle.process_model.specs.Own.{Own}
use Rattle.driver_model.specs.Steps.{own_after}
use Rattle.driver_model.specs.Commands.{BoardRequest, QueueName, Writes, Reads, Randoms, Stores}
use Rattle.driver_model.specs.Drivers.{CommandHandler, handler_of}
use Rattle.syscall_abi.specs.Reply.{reply_of}
use Rattle.driver_model.specs.Requests.{request_in}
use Rattle.driver_model.specs.Lines.{IsWithin, has_waiting, kind_in}
use Rattle.tk_base.specs.Bits.{bits_of}
use Rattle.driver_model.specs.Leds.{lit_after}
use Rattle.driver_requests.specs.Waiting.{queue_after, waits}
use Rattle.grant_enter.specs.Homes.{nobody}
use Rattle.kernel_model.specs.declared.settings.Settings.{Settings}
use Rattle.kernel_model.specs.World.{Devices, WaitingSlots, lane_count}
use Rattle.kernel_calls.specs.Own.{Beside}
use Rattle.board_drivers.specs.declared.moment.Moment.{Moment}
use Rattle.board_drivers.specs.declared.drivers.Drivers.{Drivers}
use Rattle.board_drivers.specs.declared.drivers.Order.{Order}

-- the slots of those that wait
abbrev pub slots_of : List ProcessId → List ℕ
slots_of ids = map (λ id. id.slot) ids

-- those that wait in a list
abbrev pub ids_waiting_in : Drivers → QueueName → List ProcessId
ids_waiting_in d Writes = d.console.writes
ids_waiting_in d Reads = d.console.reads
ids_waiting_in d Randoms = d.random.waiting
ids_waiting_in d Stores = d.storage.waiting

-- the table of those that wait, by the name of the queue
abbrev pub waiting_by : (QueueName → List ℕ) → WaitingSlots
waiting_by slots =
    record { writes = slots Writes; reads = slots Reads; randoms = slots Randoms; stores = slots Stores }

-- the devices that the drivers show
abbrev pub devices_of : Drivers → Devices
devices_of d = record {
  waiting = record {
    writes = slots_of d.console.writes;
    reads = slots_of d.console.reads;
    randoms = slots_of d.random.waiting;
    stores = slots_of d.storage.waiting;
  };
  leds = bits_of d.leds;
  lines = d.uarts;
  arrivals = d.arrivals;
  words = d.words;
  served = d.stores.served;
  faults = d.stores.faults;
}

-- what a process has beside, with these bytes of storage: of buttons it was told what the device holds
abbrev pub beside_in : Drivers → List ℕ → Beside
beside_in d storage = record { storage = storage; pressed = d.buttons.pressed }

-- the bytes of storage of each slot
abbrev pub storage_bytes : Drivers → List (List ℕ)
storage_bytes d = d.stores.slots

-- the drivers under a script before the first step: nobody waits, all LEDs are off, no button is pressed, nothing was
-- drawn or served in any lane
pub record AreFresh (script : Script) (d : Drivers) : Type 0 where
  pub queues : (queue : QueueName) → ids_waiting_in d queue ≡ []
  pub lines : d.uarts
      ≡ replicate (lane_count script.partition) (record { ring = []; ticks = script.uart; free = 0 })
  pub leds : d.leds ≡ replicate script.leds false
  pub buttons : d.buttons ≡ record { count = script.buttons; pressed = 0 }
  pub arrivals : d.arrivals ≡ script.events
  pub words : d.words ≡ replicate (lane_count script.partition) script.words
  pub stores : d.stores ≡ fresh_storage (lane_count script.partition) script.storage script.faults

-- a process is in the slot of an id, in that life
abbrev pub IsThere : List Own → ProcessId → Type 0
IsThere owns id = (id.slot < length owns) × ((slice_index_or owns id.slot nobody).life ≡ id.life)

-- Those that wait in a queue are the processes that live and have a request there, each by the id of its life.
pub record IsQueueOf (queue : QueueName) (ids : List ProcessId) (owns : List Own) : Type 0 where
  pub there : AllByRecursion (IsThere owns) ids
  pub each : (slot : ℕ) → slot < length owns
      → waits slot ids ≡ has_waiting queue (slice_index_or owns slot nobody)

-- the UART is free soon, in each lane
abbrev pub AreFreeSoon : ℕ → Drivers → Type 0
AreFreeSoon time d = All (λ line. line.free ≤ time + SENDING_LIMIT) d.uarts

-- The drivers of a board with these settings, at a time: who waits has a request that waits; each request for storage
-- lies in what a slot has; so many LEDs and buttons there are; the UART is free soon.
pub record AreDriven (settings : Settings) (time : ℕ) (owns : List Own) (d : Drivers) : Type 0 where
  pub queues : (queue : QueueName) → IsQueueOf queue (ids_waiting_in d queue) owns
  pub within : All (IsWithin settings.storage) owns
  pub leds : length d.leds ≡ settings.leds
  pub buttons : d.buttons.count ≡ settings.buttons
  pub size : d.stores.size ≡ settings.storage
  pub slots : length d.stores.slots ≡ SLOT_COUNT
  pub ticks : All (λ line. line.ticks ≤ BYTE_TICKS_LIMIT) d.uarts
  pub free : AreFreeSoon time d

-- there are as many lanes as slots that are served apart
pub record HasLanes (window : ℕ) (d : Drivers) : Type 0 where
  pub lines : length d.uarts ≡ lane_count window
  pub words : length d.words ≡ lane_count window
  pub served : length d.stores.served ≡ lane_count window

-- what the drivers do for a process of what is asked of them: who waits where, and the LEDs; nothing else changes
pub record Drives (id : ProcessId) (acts : List BoardRequest) (old new : Drivers) : Type 0 where
  pub queues : (queue : QueueName) → ids_waiting_in new queue ≡ queue_after queue id (ids_waiting_in old queue) acts
  pub leds : bits_of new.leds ≡ lit_after acts (bits_of old.leds)
  pub lit : length new.leds ≡ length old.leds
  pub buttons : new.buttons ≡ old.buttons
  pub lines : new.uarts ≡ old.uarts
  pub arrivals : new.arrivals ≡ old.arrivals
  pub words : new.words ≡ old.words
  pub bytes : new.stores ≡ old.stores

-- the command that a call is, if it is one
abbrev pub order_in : CallForm → Option Order
order_in (Command driver number a2 a3) = Some (record { driver = driver; number = number; a2 = a2; a3 = a3 })
order_in other = None

-- a process waits only where it has a request
abbrev pub MayAsk : Drivers → ℕ → Own → Type 0
MayAsk d slot own = (queue : QueueName) → request_in (kind_in queue) own ≡ None
    → waits slot (ids_waiting_in d queue) ≡ false

-- what the drivers ask of a moment at which they serve a call of the process in a slot
pub record MayServe (m : Moment) (d : Drivers) (slot : ℕ) (own : Own) : Type 0 where
  pub asks : MayAsk d slot own
  pub lost : own.inbox.dropped ≤ m.steps
  pub leds : length d.leds ≡ m.settings.leds
  pub buttons : d.buttons.count ≡ m.settings.buttons
  pub size : d.stores.size ≡ m.settings.storage

-- a command that is handed to its driver: what the alarm's clock shows, whose it is, and what is the process's own
-- and the drivers' then
pub record HandedCommand : Type 0 where
  pub tick : ℕ
  pub id : ProcessId
  pub order : Order
  pub own : Own
  pub drivers : Drivers

-- what comes of a command, as its driver takes it: the answer, what is then the process's own, and what the drivers do
abbrev pub Commands : HandedCommand → Reply × Option CallRule → Own → Drivers → Type 0
Commands handed answer own' d_after =
    (taker : CommandHandler) → handler_of handed.order.driver ≡ Some taker →
    let c = taker (record {
      now = handed.tick;
      leds = length handed.drivers.leds;
      buttons = handed.drivers.buttons.count;
      pressed = handed.drivers.buttons.pressed;
      storage = handed.drivers.stores.size;
    }) handed.order.number handed.order.a2 handed.order.a3 handed.own in
    (answer ≡ reply_of c.answer) × (own' ≡ own_after c.step) × Drives handed.id c.acts handed.drivers d_after
