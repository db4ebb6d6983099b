-- What a device tells a process, as a step of the board. Only proofs use this.
use Rattle.std.specs.Prelude.{◌≡◌, ◌≤◌, ◌<◌, ℕ, ◌+◌, Bool, true, false, List, [], drop, length, map, slice_get}
use Rattle.std.specs.Prelude.{All, slice_set, slice_index_or, Option, None, Some, Result, Ok, Err}
use Rattle.tk_base.specs.declared.limits.TheConstants.{BYTE_TICKS_LIMIT, SENDING_LIMIT}
use Rattle.tk_base.specs.declared.process.Dev.{Dev}
use Rattle.tk_base.specs.declared.process.Dev.TheVariants.{Event as Arrival, Alarm, Uart, Receive, Random, Store}
use Rattle.board_devices.specs.declared.answer.Answer.{Answer}
use Rattle.tk_base.specs.declared.process.NotReady.{NotReady}
use Rattle.board_devices.specs.Arriving.{change_by_first, pressed_after_first, with_first_arrived}
use Rattle.board_devices.specs.SerialLine.{SerialLine}
use Rattle.board_devices.specs.Storage.{StoredSlots}
use Rattle.process_model.specs.Own.{Own}
use Rattle.process_record.specs.declared.process.Process.{Process}
use Rattle.driver_model.specs.Answers.{FollowsAnswer}
use Rattle.driver_model.specs.Buttons.{edged}
use Rattle.driver_model.specs.Commands.{QueueName}
use Rattle.driver_model.specs.Steps.{own_after}
use Rattle.driver_requests.specs.Waiting.{waiting_still}
use Rattle.grant_enter.specs.Homes.{Homes, ChangesOnly, own_of}
use Rattle.kernel_model.specs.Turn.{Event, apply}
use Rattle.kernel_alarms.specs.Acting.{leaves_alarm}
use Rattle.kernel_model.specs.World.{answering, can_act, device_step_of}
use Rattle.board_drivers.specs.declared.drivers.Drivers.{Drivers}
use Rattle.board_drivers.specs.declared.moment.Moment.{Moment}
use Rattle.board_drivers.specs.Driven.{devices_of, ids_waiting_in}
use Rattle.kernel_calls.specs.Residents.{record_of}
use Rattle.board_drivers.specs.Parts.{AreBoardParts, BoardParts, world_shown}

-- whether a device tells one process something: bytes that come in tell nobody anything, and an edge of a button is
-- told to several
abbrev pub tells_one : Dev → Bool
tells_one Arrival = false
tells_one Alarm = true
tells_one Uart = true
tells_one Receive = true
tells_one Random = true
tells_one Store = true

-- whether a device is the alarm, which may change what its process keeps for it
abbrev pub is_alarm : Dev → Bool
is_alarm Alarm = true
is_alarm other = false

-- the UART takes as long for a byte as it may, and is free soon, in each lane, of which there are as many
pub record IsFreeSoon (time : ℕ) (old new : List SerialLine) : Type 0 where
  pub lanes : length new ≡ length old
  pub ticks : All (λ line. line.ticks ≤ BYTE_TICKS_LIMIT) new
  pub free : All (λ line. line.free ≤ time + SENDING_LIMIT) new

-- the storage has these bytes for a slot, and has counted at most as many requests as steps in each lane
pub record HoldsFor (steps slot : ℕ) (bytes : List ℕ) (old new : StoredSlots) : Type 0 where
  pub size : new.size ≡ old.size
  pub lanes : length new.served ≡ length old.served
  pub counts : All (λ count. count ≤ steps + 1) new.served
  pub slots : new.slots ≡ slice_set old.slots slot bytes

-- What a device did for the process in a slot, whose own is then another: this follows what the device answered; the
-- process left those lists, and no other; and it is the deed of that device in the world.
pub record DeviceServes (b : BoardParts) (process : Process) (device : Dev) (slot : ℕ) (printed : List ℕ) (own : Own)
    (d : Drivers) : Type 0 where
  pub left : QueueName → Bool
  pub follows : FollowsAnswer left (own_of b.home slot) own
  pub lines : (line : QueueName)
      → ids_waiting_in d line ≡ waiting_still (left line) slot (ids_waiting_in b.drivers line)
  pub leds : length d.leds ≡ length b.drivers.leds
  pub buttons : d.buttons ≡ b.drivers.buttons
  pub lines_ready : IsFreeSoon b.moment.time b.drivers.uarts d.uarts
  pub words_left : length d.words ≡ length b.drivers.words
  pub bytes : List ℕ
  pub stores : HoldsFor b.moment.steps slot bytes b.drivers.stores d.stores
  pub event : Event
  pub leaves : is_alarm device ≡ false → leaves_alarm event ≡ true
  pub deed : device_step_of (world_shown b) device ≡ Some (answering slot (record {
    answer = record { event = event; printed = printed };
    devices = devices_of d;
  }))
  pub tells : apply b.moment.settings event
      (record_of b.home.flash b.drivers.buttons.pressed
      ((process, own_of b.home slot), slice_index_or b.drivers.stores.slots slot []))
      ≡ record_of b.home.flash b.drivers.buttons.pressed ((process, own), bytes)

-- What a device told the process in a slot, as the board has it: the device may act, and nothing of another process
-- changed.
pub record DeviceTold (b : BoardParts) (device : Dev) (slot : ℕ) (printed : List ℕ) (home : Homes) (d : Drivers) : Type
    0 where
  pub process : Process
  pub was : slice_get b.processes slot ≡ Some process
  pub there : slot < length b.home.owns
  pub only : ChangesOnly slot b.home home
  pub may : can_act (world_shown b) device ≡ true
  pub serves : DeviceServes b process device slot printed (own_of home slot) d

-- what came of it where a device was to act: it told a process something; or it may not act, and nothing changed
abbrev pub Acted : BoardParts → Dev → Result Answer NotReady → List ℕ → Homes → Drivers → Type 0
Acted b device (Err refusal) printed home d =
    (can_act (world_shown b) device ≡ false) × (home ≡ b.home) × (d ≡ b.drivers)
Acted b device (Ok answer) printed home d = DeviceTold b device answer.to.slot printed home d

-- so it is on every board with this moment, memory and drivers
abbrev pub Acts : Dev → Moment → Homes → Drivers → Result Answer NotReady → List ℕ → Homes → Drivers
    → Type 0
Acts device m home d told printed home_after d_after = (b : BoardParts) →
    let here = record b { moment = m; home = home; drivers = d } in
    AreBoardParts here → Acted here device told printed home_after d_after

-- What is a process's own once each process that is to be told an edge of a button was, if there was one.
abbrev pub owns_told : Option (ℕ × Bool) → List Own → List Own
owns_told None owns = owns
owns_told (Some edge) owns = map (λ own. own_after (edged edge.0 edge.1 own)) owns

-- What came in: of the drivers the line, the buttons and what is still to come changed, and each process was told what
-- of a button changed.
pub record Arrives (home : Homes) (d : Drivers) (home_after : Homes) (d_after : Drivers) : Type 0 where
  pub drivers : d_after ≡ record d {
    uarts = with_first_arrived d.arrivals d.uarts;
    buttons = record d.buttons { pressed = pressed_after_first d.arrivals d.buttons.pressed };
    arrivals = drop 1 d.arrivals;
  }
  pub memory : home_after ≡ record home { owns = owns_told (change_by_first d.arrivals d.buttons.pressed) home.owns }
