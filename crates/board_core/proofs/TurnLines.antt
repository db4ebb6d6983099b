-- A turn leaves a board: who waits has a request then, and no other, and what is kept of alarms and of the calm is
-- true. One resident changed; `TurnsKeepLines` says how its requests follow what its turn asks of the drivers. Its
-- alarm stays where the turn armed none, and a denied one has none and leaves all queues (`Gone`).
use Rattle.board_devices.specs.Buttons.{ButtonsView}
use Rattle.board_devices.specs.Clock.{clock_at}
use Rattle.alarm_capsule.proofs.KeptTimes.{all_later, others_tell}
use Rattle.driver_model.specs.Laws.{TimeBringsNearer}
use Rattle.kernel_alarms.specs.Acting.{AlarmsChangeAtTheirCommands, HasSameAlarm, QuietTurnsLeaveAlarms}
use Rattle.kernel_alarms.specs.Acting.{may_have_acted, may_have_armed}
use Rattle.board_core.proofs.SameAlarms.{same_alarms_calm, same_alarms_tell}
use Rattle.board_turns.proofs.Denied.{HasNoneArmed, denied_none}
use Rattle.board_core.proofs.Gone.{gone_calm, less_calm, none_due, none_left_there}
use Rattle.board_drivers.proofs.Calm.{idle_calm, later_calm}
use Rattle.tk_base.specs.declared.access.Denial.{Denial}
use Rattle.driver_model.specs.Alarm.{ticks_left_in}
use Rattle.std.proofs.Common.{◌≡◌, ℕ, ◌+◌, ◌<◌, ◌≤◌, ◌&&◌, not, Bool, true, false, if◌then◌else◌, List, [], length}
use Rattle.std.proofs.Common.{All, slice_get}
use Rattle.std.proofs.Common.{slice_set, is_some, Option, None, Some, Result, Ok, Err, refl, sym, ap, ap₂, ◌∙◌}
use Rattle.std.proofs.Common.{arith}
use Rattle.std.proofs.lemmas.List.Elements.{All-set}
use Rattle.tbf_headers.specs.declared.fault.HeaderFault.{HeaderFault}
use Rattle.tbf_headers.specs.declared.program.Main.{Main}
use Rattle.tbf_headers.specs.Meaning.{Meaning, header_reading}
use Rattle.process_layout.specs.Bounds.{Bounds}
use Rattle.process_model.specs.Own.{Own}
use Rattle.process_record.specs.declared.process.Process.{Process}
use Rattle.driver_model.specs.Commands.{QueueName, leaving_all}
use Rattle.driver_model.specs.Lines.{IsWithin, RequestOf, has_waiting, kind_in}
use Rattle.driver_model.specs.Requests.{request_in}
use Rattle.grant_enter.specs.Homes.{own_of}
use Rattle.process_restart.specs.Own.{HasStart, IsApplication}
use Rattle.process_record.specs.Process.{is_alive}
use Rattle.kernel_model.specs.Laws.{DropsAtMostOne, KeepsLines, TurnsKeepLines}
use Rattle.tbf_headers.specs.Meaning.{main_by}
use Rattle.kernel_model.specs.Record.{Record}
use Rattle.tk_base.specs.declared.process.Choice.TheVariants.{Run}
use Rattle.kernel_model.specs.World.{is_ready}
use Rattle.upcall_queue.specs.Pending.{due}
use Rattle.kernel_model.specs.Turn.{Turned, has_turn, turned}
use Rattle.process_record.specs.declared.process.State.{State}
use Rattle.process_record.specs.declared.process.State.TheVariants.{Running, Yielded}
use Rattle.std.specs.List.{zip}
use Rattle.std.proofs.lemmas.Bool.{false≢true}
use Rattle.board_core.specs.declared.state.BoardState.{BoardState}
use Rattle.board_turns.specs.declared.turn.Shown.{Shown}
use Rattle.board_drivers.specs.Driven.{AreDriven, Drives, HasLanes, IsQueueOf, MayServe, ids_waiting_in}
use Rattle.kernel_calls.specs.Residents.{IsResident, id_of, record_of}
use Rattle.board_turns.specs.Turning.{StepsInSlot, Turns}
use Rattle.kernel_calls.specs.Residents.{can_turn_in}
use Rattle.board_drivers.specs.Calm.{AlarmsTell, IsCalm}
use Rattle.board_drivers.proofs.Lanes.{few_still, later_free, same_free, same_lanes, same_ticks}
use Rattle.board_core.specs.Shows.{IsBoard, residents, world_of}
use Rattle.board_core.proofs.Boards.{below_limit, ready_within}
use Rattle.board_core.proofs.Changes.{as_many, lost_before, owns_after, resident_was, still_lost, still_seated}
use Rattle.board_core.proofs.Changes.{turn_later, within_before}
use Rattle.board_turns.specs.Machines.{IsCalmUntil, KeepsOtherAlarms}
use Rattle.board_drivers.proofs.Records.{lost_there, seated_there}
use Rattle.board_drivers.proofs.Lines.{line_after}
use Rattle.board_turns.proofs.Turns.{loses_one}
use Rattle.board_turns.specs.declared.machine.Machine.{Machine}
use Rattle.board_turns.specs.ReadySlots.{TurnsTell}

-- an application that started can start again
pub can_start_again : (address : ℕ) (e : Bounds) (read : Result Meaning HeaderFault) → IsApplication address e read
    → is_some (main_by read) ≡ true
can_start_again address e (Err fault) a = absurd a
can_start_again address e (Ok h) a = by_main h.main a
  where
    by_main : (main : Option Main) → HasStart address e h main → is_some main ≡ true
    by_main None b = absurd b
    by_main (Some m) b = refl

-- a process without a request waits in no list
no_request : (queue : QueueName) (own : Own) → request_in (kind_in queue) own ≡ None → has_waiting queue own ≡ false
no_request queue own none =
    ap (λ (o : Option (RequestOf queue)). is_some (if own.lives then o else None)) none ∙ by_life own.lives
  where
    by_life : (b : Bool) → is_some (if◌then◌else◌ {A = Option (RequestOf queue)} b None None) ≡ false
    by_life true = refl
    by_life false = refl

-- what the drivers ask of a moment holds at each turn
pub may_serve : (b : BoardState) (slot : ℕ) → IsBoard b → slot < length b.machine.home.owns
    → MayServe b.machine.moment b.machine.drivers slot (own_of b.machine.home slot)
may_serve b slot h there = record {
  asks = λ queue none. (h.machine.driven.queues queue).each slot there ∙ no_request queue (own_of b.machine.home slot)
      none;
  lost = lost_there b.machine.moment.steps b.machine.home slot h.machine.lost;
  leds = h.machine.driven.leds;
  buttons = h.machine.driven.buttons;
  size = h.machine.driven.size;
}

module _ {b : BoardState} {slot : ℕ} {x : Machine} {processes : List Process} {shown : Shown} (h : IsBoard b)
    (t : StepsInSlot 1 slot b.machine x b.processes.items processes (Turns slot b.machine x shown)) where
  abbrev seen : Record
  seen = record_of b.machine.home.flash b.machine.drivers.buttons.pressed (t.at.before, [])

  abbrev turn : Turned
  turn = turned b.machine.moment.settings b.machine.moment.time seen

  drives : Drives (id_of slot t.at.before.1) turn.acts b.machine.drivers x.drivers
  drives = (t.does []).2

  own_is : turn.after.own ≡ t.at.after.1
  own_is = ap (λ (r : Record). r.own) (t.does []).0

  seat : IsResident b.machine.home.flash b.machine.moment.steps t.at.before
  seat = seated_there b.machine.home.flash b.machine.moment.steps b.processes.items b.machine.home.owns slot t.at.before
      t.at.was t.at.own_was
      h.seated

  -- a turn that armed no alarm leaves that of its process
  pub turn_leaves_alarm : AlarmsChangeAtTheirCommands → may_have_armed shown.call shown.denial ≡ false
      → HasSameAlarm t.at.before.1 t.at.after.1
  turn_leaves_alarm law unarmed =
      let says = (t.does []).1 in
      rw own_is at (law b.machine.moment.settings b.machine.moment.time seen
      (ap₂ may_have_armed says.call says.denial ∙ unarmed))

  -- and one that did not act asks nothing of the drivers either
  turn_is_idle : QuietTurnsLeaveAlarms → may_have_acted shown.call shown.denial ≡ false
      → HasSameAlarm t.at.before.1 t.at.after.1 × Drives (id_of slot t.at.before.1) [] b.machine.drivers x.drivers
  turn_is_idle law quiet =
      let says = (t.does []).1 in
      let leaves = law b.machine.moment.settings b.machine.moment.time seen
      (ap₂ may_have_acted says.call says.denial ∙ quiet) in
      (rw own_is at leaves.0, rw leaves.1 at drives)

  -- one that shows a denial leaves no alarm armed, and has its process leave all queues
  turn_is_denied : is_some shown.denial ≡ true
      → HasNoneArmed t.at.after.1 × Drives (id_of slot t.at.before.1) leaving_all b.machine.drivers x.drivers
  turn_is_denied denied =
      let leaves = denied_none b.machine.moment.settings b.machine.moment.time seen
      (can_start_again t.at.before.0.object.address t.at.before.1.layout (header_reading seen.object)
      seat.own.object.application) (ap is_some (t.does []).1.denial ∙ denied) in
      (rw own_is at leaves.0, rw leaves.1 at drives)

  -- so no ticks are left of one
  pub none_left_after : is_some shown.denial ≡ true → (now : ℕ) → ticks_left_in now x.home.owns slot ≡ None
  none_left_after denied = none_left_there t.at (turn_is_denied denied).0

  -- and where its call did not act, it stays calm
  pub turn_stays_calm : QuietTurnsLeaveAlarms → may_have_acted shown.call None ≡ false
      → IsCalmUntil (record x { moment = turn_later b.machine.moment }) b.machine.calm
  turn_stays_calm law quiet = by_denial shown.denial refl
    where
      start : ℕ
      start = b.machine.moment.settings.start

      window : ℕ
      window = b.machine.moment.window

      time : ℕ
      time = b.machine.moment.time + 1

      later : IsCalm start window time b.machine.calm b.machine.home.owns b.machine.drivers
      later = later_calm start window b.machine.moment.time time b.machine.calm b.machine.home.owns b.machine.drivers
          (omega arith) h.machine.calm

      by_denial : (denial : Option Denial) → shown.denial ≡ denial
          → IsCalm start window time b.machine.calm x.home.owns x.drivers
      by_denial None is =
          let leaves = turn_is_idle law (ap (may_have_acted shown.call) is ∙ quiet) in
          same_alarms_calm t.at leaves.0 start window time b.machine.calm x.drivers
          (idle_calm start window time b.machine.calm b.machine.home.owns (id_of slot t.at.before.1)
          b.machine.drivers x.drivers leaves.1 later)
      by_denial (Some denial) is =
          let leaves = turn_is_denied (ap is_some is) in
          less_calm t.at (λ now due. none_due now t.at.after.1 leaves.0) start window time b.machine.calm x.drivers
          (gone_calm start window time b.machine.calm b.machine.home.owns (id_of slot t.at.before.1)
          b.machine.drivers x.drivers leaves.1 later)

  -- the serial lines go on
  pub lines_stay : x.drivers.uarts ≡ b.machine.drivers.uarts
  lines_stay = drives.lines

  module _ (law : TurnsKeepLines) (lives : t.at.before.1.lives ≡ true) where
    keeps : KeepsLines b.machine.moment.settings.storage t.at.before.1 t.at.after.1 turn.acts
    keeps = rw own_is at (law b.machine.moment.settings b.machine.moment.time seen lives
        (can_start_again t.at.before.0.object.address t.at.before.1.layout
        (header_reading seen.object) seat.own.object.application))

    line_is : (queue : QueueName)
        → IsQueueOf queue (ids_waiting_in x.drivers queue) (slice_set b.machine.home.owns slot t.at.after.1)
    line_is queue = rw (drives.queues queue)
        (line_after queue (ids_waiting_in b.machine.drivers queue) b.machine.home.owns slot t.at.before.1 t.at.after.1
        turn.acts (h.machine.driven.queues queue) t.at.own_was (keeps.lines queue) (keeps.life queue))

    -- who waits has a request then, and no other
    turn_driven : AreDriven b.machine.moment.settings (b.machine.moment.time + 1) x.home.owns x.drivers
    turn_driven = rw t.at.own_is (record {
      queues = line_is;
      within = All-set (IsWithin b.machine.moment.settings.storage) b.machine.home.owns slot t.at.after.1
          (keeps.within (within_before t.at b.machine.moment.settings.storage h.machine.driven.within))
          h.machine.driven.within;
      leds = drives.lit ∙ h.machine.driven.leds;
      buttons = ap (λ (s : ButtonsView). s.count) drives.buttons ∙ h.machine.driven.buttons;
      size = ap (λ (s : _). s.size) drives.bytes ∙ h.machine.driven.size;
      slots = ap (λ (s : _). length s.slots) drives.bytes ∙ h.machine.driven.slots;
      ticks = same_ticks b.machine.drivers x.drivers drives.lines h.machine.driven.ticks;
      free = same_free (b.machine.moment.time + 1) b.machine.drivers x.drivers drives.lines
          (later_free b.machine.moment.time (b.machine.moment.time + 1) b.machine.drivers (omega arith)
          h.machine.driven.free);
    })

  -- there are the same lanes
  lanes_stay : HasLanes b.machine.moment.window x.drivers
  lanes_stay = same_lanes b.machine.moment.window b.machine.drivers x.drivers drives.lines drives.words drives.bytes
      h.machine.lanes

  -- it served as many requests as before
  served_stays : All (λ count. count ≤ b.machine.moment.steps + 1) x.drivers.stores.served
  served_stays = rw drives.bytes (few_still b.machine.moment.steps (b.machine.moment.steps + 1)
      b.machine.drivers.stores.served (omega arith) h.machine.served)

  -- what is told of the alarms of all other processes stays true, a tick later
  pub others_later : TimeBringsNearer → KeepsOtherAlarms slot (record x {
    moment = turn_later b.machine.moment;
    alarms = b.machine.alarms;
  })
  others_later law =
      let start = b.machine.moment.settings.start in
      let time = b.machine.moment.time in
      rw t.at.own_is (others_tell (clock_at start (time + 1)) (time + 1) slot b.machine.alarms b.machine.home.owns
      t.at.after.1 (all_later law start time 1 b.machine.alarms b.machine.home.owns h.machine.alarms))

  -- and of all, where its process has the same alarm
  pub alarms_later : TimeBringsNearer → HasSameAlarm t.at.before.1 t.at.after.1
      → AlarmsTell (turn_later b.machine.moment) b.machine.alarms x.home.owns
  alarms_later law same =
      let start = b.machine.moment.settings.start in
      let time = b.machine.moment.time in
      same_alarms_tell t.at same (clock_at start (time + 1)) (time + 1) b.machine.alarms
      (all_later law start time 1 b.machine.alarms b.machine.home.owns h.machine.alarms)

  -- a process that can have a turn lives
  turn_lives : can_turn_in (slice_get (residents b) slot) ≡ true → t.at.before.1.lives ≡ true
  turn_lives can =
      seat.own.lives ∙ by_state t.at.before.0.held t.at.before.0.state (sym (ap can_turn_in (resident_was t.at)) ∙ can)
    where
      by_state : (held : Bool) (s : State) → (not held && has_turn s (due t.at.before.1.inbox)) ≡ true
          → is_alive s ≡ true
      by_state false Running e = refl
      by_state false Yielded e = refl
      by_state held s e = absurd (false≢true e)

-- A board whose tables, registers and drivers are then these: after the turn it is one again, and the slot is present.
module _ {b : BoardState} (a : BoardState) {slot : ℕ} {shown : Shown} (h : IsBoard b)
    (t : StepsInSlot 1 slot b.machine a.machine b.processes.items a.processes.items (Turns slot b.machine a.machine
    shown)) where
  pub turned_board : (calm used : ℕ) (times : List (Option ℕ)) (ready : List Bool) → DropsAtMostOne → TurnsKeepLines
      → is_ready (world_of b) (Run slot) ≡ true
      → IsCalmUntil (record a.machine { moment = turn_later b.machine.moment }) calm
      → AlarmsTell (turn_later b.machine.moment) times a.machine.home.owns
      → TurnsTell ready (zip a.processes.items a.machine.home.owns) → used ≤ b.present.slice
      → IsBoard (record b {
        machine = record a.machine {
          moment = turn_later b.machine.moment;
          alarms = times;
          calm = calm;
          ready = ready;
        };
        processes = a.processes;
        present = record b.present { slot = Some slot; used = used };
      })
  turned_board calm used times ready drops keeps may quiet tell turns within =
      let below = (ready_within h slot may).0 in
      record {
        machine = record {
          lost = still_lost t.at b.machine.moment.steps 1
              (omega (
                arith,
                loses_one slot b.machine a.machine shown t.at.before t.at.after drops t.does,
                lost_before t.at b.machine.moment.steps h.machine.lost,
              )) h.machine.lost;
          guard = t.leaves.guard;
          driven = turn_driven h t keeps (turn_lives h t (below_limit h slot below ∙ may));
          lanes = lanes_stay h t;
          served = served_stays h t;
          steps = omega (arith, below);
          time = omega (arith, h.machine.time);
          calm = quiet;
          alarms = tell;
        };
        seated = still_seated t.at b.machine.moment.steps 1 t.leaves.seated h.seated;
        owns = owns_after t.at h.owns;
        few = omega (arith, as_many t.at, h.few);
        ready = turns;
        slice = h.slice;
        used = within;
      }
