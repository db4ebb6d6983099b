-- What is scheduled for a process by what happens to it (TRD 104, "Subscribe", "Command", "Yield"): by its own turn, in
-- which it commands a driver, and by each answer of a device.
use Rattle.std.specs.Prelude.{ℕ, ◌==◌, ◌&&◌, not, if◌then◌else◌, List, slice_get, slice_index, Option, None, Some}
use Rattle.std.specs.Prelude.{is_none}
use Rattle.std.specs.Prelude.{option_and_then, option_map}
use Rattle.tk_base.specs.declared.process.Choice.{Choice}
use Rattle.tk_base.specs.declared.upcall.Upcall.{Upcall as Scheduled}
use Rattle.process_model.specs.Own.{Own}
use Rattle.process_model.specs.Served.{upcall_of}
use Rattle.process_record.specs.declared.emit.CallMade.{CallMade}
use Rattle.driver_model.specs.Alarm as alarm
use Rattle.driver_model.specs.Buttons as buttons
use Rattle.driver_model.specs.Console as console
use Rattle.driver_model.specs.Random as random
use Rattle.driver_model.specs.Storage as storage
use Rattle.driver_model.specs.Drivers.{CommandContext, handler_of}
use Rattle.driver_model.specs.Steps.{DriverStep, silently}
use Rattle.kernel_model.specs.Record.{Record}
use Rattle.kernel_model.specs.declared.settings.Settings.{Settings}
use Rattle.kernel_model.specs.Turn.{Act, Event, Turn, Alarmed, Edge, Taken, WriteDone, Input, Word, NoWord, Stored}
use Rattle.kernel_model.specs.Record.{flash_of}
use Rattle.kernel_model.specs.Turn.{surroundings, turned}
use Rattle.kernel_model.specs.World.{Answer, World, is_ready}
use Rattle.kernel_model.specs.Laws.{answer_by}

-- the upcall that a driver's step schedules, if it does: that which the process then holds, which may be the null
-- upcall
abbrev pub scheduled_by : DriverStep → Option Scheduled
scheduled_by step =
    option_map (λ upcall. upcall_of upcall.driver upcall.number upcall.args step.own) step.schedules

-- What a device's answer leaves of a process, and what it schedules; of a turn, and of an operator's act, which
-- schedules nothing, it is nothing.
unfoldable pub answer_step : Event → Record → DriverStep
answer_step (Turn time) r = silently r.own
answer_step (Alarmed now) r = alarm.answered now r.own
answer_step (Edge button pressed) r = buttons.edged button pressed r.own
answer_step Taken r = console.taken r.own
answer_step WriteDone r = console.write_done r.own
answer_step (Input bytes) r = console.input bytes r.own
answer_step (Word word) r = (random.answered (Some word) r.own).step
answer_step NoWord r = (random.answered None r.own).step
answer_step (Stored moved) r = (storage.answered (not moved) (flash_of r) r.storage r.own).step
answer_step (Act verb) r = silently r.own

-- the upcall that an answer schedules for its process, which may be the null upcall, or be dropped
abbrev pub upcall_told : Event → Record → Option Scheduled
upcall_told event r = scheduled_by (answer_step event r)

-- what a command schedules, by its arguments: what the driver does that takes it, if there is one
abbrev pub command_schedules : CommandContext → Own → List ℕ → Option Scheduled
command_schedules around own args =
    let arg = slice_index args in
    option_and_then (λ taker. scheduled_by (taker around (arg 1) (arg 2) (arg 3) own).step) (handler_of (arg 0))

-- what a call schedules that a process made: a command that broke no rule
abbrev pub call_schedules : CommandContext → Own → CallMade → Option Scheduled
call_schedules around own made =
    if made.class == 2 && is_none made.rule then command_schedules around own made.args else None

-- what the turn of a process at a time schedules, by the call in it
abbrev pub turn_schedules : Settings → ℕ → Record → Option Scheduled
turn_schedules settings time r =
    option_and_then (call_schedules (surroundings settings time r) r.own) (turned settings time r).told.call

-- what is scheduled by what happens to a process: its turn, or a device's answer
abbrev pub event_schedules : Settings → Event → Record → Option Scheduled
event_schedules settings (Turn time) r = turn_schedules settings time r
event_schedules settings other r = upcall_told other r

-- what a step schedules for a process by what it tells it, if it tells it anything
abbrev pub answer_schedules : Settings → Option Answer → Record → Option Scheduled
answer_schedules settings told r = option_and_then (λ answer. event_schedules settings answer.event r) told

-- what a step schedules for the process in a slot, if there is one
abbrev pub step_schedules : ℕ → World → Choice → Option Scheduled
step_schedules slot w choice =
    if is_ready w choice
    then option_and_then (answer_schedules w.settings (answer_by w choice slot)) (slice_get w.records slot) else None
