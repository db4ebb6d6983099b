-- Names of parts of what a call, a turn and a step come to, for proofs and for contracts of inner functions
-- (kernel_calls, board_turns, board_core). Each is equal by unfolding. Their subject is that of the whole: TRD 104,
-- "System Call API".
use Rattle.std.specs.Prelude.{◌≡◌, ℕ, ◌&&◌, ◌==◌, Bool, not, if◌then◌else◌, List, [], ◌∷◌, ◌++◌, length, map}
use Rattle.std.specs.Prelude.{option_and_then}
use Rattle.std.specs.Prelude.{option_map, option_to_list, unwrap_or, is_none, slice_get, slice_index_or, Option, None}
use Rattle.std.specs.Prelude.{Some, Result}
use Rattle.std.specs.Result.{result_ok}
use Rattle.tk_base.specs.Bits.{with_bit}
use Rattle.tk_base.specs.declared.access.Access.TheVariants.{Fetch}
use Rattle.tk_base.specs.declared.access.Denial.{Denial}
use Rattle.tk_base.specs.declared.access.Rule.TheVariants.{UnknownClass}
use Rattle.tk_base.specs.declared.call.CallRule.{CallRule}
use Rattle.tk_base.specs.declared.kinds.PairKind.TheVariants.{ReadOnly}
use Rattle.tk_base.specs.declared.process.Choice.{Choice}
use Rattle.tk_base.specs.declared.process.Dev.{Dev}
use Rattle.tk_base.specs.declared.process.Dev.TheVariants as dev
use Rattle.tk_base.specs.declared.process.Verb.{Verb}
use Rattle.tk_base.specs.Call.{error_of}
use Rattle.rv32_model.specs.UserTurn.{MemoryAccess, denied_at}
use Rattle.tbf_headers.specs.declared.fault.HeaderFault.{HeaderFault}
use Rattle.tbf_headers.specs.declared.program.Main.{Main}
use Rattle.tbf_headers.specs.Meaning.{Meaning, header_reading, of_app, permissions_by, region_in}
use Rattle.syscall_abi.specs.declared.form.CallForm.{CallForm}
use Rattle.syscall_abi.specs.declared.form.Swap.{Swap}
use Rattle.syscall_abi.specs.declared.reply.Reply.{Reply}
use Rattle.syscall_abi.specs.declared.reply.Reply.TheVariants.{FailureU32U32}
use Rattle.syscall_abi.specs.Call.{call_of}
use Rattle.syscall_filter.specs.Permission.{permitted}
use Rattle.upcall_queue.specs.declared.inbox.Delivery.{Delivery}
use Rattle.upcall_queue.specs.Pending.{left_by}
use Rattle.process_model.specs.Own as own
use Rattle.process_model.specs.Own.{Own}
use Rattle.process_model.specs.Handed.{handing, held}
use Rattle.process_model.specs.Served.{bytes_at}
use Rattle.board_devices.specs.Clock.{clock_at}
use Rattle.board_devices.specs.SerialLine.{SerialLine, line_at}
use Rattle.board_devices.specs.Storage.{overwritten}
use Rattle.driver_model.specs.Alarm as alarm
use Rattle.driver_model.specs.Buttons as buttons
use Rattle.driver_model.specs.Buttons.{is_told}
use Rattle.driver_model.specs.Commands.{BoardRequest, Commanded, leaving_all, QueueName}
use Rattle.driver_model.specs.Console.{console}
use Rattle.process_record.specs.declared.emit.CallMade.{CallMade}
use Rattle.process_record.specs.declared.process.Process.{Process}
use Rattle.process_record.specs.Lines.{slot_named}
use Rattle.process_record.specs.Operator.{ends_by}
use Rattle.kernel_model.specs.declared.settings.Settings.{Settings}
use Rattle.kernel_model.specs.Record.{Record, instruction, record_with_step, slot_line_of, with_effect}
use Rattle.kernel_model.specs.Calls.{failure_of, refused_with}
use Rattle.kernel_model.specs.Calls.{Served, deliver, driver_answered, restarted_with, served, swap_by, swap_refusal}
use Rattle.kernel_model.specs.Turn.{Alarmed, Event, NoWord, TurnTrace, Turned, Word, apply, at_turn_end, called}
use Rattle.kernel_model.specs.Turn.{faulted}
use Rattle.kernel_model.specs.Turn.{idle, surroundings, turn_counted}
use Rattle.kernel_model.specs.Record.{flash_of}
use Rattle.kernel_model.specs.World.{Answer, DeviceAnswer, DeviceStep, Devices, Label, Work, World, answer_label}
use Rattle.std.specs.Prelude.{◌+◌}
use Rattle.kernel_model.specs.Named.{slots_in}
use Rattle.kernel_model.specs.World.{now_in, owns_in}
use Rattle.kernel_model.specs.World.{may_serve, only_in, operating, serving, telling, telling_nobody, work_in}
use Rattle.kernel_model.specs.Run.{Ran}

-- a record with other registers, state and counts
abbrev pub with_process : Record → Process → Record
with_process r p = record r { process = p }

-- a record of which something else is the process's own
abbrev pub record_with_own : Record → Own → Record
record_with_own r own = record r { own = own }

-- a swap that is refused hands back the passed pair
abbrev pub failed_swap : ℕ × ℕ → CallRule → Reply
failed_swap pair rule = FailureU32U32 (error_of rule) pair.0 pair.1

-- what a swap leaves of its process
abbrev pub own_swapped : Swap → Own → Own
own_swapped swap o = handing swap.kind swap.driver swap.number swap.pair o

-- the pair that a swap gives back
abbrev pub former_pair : Swap → Own → ℕ × ℕ
former_pair swap o = held swap.kind swap.driver swap.number o

-- a subscribe or an allow
abbrev pub swapped : Record → Swap → Served
swapped r swap = swap_by r swap (swap_refusal swap r.own)

-- the break moved to an address, rounded up to a multiple of 4
abbrev pub with_break_at : Record → ℕ → Record
with_break_at r new = record r { own = own.with_moved_break new r.own }

-- what comes of a command leaves of its process, and asks of the board
abbrev pub commanded : Record → Commanded → Served
commanded r c = record (driver_answered (record_with_step r c.step) c.answer) { acts = c.acts }

-- whether an object permits a call to its process, under a strict filter or an open one
abbrev pub object_permits : Bool → List ℕ → CallForm → Bool
object_permits strict object call =
    permitted strict (permissions_by (header_reading object)) call

-- a process that starts again by what its header says of its entry; as it was where it says nothing
abbrev pub restarted_main : Record → Meaning → Option Main → Record
restarted_main r h main = unwrap_or (option_map (restarted_with r h) main) r

-- the same by what the header means; as it was where it has a fault
abbrev pub restarted_by : Record → Result Meaning HeaderFault → Record
restarted_by r header = unwrap_or (of_app (restarted_with r) header) r

-- a class that is unknown is denied as a fetch at the `ecall`'s address
abbrev pub unknown_call : Process → Denial
unknown_call p = denied_at Fetch p.regs.pc UnknownClass

-- the call that stands in the registers is served; an unknown class is a fault
abbrev pub calls : Settings → ℕ → Record → List MemoryAccess → Option CallForm → Turned
calls settings time r accesses call =
    let serve =
    λ (c : CallForm). called r accesses c (served settings.strict (surroundings settings time r) r c) in
    unwrap_or (option_map serve call) (faulted settings r (denied_at Fetch r.process.regs.pc UnknownClass))

-- the turn of a process that runs
abbrev pub instructed : Settings → ℕ → Record → Turned
instructed settings time r =
    let t = instruction r in at_turn_end settings time (with_effect (turn_counted r) t) t.accesses t.end

-- the turn of one that has yielded
abbrev pub delivery : Record → Option Delivery → Turned
delivery r next = idle (unwrap_or (option_map (λ next. deliver (turn_counted r) next (left_by next)) next) r)

-- a storage of which bytes were written over, if any were
abbrev pub written_over : List ℕ → Option (ℕ × List ℕ) → List ℕ
written_over bytes write = unwrap_or (option_map (λ w. overwritten bytes w.0 w.1) write) bytes

-- a process that is told whether a button is pressed
abbrev pub edge_known : ℕ → Bool → Record → Record
edge_known button pressed r =
    record (record_with_step r (buttons.edged button pressed r.own)) { pressed = with_bit r.pressed button pressed }

-- whether one waits
abbrev pub is_waited_for : List ℕ → Bool
is_waited_for slots = not (length slots == 0)

-- how many storage requests were served in a lane
abbrev pub served_in : ℕ → Devices → ℕ
served_in lane d = slice_index_or d.served lane 0

-- the alarm of a process fires at a time
abbrev pub alarmed : Settings → ℕ → Devices → DeviceAnswer
alarmed settings time d = telling (Alarmed (clock_at settings.start time)) d

-- the event of a word that was drawn, or of none
abbrev pub drawn_event : Option ℕ → Event
drawn_event drawn = unwrap_or (option_map Word drawn) NoWord

-- what an operator's act asks the board to do for the process
abbrev pub acts_of : Verb → Record → List BoardRequest
acts_of verb r = if ends_by verb r.process then leaving_all else []

-- the lowest slot whose process has a name in the report, if there is one
abbrev pub slot_of_name : List ℕ → List Record → Option ℕ
slot_of_name name rs = slot_named name (map slot_line_of rs)

-- an operator acts on the process in a slot; where there is none this tells nobody anything
abbrev pub acting_on : Verb → List Record → Devices → Option ℕ → DeviceStep
acting_on verb rs d slot = unwrap_or (serving rs (operating verb d) slot) (telling_nobody d)

-- what there is to do for the devices of a world
abbrev pub work_of : World → Work
work_of w = work_in w (only_in w)

-- what there is to do for one slot alone, with time partitions
abbrev pub work_for : World → ℕ → Work
work_for w slot = work_in w (Some slot)

-- a record once its process was told something, or nothing
abbrev pub happens : Settings → Option Answer → Record → Record
happens settings told r = unwrap_or (option_map (λ answer. apply settings answer.event r) told) r

-- what a step tells of a slot, if its process was told anything
abbrev pub labels_of : ℕ → Option Answer → List Label
labels_of slot told = option_to_list (option_map (answer_label slot) told)

-- a run before which something was told
abbrev pub told_first : List Label → Ran → Ran
told_first ls r = record r { labels = ls ++ r.labels }

-- whether a call ended a life of its process: an exit that broke no rule
abbrev pub is_exit : CallMade → Bool
is_exit made = made.class == 6 && is_none made.rule

-- an edge of which a process is told: it lives, and has enabled the button
abbrev pub if_told : Own → ℕ × Bool → Option (ℕ × Bool)
if_told own edge = if is_told edge.0 own then Some edge else None

-- the bytes of the read-only buffer that a process holds of the console
abbrev pub buffer_bytes : Record → List ℕ
buffer_bytes r = bytes_at (flash_of r) r.own (held ReadOnly console 1 r.own)

-- the rule by which the call of a turn was refused
abbrev pub refusal_in : TurnTrace → Option CallRule
refusal_in told = option_and_then (λ made. made.rule) told.call

-- what a label tells that happened to the process in a slot: its turn, an answer to it, or an operator's act on it
abbrev pub happened : ℕ → Label → List Event
happened slot label = if label.slot == slot then label.event ∷ [] else []

-- the read-only buffer 1 that a process holds of the console
abbrev pub console_buffer : Record → ℕ × ℕ
console_buffer r = held ReadOnly console 1 r.own

-- one thing where no choice is left, and another by the choice that is made
abbrev pub on_choice : {X : Type 0} → X → (Choice → X) → Option Choice → X
on_choice stop on choice = unwrap_or (option_map on choice) stop

-- the first of those that wait in a queue and may be served
abbrev pub first_in : Option ℕ → QueueName → Devices → Option ℕ
first_in only queue d = slice_get (may_serve only (slots_in queue d.waiting)) 0

-- the writeable flash regions that the header of an object names, and the one of a number
abbrev pub regions_named : Result Meaning HeaderFault → Option (List ℕ)
regions_named header = option_and_then (λ h. h.regions) (result_ok header)

abbrev pub region : Record → ℕ → Option (ℕ × ℕ)
region r n = option_and_then (region_in n) (regions_named (header_reading r.object))

-- whom a device serves: the lowest slot whose alarm is due, or the first of those that wait, of those that may be
-- served; what comes in is nobody's
abbrev pub served_by : World → Dev → Option ℕ
served_by w dev.Event = None
served_by w dev.Alarm = alarm.due_for (only_in w) (now_in w) (owns_in w)
served_by w dev.Uart = slice_get (may_serve (only_in w) w.devices.waiting.writes) 0
served_by w dev.Receive = slice_get (may_serve (only_in w) w.devices.waiting.reads) 0
served_by w dev.Random = slice_get (may_serve (only_in w) w.devices.waiting.randoms) 0
served_by w dev.Store = slice_get (may_serve (only_in w) w.devices.waiting.stores) 0

-- Of the process: the turn counts, the failure of the rule stands in the reply registers, pc is past the `ecall`, and
-- the refusal is recorded. Its memory, its grants, its upcalls and its storage are as they were.
abbrev pub CallIsRefused : CallRule → Record → Record → Type 0
CallIsRefused rule r s =
    (call : CallForm) × (call_of r.process.regs ≡ Some call)
    × (s ≡ (refused_with (turn_counted r) rule (failure_of call rule)).after)

-- the serial line of a lane
abbrev pub line_in : ℕ → Devices → SerialLine
line_in lane d = line_at lane d.lines

-- the world after so many ticks in which nothing acts
abbrev pub passed : World → ℕ → World
passed w ticks = record w { clock = record { time = w.clock.time + ticks; steps = w.clock.steps + 1 } }
