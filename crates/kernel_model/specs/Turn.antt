-- The turn of a process, and what else may happen to it. Its states are those of TRD 104, "Yield" and "Exit"; that a
-- turn is one instruction is this board's own rule.
use Rattle.std.specs.Prelude.{ℕ, ◌==◌, ◌&&◌, Bool, true, false, not, if◌then◌else◌, List, [], ◌∷◌, Option, None, Some}
use Rattle.std.specs.Prelude.{is_some, option_map, unwrap_or}
use Rattle.std.specs.Prelude.{◌+◌}
use Rattle.tk_base.specs.declared.access.Access.TheVariants.{Fetch}
use Rattle.tk_base.specs.declared.access.Rule.TheVariants.{UnknownClass}
use Rattle.tk_base.specs.declared.access.Denial.{Denial}
use Rattle.tk_base.specs.declared.call.CallRule.{CallRule}
use Rattle.tk_base.specs.declared.process.Verb.{Verb}
use Rattle.tk_base.specs.declared.process.Verb.TheVariants as verbs
use Rattle.tk_base.specs.Bits.{with_bit}
use Rattle.tk_base.specs.Regs.{Registers, register}
use Rattle.rv32_model.specs.declared.turn_end.TurnEnd.{TurnEnd}
use Rattle.rv32_model.specs.declared.turn_end.TurnEnd.TheVariants.{Went, Call, Trap}
use Rattle.rv32_model.specs.UserTurn.{MemoryAccess, denied_at}
use Rattle.fault_policy.specs.declared.Action.{Action}
use Rattle.fault_policy.specs.declared.Action.TheVariants.{Stop, Restart}
use Rattle.fault_policy.specs.Policy.{decision}
use Rattle.upcall_queue.specs.declared.inbox.Delivery.{Delivery}
use Rattle.upcall_queue.specs.Pending.{due, left_by}
use Rattle.syscall_abi.specs.declared.form.CallForm.{CallForm}
use Rattle.syscall_abi.specs.declared.form.CallForm.TheVariants.{Yield}
use Rattle.syscall_abi.specs.Call.{call_of, class}
use Rattle.syscall_abi.specs.Reply.{put_reply}
use Rattle.process_model.specs.Own.{own_ended as ended_own}
use Rattle.board_devices.specs.Clock.{clock_at}
use Rattle.board_devices.specs.Storage.{overwritten}
use Rattle.driver_model.specs.Alarm as alarm
use Rattle.driver_model.specs.Buttons as buttons
use Rattle.driver_model.specs.Console as console
use Rattle.driver_model.specs.Random as random
use Rattle.driver_model.specs.Storage as storage
use Rattle.driver_model.specs.Commands.{BoardRequest, leaving_all}
use Rattle.driver_model.specs.Drivers.{CommandContext}
use Rattle.process_model.specs.Handed.{lies_in_ram}
use Rattle.process_record.specs.declared.emit.CallMade.{CallMade}
use Rattle.process_record.specs.declared.outcome.Outcome.{Outcome}
use Rattle.process_record.specs.declared.outcome.Outcome.TheVariants as outcomes
use Rattle.process_record.specs.declared.process.State.{State}
use Rattle.process_record.specs.declared.process.State.TheVariants.{Faulted, Running, Yielded}
use Rattle.process_record.specs.Operator.{own_operated, process_operated}
use Rattle.kernel_model.specs.Record.{flash_of}
use Rattle.kernel_model.specs.Record.{Record, instruction, with_effect, record_with_step}
use Rattle.kernel_model.specs.declared.settings.Settings.{Settings}
use Rattle.kernel_model.specs.Calls.{Served, deliver, served, restart}

-- what a turn tells: its accesses, the call in it, the address of the flag that its yield wrote, and the denial in it
pub record TurnTrace : Type 0 where
  pub accesses : List MemoryAccess
  pub call : Option CallMade
  pub flag : Option ℕ
  pub denial : Option Denial

-- what is told of what is no turn
abbrev pub untraced : TurnTrace
untraced = record { accesses = []; call = None; flag = None; denial = None }

-- what a turn leaves, what it tells, and what the board is to do for it
pub record Turned : Type 0 where
  pub after : Record
  pub told : TurnTrace
  pub acts : List BoardRequest

-- the arguments of a call, or its reply: a0 to a3, which are x10 to x13
abbrev pub arguments : Registers → List ℕ
arguments regs = register regs 10 ∷ register regs 11 ∷ register regs 12 ∷ register regs 13 ∷ []

-- what an outcome shows: the reply as it stands in the registers, and the rule that the call broke
abbrev pub reply_shown : Registers → Outcome → Option (List ℕ)
reply_shown regs (outcomes.Replied reply rule) = Some (arguments (put_reply reply regs))
reply_shown regs other = None

-- the rule that a call broke, where it was refused
abbrev pub rule_shown : Outcome → Option CallRule
rule_shown (outcomes.Replied reply rule) = rule
rule_shown other = None

-- the call as the step shows it, from the registers before it and what came of it
abbrev pub made : Registers → Outcome → CallMade
made regs outcome =
    record { class = class regs; args = arguments regs; reply = reply_shown regs outcome; rule = rule_shown outcome }

-- nothing was done
abbrev pub idle : Record → Turned
idle r = record { after = r; told = untraced; acts = [] }

-- a process that faulted ends, or starts again, as the policy decides
abbrev pub settled : Record → Action → Record
settled r Stop = record r { own = ended_own r.own }
settled r Restart = restart r

-- a denial is recorded, and the process stops, held no more; what becomes of it the policy decides
abbrev pub faulted : Settings → Record → Denial → Turned
faulted settings r denial =
    let fault = record r { process = record r.process { state = Faulted; held = false; denial = Some denial } } in
    let after = settled fault (decision settings.policy r.process.restarts) in
    record { after = after; told = record untraced { denial = Some denial }; acts = leaving_all }

-- the flag that a form of calls writes: that of a yield which does not wait, where it lies in accessible RAM (TRD 104,
-- "Yield")
abbrev pub yield_flag_of : Record → CallForm → Option ℕ
yield_flag_of r (Yield number a1 a2) = if number == 0 && lies_in_ram r.own.layout a1 1 then Some a1 else None
yield_flag_of r form = None

-- a call that was made, with what came of it
abbrev pub called : Record → List MemoryAccess → CallForm → Served → Turned
called r accesses call s =
    let shown = Some (made r.process.regs s.outcome) in
    let told = record untraced { accesses = accesses; call = shown; flag = yield_flag_of r call } in
    record { after = s.after; told = told; acts = s.acts }

-- what a command of a process sees of the board at a time, by its record
abbrev pub surroundings : Settings → ℕ → Record → CommandContext
surroundings settings time r = record {
  now = clock_at settings.start time;
  leds = settings.leds;
  buttons = settings.buttons;
  pressed = r.pressed;
  storage = settings.storage;
}

-- What the end of an instruction asks for, once its effect stands; a denied one had none. The call that stands in the
-- registers is served; a class that is unknown is a fault, denied as a fetch at the `ecall`'s address.
abbrev pub at_turn_end : Settings → ℕ → Record → List MemoryAccess → TurnEnd → Turned
at_turn_end settings time r accesses Went = record (idle r) { told = record untraced { accesses = accesses } }
at_turn_end settings time r accesses Call =
    let serve = λ (c : CallForm). called r accesses c (served settings.strict (surroundings settings time r) r c) in
    let unknown = denied_at Fetch r.process.regs.pc UnknownClass in
    unwrap_or (option_map serve (call_of r.process.regs)) (faulted settings r unknown)
at_turn_end settings time r accesses (Trap denial) = faulted settings r denial

-- the turn of a process: one instruction, which counts, a faulting one too
abbrev pub turn_counted : Record → Record
turn_counted r = record r { process = record r.process { turns = r.process.turns + 1 } }

-- Its turn. One that runs executes its next instruction, and what its end asks for is done; one that has yielded gets
-- what is due to it, which is its turn (TRD 104, "Yield"); one that ended has none.
abbrev pub turn_in : Settings → ℕ → State → Record → Turned
turn_in settings time Running r =
    let t = instruction r in at_turn_end settings time (with_effect (turn_counted r) t) t.accesses t.end
turn_in settings time Yielded r =
    idle (unwrap_or (option_map (λ next. deliver (turn_counted r) next (left_by next)) (due r.own.inbox)) r)
turn_in settings time other r = idle r

-- the turn of a process at a time, by its state; one that an operator holds has none
unfoldable pub turned : Settings → ℕ → Record → Turned
turned settings time r = if r.process.held then idle r else turn_in settings time r.process.state r

-- What happens to a process: its turn at a time; and what devices tell it, or an operator does to it. Its alarm fires,
-- when the clock shows a tick. A button is pressed, or released. The UART took the next bytes of its write, or has
-- taken all; bytes came in for its read. A random word was drawn for it, or none; its storage request was served, or
-- failed. Or an operator acts on it.
pub data Event : Type 0 where
  Turn : (time : ℕ) → Event
  Alarmed : (now : ℕ) → Event
  Edge : (button : ℕ) (pressed : Bool) → Event
  Taken : Event
  WriteDone : Event
  Input : (bytes : List ℕ) → Event
  Word : (word : ℕ) → Event
  NoWord : Event
  Stored : (moved : Bool) → Event
  Act : (verb : Verb) → Event

-- whether an event is a turn
abbrev pub is_turn : Event → Bool
is_turn (Turn time) = true
is_turn other = false

-- whether it is an operator's act
abbrev pub is_act : Event → Bool
is_act (Act verb) = true
is_act other = false

-- a process whose storage request was served, or failed
abbrev pub stored : Bool → Record → Record
stored moved r =
    let a = storage.answered (not moved) (flash_of r) r.storage r.own in
    let storage = unwrap_or (option_map (λ w. overwritten r.storage w.0 w.1) a.moved) r.storage in
    record (record_with_step r a.step) { storage = storage }

-- a process on which an operator acted: it is listed, held, let go or ended, where the verb applies, or starts again
abbrev pub operated : Verb → Record → Record
operated verbs.List r = r
operated verbs.Restart r = restart r
operated verb r = record r { process = process_operated verb r.process; own = own_operated verb r.process r.own }

-- the record after an event; nothing else changes a record, and it reads no other process, list or device
unfoldable pub apply : Settings → Event → Record → Record
apply settings (Turn time) r = (turned settings time r).after
apply settings (Alarmed now) r = record_with_step r (alarm.answered now r.own)
apply settings (Edge button pressed) r =
    record (record_with_step r (buttons.edged button pressed r.own)) { pressed = with_bit r.pressed button pressed }
apply settings Taken r = record_with_step r (console.taken r.own)
apply settings WriteDone r = record_with_step r (console.write_done r.own)
apply settings (Input bytes) r = record_with_step r (console.input bytes r.own)
apply settings (Word word) r = record_with_step r (random.answered (Some word) r.own).step
apply settings NoWord r = record_with_step r (random.answered None r.own).step
apply settings (Stored moved) r = stored moved r
apply settings (Act verb) r = operated verb r

-- whether a process in a state can have a turn: it runs, or it has yielded and something is due to it
abbrev pub has_turn : State → Option Delivery → Bool
has_turn Running next = true
has_turn Yielded next = is_some next
has_turn other next = false

-- whether a process can have a turn: no operator holds it, and its state lets it
abbrev pub may_turn : Record → Bool
may_turn r = not r.process.held && has_turn r.process.state (due r.own.inbox)
