-- The turns of a process with what is its own. Only proofs use this.
use Rattle.std.specs.Prelude.{◌≡◌, ◌≢◌, ℕ, ◌+◌, ◌≤◌, ◌<◌, true, List, [], length, slice_get, slice_set}
use Rattle.std.specs.Prelude.{Option, None, Some}
use Rattle.tk_base.specs.declared.limits.TheConstants.{STEP_LIMIT}
use Rattle.rv32_model.specs.UserTurn.{MemoryAccess, UserTurn}
use Rattle.rv32_model.specs.declared.turn_end.TurnEnd.{TurnEnd}
use Rattle.rv32_model.specs.declared.turn_end.TurnEnd.TheVariants.{Went}
use Rattle.tk_base.specs.Regs.{Registers}
use Rattle.tk_base.specs.declared.call.CallRule.{CallRule}
use Rattle.syscall_abi.specs.Call.{call_of, class}
use Rattle.syscall_abi.specs.Reply.{put_reply}
use Rattle.syscall_abi.specs.declared.reply.Reply.{Reply}
use Rattle.process_record.specs.declared.outcome.Outcome.TheVariants.{Replied}
use Rattle.process_model.specs.Own.{Own}
use Rattle.process_model.specs.Instruction.{with_write}
use Rattle.process_record.specs.Process.{after_turn}
use Rattle.process_record.specs.Parts.{after_fault}
use Rattle.process_record.specs.declared.emit.CallMade.{CallMade}
use Rattle.process_record.specs.declared.emit.Emit.{Emit}
use Rattle.process_record.specs.declared.process.Process.{Process}
use Rattle.grant_enter.specs.Homes.{ChangesOnly, Homes, with_own}
use Rattle.tk_base.specs.declared.access.Denial.{Denial}
use Rattle.fault_policy.specs.Policy.{decision}
use Rattle.fault_policy.specs.declared.Policy.{Policy}
use Rattle.kernel_model.specs.Record.{Record, instruction}
use Rattle.kernel_model.specs.Turn.{Turned, arguments, rule_shown, settled, surroundings, turned}
use Rattle.kernel_model.specs.Parts.{calls}
use Rattle.kernel_calls.specs.Own.{Beside, record_in}
use Rattle.kernel_model.specs.Calls.{served}
use Rattle.syscall_abi.specs.declared.form.CallForm.{CallForm}
use Rattle.process_record.specs.declared.outcome.Outcome.{Outcome}
use Rattle.board_turns.specs.declared.turn.Shown.{Shown}
use Rattle.board_turns.specs.declared.guard.ActivePmp.{ActivePmp}
use Rattle.board_turns.specs.declared.machine.Machine.{Machine}
use Rattle.board_turns.specs.Guards.{GuardsOnly, IsSetFor}
use Rattle.board_drivers.specs.Driven.{Drives, beside_in}
use Rattle.driver_model.specs.Commands.{BoardRequest}
use Rattle.kernel_calls.specs.Residents.{Resident, resident, id_of, IsResident}

-- no bytes of storage, and no button pressed
abbrev pub nothing_beside : Beside
nothing_beside = record { storage = []; pressed = 0 }

-- its next instruction, which reads nothing of what it has beside
abbrev pub next_instruction : List ℕ → Resident → UserTurn
next_instruction flash r = instruction (record_in flash r.0 r.1 nothing_beside)

-- Of the next instruction it is known that it does not go, and how it ends; or nothing is known, as of one that goes.
abbrev pub IsKnownEnd : TurnEnd → List ℕ → Resident → Type 0
IsKnownEnd known flash r = known ≢ Went → (next_instruction flash r).end ≡ known

-- what an instruction leaves of both, and that it counts as a turn
abbrev pub after_instruction : Resident → UserTurn → Resident
after_instruction r t = (record (after_turn r.0) { regs = t.regs }, with_write r.1 t)

-- the next instruction of a process was made, and left this
abbrev pub IsMade : List ℕ → Resident → Resident → Type 0
IsMade flash old new = new ≡ after_instruction old (next_instruction flash old)

-- the machine of whose home and registers an instruction of the process in a slot left these, and all else as it was
abbrev pub machine_instructed : ℕ → Machine → Own → ActivePmp → Machine
machine_instructed slot x own guard = record x { home = with_own x.home slot own; guard = guard }

-- what a turn told in what a step shows, if it told anything
abbrev pub told_in_emit : Emit → Shown
told_in_emit emit = record { call = emit.made; denial = emit.denial }

abbrev pub with_shown : Emit → Shown → Emit
with_shown emit shown = record emit { made = shown.call; denial = shown.denial }

abbrev pub nothing_shown : Shown
nothing_shown = record { call = None; denial = None }

-- what a turn shows
pub record Shows (t : Turned) (shown : Shown) : Type 0 where
  pub call : t.told.call ≡ shown.call
  pub denial : t.told.denial ≡ shown.denial

-- a turn leaves this of the process in a slot, shows this, and has the drivers of a machine do what it asks of them
abbrev pub TurnsOut : ℕ → Machine → Machine → Shown → Beside → Resident → Resident → Turned → Type 0
TurnsOut slot old new shown beside r s t =
    (t.after ≡ record_in old.home.flash s.0 s.1 beside) × Shows t shown
    × Drives (id_of slot r.1) t.acts old.drivers new.drivers

-- So does a turn, or a part of it, whatever the process's storage is. Of the buttons it sees those that the drivers
-- before it have pressed, and it leaves them so.
abbrev pub Does : (Record → Turned) → ℕ → Machine → Machine → Shown → Resident → Resident → Type 0
Does turn slot old new shown r s = (storage : List ℕ) →
    let beside = beside_in old.drivers storage in
    TurnsOut slot old new shown beside r s (turn (record_in old.home.flash r.0 r.1 beside))

-- what serving the call of the process in a slot does on a machine
abbrev pub ServesCall : ℕ → Machine → Machine → Shown → Resident → Resident → Type 0
ServesCall slot old new shown r s = (accesses : List MemoryAccess) →
    Does (λ before. calls old.moment.settings old.moment.time before accesses (call_of r.0.regs)) slot old new shown r s

-- where a call is replied to, these registers have the reply in its place in those before it
abbrev pub ReplyStands : Registers → Outcome → Registers → Type 0
ReplyStands before outcome after =
    (reply : Reply) (rule : Option CallRule) → outcome ≡ Replied reply rule →
    arguments after ≡ arguments (put_reply reply before)

-- the call that registers make, as a step shows it where nothing came of it yet
abbrev pub asked : Registers → CallMade
asked regs = record { class = class regs; args = arguments regs; reply = None; rule = None }

-- the reply to a call, where what came of it is one, from the registers that have it
abbrev pub reply_in : Outcome → Registers → Option (List ℕ)
reply_in (Replied reply rule) after = Some (arguments after)
reply_in other after = None

-- that call with what came of it
abbrev pub answered : CallMade → Outcome → Registers → CallMade
answered call outcome after = record call { reply = reply_in outcome after; rule = rule_shown outcome }

-- a fault of a process is settled as a policy decides, whatever the process has beside
abbrev pub Settles : Policy → List ℕ → Denial → Resident → Resident → Type 0
Settles policy flash denial old new = (beside : Beside) →
    settled (record_in flash (after_fault old.0 denial) old.1 beside) (decision policy old.0.restarts)
    ≡ record_in flash new.0 new.1 beside

-- what a turn of the process in a slot does on a machine
abbrev pub Turns : ℕ → Machine → Machine → Shown → Resident → Resident → Type 0
Turns slot old new shown = Does (turned old.moment.settings old.moment.time) slot old new shown

-- What a call of the process in a slot comes to: what it asks of the board, which the drivers of a machine do; and,
-- whatever the process's storage is, what it leaves of the process, and what comes of it.
pub record Finishes (slot : ℕ) (old new : Machine) (call : CallForm) (outcome : Outcome) (r s : Resident) : Type 0 where
  pub acts : List BoardRequest
  pub serves : (storage : List ℕ) →
      let beside = beside_in old.drivers storage in
      let before = record_in old.home.flash r.0 r.1 beside in
      served old.moment.settings.strict (surroundings old.moment.settings old.moment.time before) before call
      ≡ record { after = record_in new.home.flash s.0 s.1 beside; outcome = outcome; acts = acts }
  pub drives : Drives (id_of slot r.1) acts old.drivers new.drivers

-- So many turns of the process in a slot may be made on a machine: it is as it is to be, so many steps are left, and
-- the registers protect whomever they are set for.
pub record MayTurn (turns place : ℕ) (x : Machine) (r : Resident) : Type 0 where
  pub slot : place < length x.home.owns
  pub seated : IsResident x.home.flash x.moment.steps r
  pub limit : x.moment.steps + turns ≤ STEP_LIMIT
  pub guard : GuardsOnly x.guard x.home

-- A turn of the process in a slot was counted on a machine and is not over: the process lives, and is as it is to be a
-- step later, and the registers are set for it.
pub record InTurn (place : ℕ) (x : Machine) (r : Resident) : Type 0 where
  pub slot : place < length x.home.owns
  pub seated : IsResident x.home.flash (x.moment.steps + 1) r
  pub lives : r.1.lives ≡ true
  pub restarts : r.0.restarts ≤ x.moment.steps
  pub life : r.1.life ≤ x.moment.steps
  pub limit : x.moment.steps < STEP_LIMIT
  pub set : IsSetFor place x.guard x.home

-- What turns of the process in a slot leave of a machine, or a part of one: it is as it is to be after so many steps,
-- nothing of any other slot has changed, the registers fit, and the rest is the same.
pub record LeavesMachine (steps slot : ℕ) (old new : Machine) (r : Resident) : Type 0 where
  pub seated : IsResident old.home.flash (old.moment.steps + steps) r
  pub only : ChangesOnly slot old.home new.home
  pub guard : GuardsOnly new.guard new.home
  pub rest : new ≡ record old { home = new.home; guard = new.guard; drivers = new.drivers }

-- a slot of the tables has a process, and this holds of it
pub record HasProcess (slot : ℕ) (home : Homes) (processes : List Process) (Holds : Resident → Type 0) : Type 0 where
  pub within : slot < length processes
  pub owns : length home.owns ≡ length processes
  pub holds : (process : Process) → slice_get processes slot ≡ Some process → Holds (resident home slot process)

-- nothing but the process in one slot, and what is its own, has changed
pub record ChangesSlot (slot : ℕ) (home home_after : Homes) (processes processes_after : List Process) : Type 0 where
  pub before : Resident
  pub after : Resident
  pub was : slice_get processes slot ≡ Some before.0
  pub own_was : slice_get home.owns slot ≡ Some before.1
  pub is : processes_after ≡ slice_set processes slot after.0
  pub own_is : home_after ≡ record home { owns = slice_set home.owns slot after.1 }

-- so many steps of the process in a slot of the tables, and of no other, were made on a machine, and they do this
pub record StepsInSlot (steps slot : ℕ) (old new : Machine) (processes processes_after : List Process)
    (Do : Resident → Resident → Type 0) : Type 0 where
  pub at : ChangesSlot slot old.home new.home processes processes_after
  pub leaves : LeavesMachine steps slot old new at.after
  pub does : Do at.before at.after
