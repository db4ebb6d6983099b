-- The turn of a process, made of the instruction and of what follows it, is the one that the definitions make of its
-- record. By the state of the process, and for one that runs by the end of its instruction: it went, it was denied, or
-- it made a call. The instruction's relation is taken apart once, and each end adds what the drivers did.
use Rattle.kernel_model.specs.Turn.{surroundings}
use Rattle.board_turns.proofs.Replies.{reply_stands}
use Rattle.std.proofs.Common.{◌≡◌, ◌≤◌, ℕ, ◌+◌, ◌⊎◌, inl, inr, true, false, List, []}
use Rattle.std.proofs.Common.{Option, None, Some, is_some, refl, sym, ap, ◌∙◌, arith}
use Rattle.std.proofs.Common.{cond, rules}
use Rattle.std.proofs.lemmas.List.{length-set, set-set}
use Rattle.std.proofs.lemmas.Option.{same_Some}
use Rattle.process_model.specs.Instruction.{with_write}
use Rattle.board_turns.proofs.Quiet.{later_seated}
use Rattle.tk_base.specs.declared.access.Denial.{Denial}
use Rattle.syscall_abi.specs.Call.{call_of}
use Rattle.process_record.specs.declared.process.Process.{Process}
use Rattle.process_record.specs.declared.process.State.{State}
use Rattle.process_record.specs.declared.process.State.TheVariants.{Running, Yielded, Faulted, Terminated}
use Rattle.rv32_model.specs.declared.turn_end.TurnEnd.{TurnEnd}
use Rattle.rv32_model.specs.declared.turn_end.TurnEnd.TheVariants.{Went, Call, Trap}
use Rattle.rv32_model.specs.UserTurn.{UserTurn}
use Rattle.process_model.specs.Own.{Own}
use Rattle.process_record.specs.Process.{after_turn}
use Rattle.process_record.specs.Parts.{after_fault}
use Rattle.grant_enter.specs.Homes.{Homes, ChangesOnly, own_of, with_own}
use Rattle.process_model.specs.Flash.{object_in}
use Rattle.process_restart.specs.Restarts.{StartsAgain}
use Rattle.kernel_calls.specs.Own.{Beside, record_in}
use Rattle.kernel_calls.proofs.Starts.{starts_again}
use Rattle.process_record.specs.Process.{is_alive}
use Rattle.kernel_model.specs.Record.{Record}
use Rattle.upcall_queue.specs.declared.inbox.Delivery.{Delivery}
use Rattle.upcall_queue.specs.Pending.{due}
use Rattle.kernel_calls.specs.Outcomes.{deliver_due}
use Rattle.kernel_model.specs.Calls.{restart}
use Rattle.kernel_model.specs.Turn.{made as call_made, turn_counted, at_turn_end, idle}
use Rattle.kernel_model.specs.Turn.{turn_in, turned}
use Rattle.process_record.specs.declared.outcome.Outcome.{Outcome}
use Rattle.process_record.specs.declared.outcome.Outcome.TheVariants as outcomes
use Rattle.syscall_abi.specs.declared.form.CallForm.{CallForm}
use Rattle.tk_base.specs.Regs.{Registers}
use Rattle.kernel_model.specs.Parts.{delivery}
use Rattle.kernel_model.specs.Parts.{unknown_call}
use Rattle.driver_model.specs.Commands.{leaving_all}
use Rattle.board_turns.specs.declared.guard.ActivePmp.{ActivePmp}
use Rattle.board_turns.specs.declared.machine.Machine.{Machine}
use Rattle.board_turns.specs.Guards.{GuardsOnly, IsSetFor}
use Rattle.board_turns.specs.declared.turn.Shown.{Shown}
use Rattle.kernel_model.specs.Laws.{DropsAtMostOne}
use Rattle.kernel_model.proofs.Places.{free_turned}
use Rattle.board_drivers.specs.Driven.{Drives, MayServe, beside_in}
use Rattle.kernel_calls.specs.Residents.{IsResident, Resident, id_of, resident}
use Rattle.board_turns.specs.Turning.{Finishes, ReplyStands, answered, asked}
use Rattle.board_turns.specs.Turning.{InTurn, IsMade, LeavesMachine, MayTurn, ServesCall, Settles, Turns}
use Rattle.board_turns.specs.Turning.{after_instruction, machine_instructed, next_instruction, nothing_shown}
use Rattle.board_drivers.proofs.Orders.{drives_nothing}

-- a change of one slot after another is one
only_twice : (slot : ℕ) (a b c : Homes) → ChangesOnly slot a b → ChangesOnly slot b c → ChangesOnly slot a c
only_twice slot a b c first second =
    second ∙ ap (λ (h : Homes). with_own h slot (own_of c slot)) first
    ∙ ap (λ (owns : List Own). record a { owns = owns }) (set-set a.owns slot (own_of b slot) (own_of c slot))

-- it leaves flash
pub only_flash : (slot : ℕ) (a b : Homes) → ChangesOnly slot a b → b.flash ≡ a.flash
only_flash slot a b only = ap (λ (h : Homes). h.flash) only

-- the turn of a process that is not held, by its state
by_state : (x : Machine) (r : Resident) (beside : Beside) (state : State) → r.0.held ≡ false → r.0.state ≡ state
    → (let before = record_in x.home.flash r.0 r.1 beside in
    turned x.moment.settings x.moment.time before ≡ turn_in x.moment.settings x.moment.time state before)
by_state x r beside state free is =
    rw (free_turned x.moment.settings x.moment.time (record_in x.home.flash r.0 r.1 beside) free, is)

-- that of one that runs, by the end of its instruction
by_end : (x : Machine) (r : Resident) (beside : Beside) (end : TurnEnd) → r.0.state ≡ Running → r.0.held ≡ false
    → (next_instruction x.home.flash r).end ≡ end
    → (let t = next_instruction x.home.flash r in
    let a = after_instruction r t in
    turned x.moment.settings x.moment.time (record_in x.home.flash r.0 r.1 beside)
    ≡ at_turn_end x.moment.settings x.moment.time (record_in x.home.flash a.0 a.1 beside) t.accesses end)
by_end x r beside end runs free e = rw (by_state x r beside Running free runs, e)

-- registers that are set for a slot fit
pub guards_only : (slot : ℕ) (guard : ActivePmp) (home : Homes) → IsSetFor slot guard home → GuardsOnly guard home
guards_only slot guard home set = record {
  protects = λ other is. rw (same_Some slot other (sym set.slot_is ∙ is)) at set.protects;
}

-- the instruction of the process in a slot, which left the machine and the process so
module _ (slot : ℕ) (x y : Machine) (p q : Process)
    (is : IsMade x.home.flash (resident x.home slot p) (resident y.home slot q))
    (rest : y ≡ machine_instructed slot x (own_of y.home slot) y.guard) where
  -- the process before it, and the instruction
  abbrev before : Resident
  before = resident x.home slot p

  abbrev this_turn : UserTurn
  this_turn = next_instruction x.home.flash before

  made_so : (q ≡ (after_instruction before this_turn).0) × (own_of y.home slot ≡ (after_instruction before this_turn).1)
  made_so = (ap (λ (r : Resident). r.0) is, ap (λ (r : Resident). r.1) is)

  -- a step later the process is as it is to be
  made_seated : MayTurn 1 slot x before → IsResident x.home.flash (x.moment.steps + 1) (resident y.home slot q)
  made_seated may =
      rw is (later_seated x.home.flash x.moment.steps 1 p before.1 (with_write before.1 this_turn) this_turn.regs refl
      may.seated)

  -- its turn was counted, and is not over
  pub in_turn : MayTurn 1 slot x before → p.state ≡ Running → IsSetFor slot y.guard y.home
      → InTurn slot y (resident y.home slot q)
  in_turn may runs set = rw (is, rest) (record {
    slot = omega (arith, may.slot, length-set x.home.owns slot (own_of y.home slot));
    seated = rw is at (made_seated may);
    lives = may.seated.own.lives ∙ ap is_alive runs;
    restarts = may.seated.restarts;
    life = may.seated.life;
    limit = omega (arith, may.limit);
    set = rw rest at set;
  })

  -- and it may be all of the turn
  pub all_left : MayTurn 1 slot x before → IsSetFor slot y.guard y.home
      → LeavesMachine 1 slot x y (resident y.home slot q)
  all_left may set = record {
    seated = made_seated may;
    only = ap (λ (z : Machine). z.home) rest;
    guard = guards_only slot y.guard y.home set;
    rest = rw rest;
  }

  -- or what follows it leaves what all of the turn leaves
  pub then_left : (z : Machine) (r : Resident) → LeavesMachine 1 slot y z r → LeavesMachine 1 slot x z r
  then_left z r h = record {
    seated = rw rest at h.seated;
    only = only_twice slot x.home y.home z.home (ap (λ (a : Machine). a.home) rest) h.only;
    guard = h.guard;
    rest = rw rest at h.rest;
  }

  -- it leaves what the process asks of drivers
  pub may_serve_still : MayServe x.moment x.drivers slot (own_of x.home slot)
      → MayServe y.moment y.drivers slot (own_of y.home slot)
  may_serve_still may = rw (made_so.1, rest) (search rules)

  module _ (runs : p.state ≡ Running) (free : p.held ≡ false) where
    -- an instruction with nothing more to do
    pub went : this_turn.end ≡ Went → Turns slot x y nothing_shown before (resident y.home slot q)
    went end = rw (made_so.0, made_so.1, rest) (λ storage.
        rw (by_end x before (beside_in x.drivers storage) Went runs free end)
        (refl, record { call = refl; denial = refl }, drives_nothing (id_of slot before.1) x.drivers))

    -- one that is denied
    pub trapped : (z : Machine) (new : Resident) (denial : Denial) (shown : Shown) → this_turn.end ≡ Trap denial
        → shown ≡ record { call = None; denial = Some denial }
        → Settles y.moment.settings.policy y.home.flash denial (resident y.home slot q) new
        → Drives (id_of slot (own_of y.home slot)) leaving_all y.drivers z.drivers → Turns slot x z shown before new
    trapped z new denial shown end e settles drives = λ storage.
        let beside = beside_in x.drivers storage in
        rw (by_end x before beside (Trap denial) runs free end, e) (
          (rw (made_so.0, made_so.1, rest) at settles) beside,
          record { call = refl; denial = refl },
          rw (made_so.1, rest) at drives,
        )

    -- one that makes a system call
    pub makes_call : (z : Machine) (new : Resident) (shown : Shown) → this_turn.end ≡ Call
        → ServesCall slot y z shown (resident y.home slot q) new → Turns slot x z shown before new
    makes_call z new shown end serves = λ storage.
        rw (by_end x before (beside_in x.drivers storage) Call runs free end)
        ((rw (made_so.0, made_so.1, rest) at serves) this_turn.accesses storage)

-- a call of an unknown class is a fault
pub unknown_faults : (slot : ℕ) (x y : Machine) (old new : Resident) (denial : Denial) (shown : Shown)
    → call_of old.0.regs ≡ None → denial ≡ unknown_call old.0
    → shown ≡ record { call = None; denial = Some denial }
    → Settles x.moment.settings.policy x.home.flash denial old new
    → Drives (id_of slot old.1) leaving_all x.drivers y.drivers → ServesCall slot x y shown old new
unknown_faults slot x y old new denial shown none is e settles drives = λ accesses storage.
    rw (none, ← is, e) (settles (beside_in x.drivers storage), record { call = refl; denial = refl }, drives)

-- a call that was asked for, with what came of it, is the call that was made
answered_is_made : (regs : Registers) (outcome : Outcome) (after : Registers) → ReplyStands regs outcome after
    → answered (asked regs) outcome after ≡ call_made regs outcome
answered_is_made regs (outcomes.Replied reply rule) after stands =
    ap (λ (words : List ℕ). record (asked regs) { reply = Some words; rule = rule }) (stands reply rule refl)
answered_is_made regs _ after stands = refl

-- a call of a known class is served, and shown with what came of it
pub call_serves : (slot : ℕ) (x y : Machine) (old new : Resident) (call : CallForm) (outcome : Outcome) (shown : Shown)
    → call_of old.0.regs ≡ Some call → Finishes slot x y call outcome old new → ChangesOnly slot x.home y.home
    → shown ≡ record { call = Some (answered (asked old.0.regs) outcome new.0.regs); denial = None }
    → ServesCall slot x y shown old new
call_serves slot x y old new call outcome shown known finishes only e = λ accesses storage.
    let r = record_in x.home.flash old.0 old.1 (beside_in x.drivers storage) in
    let around = surroundings x.moment.settings x.moment.time r in
    let stands = rw (finishes.serves storage) at (reply_stands x.moment.settings.strict around r call) in
    rw (
      known,
      finishes.serves storage,
      only_flash slot x.home y.home only,
      e,
      answered_is_made old.0.regs outcome new.0.regs stands,
    )
    (refl, record { call = refl; denial = refl }, finishes.drives)

-- one whose denial was recorded starts again as one that faulted does
pub faulted_restarts : (flash : List ℕ) (p q : Process) (own own_after : Own) (beside : Beside) (denial : Denial)
    → StartsAgain (object_in flash p.object) (record p { denial = Some denial }, own) (q, own_after)
    → restart (record_in flash (after_fault p denial) own beside) ≡ record_in flash q own_after beside
faulted_restarts flash p q own own_after beside denial k =
    sym (starts_again flash (after_fault p denial) q own own_after beside (search rules))

-- the turn of a process that has yielded
by_due : (r : Record) (next : Option Delivery)
    → delivery r next ≡ idle (cond (is_some next) (deliver_due (turn_counted r) next) r)
by_due r None = refl
by_due r (Some next) = refl

module _ (slot : ℕ) (x : Machine) where
  -- a turn in which a process may be changed, and no more
  is_quiet : (old new : Resident)
      → ((beside : Beside)
      → turned x.moment.settings x.moment.time (record_in x.home.flash old.0 old.1 beside)
      ≡ idle (record_in x.home.flash new.0 new.1 beside)) → Turns slot x x nothing_shown old new
  is_quiet old new t = λ storage.
      rw (t (beside_in x.drivers storage))
      (refl, record { call = refl; denial = refl }, drives_nothing (id_of slot old.1) x.drivers)

  -- what is due to it is delivered
  pub woken : (old new : Resident) → old.0.state ≡ Yielded → old.0.held ≡ false → is_some (due old.1.inbox) ≡ true
      → ((beside : Beside)
      → record_in x.home.flash new.0 new.1 beside
      ≡ deliver_due (record_in x.home.flash (after_turn old.0) old.1 beside) (due old.1.inbox))
      → Turns slot x x nothing_shown old new
  woken old new waits free some delivers = is_quiet old new (λ beside.
      rw (by_state x old beside Yielded free waits, by_due _ (due old.1.inbox), some, delivers beside))

  -- where nothing is nothing happens
  pub waits_on : (r : Resident) → r.0.state ≡ Yielded → r.0.held ≡ false → is_some (due r.1.inbox) ≡ false
      → Turns slot x x nothing_shown r r
  waits_on r waits free none = is_quiet r r (λ beside.
      rw (by_state x r beside Yielded free waits, by_due _ (due r.1.inbox), none))

  -- a process that ended has no turn
  pub rests : (r : Resident) → r.0.held ≡ false → (r.0.state ≡ Faulted) ⊎ ((code : ℕ) × (r.0.state ≡ Terminated code))
      → Turns slot x x nothing_shown r r
  rests r free (inl is) = is_quiet r r (λ beside. by_state x r beside Faulted free is)
  rests r free (inr is) = is_quiet r r (λ beside. by_state x r beside (Terminated is.0) free is.1)

-- a process that had no turn is as it is to be, some steps later, so one step later
pub rests_seated_on : (flash : List ℕ) (steps more : ℕ) (r : Resident) → IsResident flash steps r
    → IsResident flash (steps + more) r
rests_seated_on flash steps more r s = search (rules, arith)

pub rests_seated : (flash : List ℕ) (steps : ℕ) (r : Resident) → IsResident flash steps r
    → IsResident flash (steps + 1) r
rests_seated flash steps r s = rests_seated_on flash steps 1 r s

-- any turn drops one upcall at most
pub loses_one : (slot : ℕ) (x y : Machine) (shown : Shown) (old new : Resident) → DropsAtMostOne
    → Turns slot x y shown old new → new.1.inbox.dropped ≤ old.1.inbox.dropped + 1
loses_one slot x y shown old new law turns =
    rw (turns []).0 at
    (law x.moment.settings x.moment.time (record_in x.home.flash old.0 old.1 (beside_in x.drivers []))).not_more
