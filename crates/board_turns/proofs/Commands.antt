-- A command that its driver answers comes to what the definition serves. What the taker made of it is a value (`Came`),
-- so the record after the call is that of the command, and the process is seated as before. A call that is left to no
-- driver is the kernel's own: by the seven outcomes, of which two have it leave all queues.
use Rattle.std.proofs.Common.{◌≡◌, ◌≢◌, ◌⊎◌, inl, inr, ℕ, zero, suc, Bool, true, List, [], ◌∷◌, slice_get}
use Rattle.std.proofs.Common.{slice_index_or, Option, None, Some, is_some, Result, Ok, Err, refl, sym, ap}
use Rattle.std.proofs.lemmas.Bool.{and_parts}
use Rattle.std.proofs.lemmas.Option.{cond_some}
use Rattle.tk_base.specs.declared.call.CallRule.{CallRule}
use Rattle.syscall_abi.specs.declared.form.CallForm.{CallForm}
use Rattle.syscall_abi.specs.declared.form.CallForm.TheVariants.{Command}
use Rattle.syscall_abi.specs.declared.reply.Reply.{Reply}
use Rattle.process_model.specs.Own.{Own}
use Rattle.process_record.specs.declared.outcome.Outcome.{Outcome}
use Rattle.process_record.specs.declared.outcome.Outcome.TheVariants.{ToDriver, Ended, Again}
use Rattle.process_record.specs.declared.process.Process.{Process}
use Rattle.board_devices.specs.Clock.{clock_at}
use Rattle.driver_model.specs.Steps.{own_after}
use Rattle.driver_model.specs.Commands.{leaving_all}
use Rattle.driver_model.specs.Drivers.{CommandContext, CommandHandler, handler_of}
use Rattle.syscall_abi.specs.Reply.{reply_of}
use Rattle.driver_model.specs.Laws.{CommandsStayInPlace, StaysInPlace}
use Rattle.tk_base.specs.declared.process.ProcessId.{ProcessId}
use Rattle.grant_enter.specs.Homes.{Homes, living, nobody, own_of}
use Rattle.kernel_model.specs.Record.{Record}
use Rattle.kernel_model.specs.Parts.{object_permits, with_process}
use Rattle.kernel_model.specs.Calls.{driver_answered, by_form, served}
use Rattle.process_model.specs.Flash.{object_in}
use Rattle.kernel_calls.specs.Own.{record_in}
use Rattle.kernel_calls.specs.Given.{given}
use Rattle.kernel_calls.specs.Outcomes.{ServingComesTo, IsLeft, IsServed, ServesAt, acts_for, is_for_driver}
use Rattle.kernel_calls.specs.Outcomes.{is_taken, record_of_slot}
use Rattle.kernel_model.specs.Turn.{surroundings}
use Rattle.board_drivers.specs.declared.drivers.Order.{Order}
use Rattle.board_drivers.specs.Driven.{Commands, Drives, MayServe, beside_in, order_in}
use Rattle.kernel_calls.specs.Residents.{IsResident, Resident, id_of, resident}
use Rattle.board_turns.specs.declared.machine.Machine.{Machine}
use Rattle.board_turns.specs.Turning.{Finishes}

-- what is there
pub some_of : {A : Type 0} (o : Option A) → is_some o ≡ true → (a : A) × (o ≡ Some a)
some_of None e = cc
some_of (Some a) e = (a, refl)

-- the id of the process that lives in a slot is its own
pub living_id : (slot n : ℕ) (owns : List Own) (id : ProcessId) → living slot (slice_get owns n) ≡ Some id
    → id ≡ id_of slot (slice_index_or owns n nobody)
living_id slot n [] id e = cc
living_id slot zero (own ∷ owns) id e = sym (cond_some own.lives (id_of slot own) id e).1
living_id slot (suc n) (own ∷ owns) id e = living_id slot n owns id e

-- a call by which its process ends or starts again has it leave all queues, and the kernel serves it itself
pub gone_so : (outcome : Outcome) → (outcome ≡ Ended) ⊎ (outcome ≡ Again)
    → (acts_for outcome ≡ leaving_all) × (outcome ≢ ToDriver)
gone_so outcome (inl ended) = rw ended (refl, λ e. cc)
gone_so outcome (inr again) = rw again (refl, λ e. cc)

-- any other asks the board for nothing
pub stays_in : (outcome : Outcome) → outcome ≢ Ended → outcome ≢ Again → acts_for outcome ≡ []
stays_in Ended ended again = absurd (ended refl)
stays_in Again ended again = absurd (again refl)
stays_in _ ended again = refl

-- a reply that is given is the answer
given_so : (r : Record) (answer : Result Reply CallRule) → driver_answered r answer ≡ given r (reply_of answer)
given_so r (Ok reply) = refl
given_so r (Err rule) = refl

-- what a command sees on a machine
abbrev pub seen_by_commands : Machine → CommandContext
seen_by_commands x = record {
  now = clock_at x.moment.settings.start x.moment.time;
  leds = x.moment.settings.leds;
  buttons = x.moment.settings.buttons;
  pressed = x.drivers.buttons.pressed;
  storage = x.moment.settings.storage;
}

-- a call that is a command has its form
pub form_in : (form : CallForm) (order : Order) → order_in form ≡ Some order
    → form ≡ Command order.driver order.number order.a2 order.a3
form_in (Command driver number a2 a3) order is =
    let same : record { driver = driver; number = number; a2 = a2; a3 = a3 } ≡ order = cc in
    ap (λ (o : Order). Command o.driver o.number o.a2 o.a3) same
form_in _ order is = cc

-- what comes of a command of the process in a slot, as its driver takes it there
abbrev pub Came : ℕ → Machine → Machine → Order → Reply × Option CallRule → CommandHandler → Type 0
Came slot x y order answer taker =
    let c = taker (seen_by_commands x) order.number order.a2 order.a3 (own_of x.home slot) in
    (answer ≡ reply_of c.answer) × (own_of y.home slot ≡ own_after c.step)
    × Drives (id_of slot (own_of x.home slot)) c.acts x.drivers y.drivers

module _ (slot : ℕ) (x y : Machine) (order : Order) (answer : Reply × Option CallRule) (taker : CommandHandler)
    (found : handler_of order.driver ≡ Some taker) where
  -- what the driver made of it
  pub came : (id : ProcessId) (tick : ℕ) → id ≡ id_of slot (own_of x.home slot)
      → tick ≡ clock_at x.moment.settings.start x.moment.time
      → MayServe x.moment x.drivers slot (own_of x.home slot)
      → Commands (record {
        tick = tick;
        id = id;
        order = order;
        own = own_of x.home id.slot;
        drivers = x.drivers;
      }) answer (own_of y.home id.slot) y.drivers
      → Came slot x y order answer taker
  came id tick at when may comes =
      rw (← may.leds, ← may.buttons, ← may.size) (rw (at, when) at (comes taker found))

  -- it has left the process in its place
  pub came_in_place : CommandsStayInPlace → Came slot x y order answer taker
      → StaysInPlace (own_of x.home slot) (own_of y.home slot)
  came_in_place law come =
      rw come.1 (law order.driver taker found (seen_by_commands x) order.number order.a2 order.a3 (own_of x.home slot))

  -- what comes of a command that its driver answered
  pub finishes : (p q : Process) (call : CallForm) (o : Outcome)
      → call ≡ Command order.driver order.number order.a2 order.a3
      → is_for_driver x.moment.settings.strict (object_in x.home.flash p.object) call ≡ true
      → Came slot x y order answer taker → q.object ≡ p.object → y.home.flash ≡ x.home.flash
      → ((r : Record) → ServingComesTo (given (with_process r p) answer) (with_process r q) o)
      → Finishes slot x y call o (resident x.home slot p) (resident y.home slot q)
  unfolding served by_form
  finishes p q call o is for come object same gives =
      let c = taker (seen_by_commands x) order.number order.a2 order.a3 (own_of x.home slot) in
      let object_is = object_in x.home.flash p.object in
      let permits = (and_parts (object_permits x.moment.settings.strict object_is call) (is_taken call) for).0 in
      record {
        acts = c.acts;
        serves = λ storage.
            let r = record_in x.home.flash p (own_of y.home slot) (beside_in x.drivers storage) in
            rw (permits, is, found, ← come.1, given_so r c.answer, ← come.0, gives r, object, same);
        drives = come.2;
      }

-- what comes of a call that is not left to its driver
pub is_served : (strict : Bool) (slot : ℕ) (home home' : Homes) (p p' : Process) (call : CallForm) (o : Outcome)
    → ServesAt strict slot home p call home' p' o → (o ≡ ToDriver → ⊥) → IsServed strict slot home home' p p' call o
is_served strict slot home home' p p' call ToDriver s n = absurd (n refl)
is_served strict slot home home' p p' call _ s n = s

-- a call that was left to its driver began as the kernel's
pub finishes_left : (slot : ℕ) (x y : Machine) (h : Homes) (p q : Process) (s : Resident) (call : CallForm)
    (o : Outcome) → IsLeft x.moment.settings.strict x.home h p q call
    → Finishes slot (record x { home = h }) y call o (resident h slot q) s
    → Finishes slot x y call o (resident x.home slot p) s
finishes_left slot x y h p q s call o left finish = rw (left.home_stays, left.process_stays) at finish

-- a call that the kernel served itself
pub served_itself : (slot : ℕ) (x y : Machine) (p q : Process) (call : CallForm) (o : Outcome)
    → IsServed x.moment.settings.strict slot x.home y.home p q call o
    → Drives (id_of slot (own_of x.home slot)) (acts_for o) x.drivers y.drivers
    → Finishes slot x y call o (resident x.home slot p) (resident y.home slot q)
served_itself slot x y p q call o is drives = record {
  acts = acts_for o;
  serves = λ storage.
      let beside = beside_in x.drivers storage in
      is.comes (surroundings x.moment.settings x.moment.time (record_of_slot x.home slot p beside)) beside;
  drives = drives;
}

-- a process that stays in its place stays seated
pub stays_seated : (flash : List ℕ) (steps : ℕ) (p p' : Process) (own own' : Own) → StaysInPlace own own'
    → p' ≡ record p { regs = p'.regs; refusal = p'.refusal } → IsResident flash steps (p, own)
    → IsResident flash steps (p', own')
stays_seated flash steps p p' own own' place stays s = rw (stays, place) (record {
  own = record { object = s.own.object; object_is = s.own.object_is; lives = s.own.lives };
  turns = s.turns;
  restarts = s.restarts;
  life = s.life;
})
