-- What becomes of a write that waits in a step: all but its device leaves it, or begins one of which no byte was taken.
-- After a turn it is the one before, or that of the command that the turn tells (`requests_are_of_commands`); and an
-- answer of another device leaves it.
use Rattle.std.proofs.Common.{◌≡◌, ℕ, Bool, true, false, cond, inl, inr, ◌≢◌}
use Rattle.std.proofs.Common.{Option, None, Some, IfSome, is_some, refl, sym, ap, ◌∙◌}
use Rattle.std.specs.Option.{option_and_then}
use Rattle.std.proofs.lemmas.Bool.{false≢true}
use Rattle.tk_base.specs.declared.process.Verb.{Verb}
use Rattle.grant_values.specs.declared.console.WaitingWrite.{WaitingWrite}
use Rattle.grant_values.specs.Values.{KeptValue}
use Rattle.process_model.specs.Own.{Own}
use Rattle.process_model.specs.Served.{kept}
use Rattle.driver_model.specs.Commands.{Writes}
use Rattle.driver_model.specs.Console as console
use Rattle.driver_model.specs.Console.{console_in, console_writes}
use Rattle.driver_model.specs.Keeping.{DriversKeep}
use Rattle.driver_model.specs.Laws.{StaysInPlace}
use Rattle.driver_model.specs.Requests.{request_in, waiting_in, with_request}
use Rattle.kernel_model.specs.Record.{Record}
use Rattle.kernel_model.specs.declared.settings.Settings.{Settings}
use Rattle.kernel_model.specs.Turn.{Event, Taken, WriteDone}
use Rattle.kernel_model.specs.Turn.{apply, operated, turned}
use Rattle.kernel_model.proofs.Steps.{IsAnswer, of_answer, of_operated}
use Rattle.kernel_model.proofs.Values.{kept_put}
use Rattle.kernel_model.proofs.Restarts.{restart_by}
use Rattle.kernel_laws.proofs.AsAsked.{requests_are_of_commands}
use Rattle.kernel_laws.proofs.Withdrawing.{left}
use Rattle.kernel_laws.specs.Asking.{IsOfCommand}
use Rattle.kernel_laws.specs.Queues.{queue_for}
use Rattle.process_record.specs.declared.emit.CallMade.{CallMade}
use Rattle.kernel_model.proofs.Places.{same_some}
use Rattle.kernel_lives.proofs.Changes.{none_or_one}

-- the write in a value that is kept, and the one that a process keeps
abbrev write_told : Option KeptValue → Option WaitingWrite
write_told value = option_and_then console_writes.told value

abbrev write_of : Own → Option WaitingWrite
write_of own = request_in console_writes own

-- what is put is told, where the driver has a grant
pub put_told : (request : Option WaitingWrite) (own : Own) → is_some (kept console.console own) ≡ true
    → write_of (with_request console_writes request own) ≡ request
put_told request own there =
    ap write_told (kept_put console.console _ own)
    ∙ elim (none_or_one (kept console.console own)) [
      | inl e ↦ absurd (false≢true (rw e at there))
      | inr (value, e) ↦ rw e
    ]

-- A write that waits goes on as it is, or waits no more; where none waits, one may begin of which no byte was taken.
abbrev pub GoesOn : Option WaitingWrite → Option WaitingWrite → Type 0
GoesOn None later = IfSome later (λ write. write.taken ≡ 0)
GoesOn (Some write) later = IfSome later (λ after. after ≡ write)

pub goes_same : (before later : Option WaitingWrite) → later ≡ before → GoesOn before later
goes_same None later is = rw is tt
goes_same (Some write) later is = rw is

goes_none : (before : Option WaitingWrite) → GoesOn before None
goes_none None = tt
goes_none (Some write) = tt

pub turn_goes : DriversKeep → (settings : Settings) (time : ℕ) (r : Record)
    → GoesOn (waiting_in console_writes r.own) (waiting_in console_writes (turned settings time r).after.own)
turn_goes keep settings time r =
    by_command (waiting_in console_writes r.own) (waiting_in console_writes (turned settings time r).after.own)
    (turned settings time r).told.call ((requests_are_of_commands keep settings time r).each Writes)
  where
    by_command : (before later : Option WaitingWrite) (call : Option CallMade)
        → IfSome later (IsOfCommand Writes before call) → GoesOn before later
    by_command before None call of_call = goes_none before
    by_command None (Some write) None (inr new) = absurd new.1
    by_command None (Some write) (Some made) (inr new) = ap (λ (w : WaitingWrite). w.taken) new.1.asks.1
    by_command (Some write) (Some after) call (inl same) = sym (same_some write after same)
    by_command None (Some write) call (inl same) = absurd (cc)
    by_command (Some write) (Some after) call (inr new) = absurd (cc)

-- nor does an operator's act begin a write, or change one
pub act_goes : (verb : Verb) (r : Record)
    → GoesOn (waiting_in console_writes r.own) (waiting_in console_writes (operated verb r).own)
act_goes verb r =
    let before = waiting_in console_writes r.own in
    let same = goes_same before before refl in
    let none = goes_none before in
    of_operated (λ ended s. GoesOn before (waiting_in console_writes s.own)) r same (λ held. same) (λ lives. none)
    (restart_by (λ s. GoesOn before (waiting_in console_writes s.own)) r same (λ header m is main. none)) verb

-- whether the UART's sending half tells a process something
abbrev pub is_of_uart : Event → Bool
is_of_uart Taken = true
is_of_uart WriteDone = true
is_of_uart other = false

not_of_writes : (event : Event) → is_of_uart event ≡ false → queue_for event ≢ Some Writes
not_of_writes Taken other = absurd (cc)
not_of_writes WriteDone other = absurd (cc)
not_of_writes event other = λ e. cc

pub answer_goes : DriversKeep → (settings : Settings) (event : Event) (r : Record) → IsAnswer event
    → is_of_uart event ≡ false
    → GoesOn (waiting_in console_writes r.own) (waiting_in console_writes (apply settings event r).own)
answer_goes keep settings event r is other =
    let o = (apply settings event r).own in
    let lives : o.lives ≡ r.own.lives =
    ap (λ (x : Own). x.lives) (of_answer StaysInPlace keep.places settings event r is) in
    goes_same (waiting_in console_writes r.own) (waiting_in console_writes o)
    (ap (λ (b : Bool). cond b (write_of o) None) lives
    ∙ ap (λ (q : Option WaitingWrite). cond r.own.lives q None)
    (left settings r Writes event is (not_of_writes event other)))
