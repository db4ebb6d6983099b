-- What serving a system call leaves, and what comes of it: TRD 104, "System Call API".
use Rattle.std.specs.Prelude.{◌≡◌, ℕ, ◌^◌, nat_lt, Bool, true, false, ◌&&◌, if◌then◌else◌, List, []}
use Rattle.std.specs.Prelude.{Option, None, Some, Result, Ok, Err}
use Rattle.tk_base.specs.declared.call.CallRule.{CallRule}
use Rattle.syscall_abi.specs.declared.form.CallForm.{CallForm}
use Rattle.syscall_abi.specs.declared.form.CallForm.TheVariants.{Command}
use Rattle.process_record.specs.declared.outcome.Outcome.{Outcome}
use Rattle.process_record.specs.declared.outcome.Outcome.TheVariants.{Replied, ToDriver, Waits, Delivered, GoesOn}
use Rattle.process_record.specs.declared.outcome.Outcome.TheVariants.{Ended, Again}
use Rattle.process_record.specs.declared.process.Process.{Process}
use Rattle.driver_model.specs.Commands.{BoardRequest, leaving_all}
use Rattle.driver_model.specs.Drivers.{CommandContext, takes_commands}
use Rattle.grant_enter.specs.Homes.{Homes, own_of}
use Rattle.kernel_model.specs.Record.{Record}
use Rattle.tk_base.specs.declared.upcall.Upcall.{Upcall}
use Rattle.upcall_queue.specs.declared.inbox.Delivery.{Delivery}
use Rattle.upcall_queue.specs.declared.inbox.Delivery.TheVariants.{Function}
use Rattle.upcall_queue.specs.Pending.{due, left_by, taken_at}
use Rattle.kernel_model.specs.Calls.{Served, deliver, served}
use Rattle.kernel_model.specs.Parts.{object_permits}
use Rattle.process_model.specs.Flash.{object_in}
use Rattle.kernel_calls.specs.Own.{Beside, record_in}

-- what the board is to do for a call that the kernel serves itself, by what comes of it: one whose process ends or
-- starts again waits in no list any more
abbrev pub acts_for : Outcome → List BoardRequest
acts_for (Replied reply rule) = []
acts_for ToDriver = []
acts_for Waits = []
acts_for Delivered = []
acts_for GoesOn = []
acts_for Ended = leaving_all
acts_for Again = leaving_all

-- serving a call comes to a record and an outcome, and asks of the board what goes with that
abbrev pub ServingComesTo : Served → Record → Outcome → Type 0
ServingComesTo served s outcome = served ≡ record { after = s; outcome = outcome; acts = acts_for outcome }

-- the record of the process in a slot, with what it has beside
abbrev pub record_of_slot : Homes → ℕ → Process → Beside → Record
record_of_slot home slot process beside = record_in home.flash process (own_of home slot) beside

-- whether a form of calls is a command to a driver that takes commands
abbrev pub is_taken : CallForm → Bool
is_taken (Command driver command a2 a3) = takes_commands driver
is_taken form = false

-- whether a call of a process with that object is for its driver to answer: it is permitted, too
abbrev pub is_for_driver : Bool → List ℕ → CallForm → Bool
is_for_driver strict object call = object_permits strict object call && is_taken call

-- a call that is left to its driver: nothing has changed
pub record IsLeft (strict : Bool) (home home_after : Homes) (process process_after : Process)
    (call : CallForm) : Type 0 where
  pub for_driver : is_for_driver strict (object_in home.flash process.object) call ≡ true
  pub home_stays : home_after ≡ home
  pub process_stays : process_after ≡ process

-- a call of the process in a slot that the kernel serves itself: it comes to what its definition says, whatever a
-- driver would see of the board, and whatever the process has beside
pub record IsServed (strict : Bool) (slot : ℕ) (home home_after : Homes) (process process_after : Process)
    (call : CallForm) (outcome : Outcome) : Type 0 where
  pub not_for_driver : is_for_driver strict (object_in home.flash process.object) call ≡ false
  pub comes : (around : CommandContext) (beside : Beside) →
      ServingComesTo (served strict around (record_of_slot home slot process beside) call)
      (record_of_slot home_after slot process_after beside) outcome

-- what holds where a call is left to its driver, and what at every other outcome
abbrev pub LeftOrServed : Type 0 → (Outcome → Type 0) → Outcome → Type 0
LeftOrServed left served ToDriver = left
LeftOrServed left served (Replied reply rule) = served (Replied reply rule)
LeftOrServed left served Waits = served Waits
LeftOrServed left served Delivered = served Delivered
LeftOrServed left served GoesOn = served GoesOn
LeftOrServed left served Ended = served Ended
LeftOrServed left served Again = served Again

-- what becomes of a call of the process in a slot, by its outcome, under a strict filter or an open one
abbrev pub ServesAt : Bool → ℕ → Homes → Process → CallForm → Homes → Process → Outcome → Type 0
ServesAt strict slot home process call home_after process_after outcome =
    LeftOrServed (IsLeft strict home home_after process process_after call)
    (IsServed strict slot home home_after process process_after call) outcome

-- a number that is an address
abbrev pub as_address : Option ℕ → Option ℕ
as_address None = None
as_address (Some n) = if nat_lt n (2 ^ 32) then Some n else None

-- the rule that an answer broke, if it broke one
abbrev pub broken_by : {A : Type 0} → Result A CallRule → Option CallRule
broken_by (Ok answer) = None
broken_by (Err rule) = Some rule

-- a pending upcall of a process is delivered, if there is one
abbrev pub first_delivered : Record → Option Upcall → Record
first_delivered r None = r
first_delivered r (Some upcall) = deliver r (Function upcall) (taken_at 0)

-- what is due to a process is delivered; where nothing is, nothing changes
abbrev pub deliver_due : Record → Option Delivery → Record
deliver_due r None = r
deliver_due r (Some delivery) = deliver r delivery (left_by delivery)

-- what a delivery leaves of the process in a slot, whatever it has beside
abbrev pub DeliversAt : ℕ → Homes → Process → Homes → Process → Type 0
DeliversAt slot home process home_after process_after =
    (beside : Beside) →
    record_of_slot home_after slot process_after beside
    ≡ deliver_due (record_of_slot home slot process beside) (due (own_of home slot).inbox)
