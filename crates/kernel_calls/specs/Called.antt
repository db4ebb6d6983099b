-- What contracts see of the process that makes a call, while it is lent (Levy et al., SOSP 2017, section 4).
use Rattle.std.specs.Prelude.{◌≡◌, ℕ, ◌+◌, ◌<◌, ◌^◌, Bool, true, false, List, [], Result}
use Rattle.tk_base.specs.declared.call.CallRule.{CallRule}
use Rattle.syscall_abi.specs.declared.reply.Reply.{Reply}
use Rattle.process_model.specs.declared.place.Object.{Object}
use Rattle.process_model.specs.Own.{Own}
use Rattle.process_record.specs.declared.outcome.Outcome.{Outcome}
use Rattle.process_record.specs.declared.process.Process.{Process}
use Rattle.kernel_model.specs.Record.{Record}
use Rattle.kernel_model.specs.Calls.{Served, driver_answered, served}
use Rattle.kernel_calls.specs.Own.{Beside, record_in}
use Rattle.kernel_calls.specs.Outcomes.{LeftOrServed, ServingComesTo, deliver_due, is_for_driver}
use Rattle.upcall_queue.specs.Pending.{due}
use Rattle.driver_model.specs.Drivers.{CommandContext}
use Rattle.process_model.specs.Flash.{object_in}
use Rattle.syscall_abi.specs.declared.form.CallForm.{CallForm}
use Rattle.process_restart.specs.Own.{IsOwn, KeepsObject, LivesOn}

-- where a block lies, of which object its process is, and the bytes of RAM before and behind it
pub record Place : Type 0 where
  pub object : Object
  pub permissions : Bool
  pub start : ℕ
  pub end : ℕ
  pub ram : ℕ
  pub before : List ℕ
  pub behind : List ℕ

-- what was lent, by the names of its parts, and its place
pub record Loan : Type 0 where
  pub memory : ℕ
  pub seat : ℕ
  pub process : ℕ
  pub place : Place

-- flash, the process, what is its own; and the loan, which no call changes
pub record Called : Type 0 where
  pub flash : List ℕ
  pub process : Process
  pub own : Own
  pub loan : Loan

-- its record, with what it has beside
abbrev pub record_of : Called → Beside → Record
record_of c beside = record_in c.flash c.process c.own beside

-- what a definition of a call says of it, whatever it has beside, is what serving it comes to
abbrev pub Comes : (Record → Served) → Called → Called → Outcome → Type 0
Comes served old new outcome =
    (beside : Beside) → ServingComesTo (served (record_of old beside)) (record_of new beside) outcome

-- it is answered, or refused, as a definition says of it, whatever it has beside
abbrev pub Answers : (Record → Served) → Called → Called → Result Reply CallRule → Type 0
Answers served old new answer =
    (beside : Beside) → driver_answered (record_of new beside) answer ≡ served (record_of old beside)

-- what is due to it is delivered, and its layout stays
pub record Delivers (old new : Called) : Type 0 where
  pub gets : (beside : Beside) → record_of new beside ≡ deliver_due (record_of old beside) (due old.own.inbox)
  pub layout : new.own.layout ≡ old.own.layout

-- what every call keeps
pub record Keeps (old new : Called) : Type 0 where
  pub loan : new.loan ≡ old.loan
  pub flash : new.flash ≡ old.flash
  pub stays : KeepsObject old.process new.process
  pub lives_on : LivesOn old.own new.own

-- a call that is left to its driver: nothing has changed
pub record IsLeftTo (strict : Bool) (call : CallForm) (old new : Called) : Type 0 where
  pub for_driver : is_for_driver strict (object_in old.flash old.process.object) call ≡ true
  pub stays : new ≡ old

-- a call that the kernel serves itself
pub record IsServedTo (strict : Bool) (call : CallForm) (old new : Called) (outcome : Outcome) : Type 0 where
  pub not_for_driver : is_for_driver strict (object_in old.flash old.process.object) call ≡ false
  pub comes : (around : CommandContext) → Comes (λ r. served strict around r call) old new outcome

-- what becomes of a call, by its outcome, under a strict filter or an open one
abbrev pub Serves : Bool → CallForm → Called → Called → Outcome → Type 0
Serves strict call old new outcome =
    LeftOrServed (IsLeftTo strict call old new) (IsServedTo strict call old new) outcome

-- a process with what is its own, as it would be lent from nowhere
abbrev pub unlent : List ℕ → Process → Own → Called
unlent flash process own = record {
  flash = flash;
  process = process;
  own = own;
  loan = record {
    memory = 0;
    seat = 0;
    process = 0;
    place = record {
      object = own.object;
      permissions = false;
      start = 0;
      end = 0;
      ram = 0;
      before = [];
      behind = [];
    };
  };
}

-- what an act asks of the process in a seat, and what it leaves of it
pub record ActAsks (asks : Called → Type 0) (flash : List ℕ) (process : Process) (own : Own) : Type 0 where
  pub is : IsOwn flash process own
  pub asked : asks (unlent flash process own)

pub record ActLeaves {A : Type 0} (leaves : Called → A → Called → Type 0) (flash : List ℕ) (process : Process)
    (own : Own) (answer : A) (process_after : Process) (own_after : Own) : Type 0 where
  pub left : leaves (unlent flash process own) answer (unlent flash process_after own_after)
  pub is : IsOwn flash process_after own_after
  pub stays : KeepsObject process process_after
  pub lives_on : LivesOn own own_after

-- nothing but its break may have moved
abbrev pub MovesBreak : Called → Called → Type 0
MovesBreak old new =
    new ≡ record old { own = record old.own { layout = record old.own.layout { brk = new.own.layout.brk } } }

-- its counts of restarts and of lives can rise
pub record CanRestart (c : Called) : Type 0 where
  pub count : c.process.restarts + 1 < 2 ^ 32
  pub life : c.own.life + 1 < 2 ^ 32
