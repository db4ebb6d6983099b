-- A process gives a command to a driver, and what comes of it.
use Rattle.std.specs.Prelude.{◌≡◌, ◌<◌, ℕ, ◌+◌, ◌^◌, ◌==◌, false, if◌then◌else◌, List, length, Option, None, Result}
use Rattle.tk_base.specs.declared.call.CallRule.{CallRule}
use Rattle.tk_base.specs.declared.process.ProcessId.{ProcessId}
use Rattle.syscall_abi.specs.declared.reply.Reply.{Reply}
use Rattle.process_model.specs.Own.{Own}
use Rattle.driver_model.specs.Steps.{own_after}
use Rattle.driver_model.specs.Commands.{Commanded, QueueName}
use Rattle.syscall_abi.specs.Reply.{reply_of}
use Rattle.driver_model.specs.Requests.{RequestKind, request_in, waiting_in}
use Rattle.grant_enter.specs.Homes.{Homes, own_of, ChangesOnly}
use Rattle.process_seat.specs.Visits.{is_stale}
use Rattle.driver_requests.specs.Waiting.{queue_after, waits as waits_in}

-- what comes of a process in one of its lives; something else where it is not in that life
abbrev pub in_life : {X : Type 0} → ℕ → Own → X → X → X
in_life life own there gone = if own.life == life then there else gone

-- the request of a process in one of its lives that waits, if one does
abbrev pub waiting_of : {R : Type 0} → RequestKind R → ℕ → Own → Option R
waiting_of request_kind life own = in_life life own (waiting_in request_kind own) None

-- the process of an id is there: its slot is one of the home's, and it lives that life
pub record IsPresent (home : Homes) (id : ProcessId) : Type 0 where
  pub slot : id.slot < length home.owns
  pub present : is_stale id.life (own_of home id.slot) ≡ false

-- a process may ask of a kind of request: it is there, and it waits in its queue only where it has a request
pub record MayAskAt {R : Type 0} (request_kind : RequestKind R) (ids : List ProcessId) (home : Homes)
    (id : ProcessId) : Type 0 where
  pub there : IsPresent home id
  pub waits : request_in request_kind (own_of home id.slot) ≡ None → waits_in id.slot ids ≡ false

-- a process may be told something: its slot is one of the home's, and its count of dropped upcalls may rise by one
pub record MayBeTold (home : Homes) (id : ProcessId) : Type 0 where
  pub slot : id.slot < length home.owns
  pub dropped : (own_of home id.slot).inbox.dropped + 1 < 2 ^ 32

-- What comes of a command of a process: its answer, what is then the process's own, and who waits in a list then.
-- Nothing of another process changes.
pub record Obeys (here : QueueName) (id : ProcessId) (command : Own → Commanded) (ids : List ProcessId) (old : Homes)
    (result : Result Reply CallRule) (ids' : List ProcessId) (new : Homes) : Type 0 where
  pub answer : result ≡ (command (own_of old id.slot)).answer
  pub own : own_of new id.slot ≡ own_after (command (own_of old id.slot)).step
  pub waiting : ids' ≡ queue_after here id ids (command (own_of old id.slot)).acts
  pub rest : ChangesOnly id.slot old new

-- the same, with the answer as the process gets it
pub record Replies (here : QueueName) (id : ProcessId) (command : Own → Commanded) (ids : List ProcessId) (old : Homes)
    (result : Reply × Option CallRule) (ids' : List ProcessId) (new : Homes) : Type 0 where
  pub reply : result ≡ reply_of (command (own_of old id.slot)).answer
  pub own : own_of new id.slot ≡ own_after (command (own_of old id.slot)).step
  pub waiting : ids' ≡ queue_after here id ids (command (own_of old id.slot)).acts
  pub rest : ChangesOnly id.slot old new
