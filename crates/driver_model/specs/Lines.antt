-- Who waits for a device. A process waits in a list of the board's exactly where it keeps a request there. This is this
-- board's own rule.
use Rattle.std.specs.Prelude.{◌≡◌, ◌≤◌, ℕ, ◌+◌, Bool, true, false, not, ◌&&◌, if◌then◌else◌, List, [], ◌∷◌, Some}
use Rattle.std.specs.Prelude.{is_some, IfSome}
use Rattle.tk_base.specs.declared.kinds.PairKind.{PairKind}
use Rattle.grant_values.specs.declared.console.WaitingRead.{WaitingRead}
use Rattle.grant_values.specs.declared.console.WaitingWrite.{WaitingWrite}
use Rattle.grant_values.specs.declared.random.RandomRequest.{RandomRequest}
use Rattle.grant_values.specs.declared.storage.StorageRequest.{StorageRequest}
use Rattle.process_model.specs.Own.{Own, own_restarted, own_ended}
use Rattle.process_model.specs.Handed.{own_entering, handing}
use Rattle.driver_model.specs.Steps.{own_after}
use Rattle.driver_model.specs.Commands.{BoardRequest, Waits, Leaves, Lights, QueueName, Writes, Reads, Randoms}
use Rattle.driver_model.specs.Commands.{Stores, Commanded, is_same}
use Rattle.driver_model.specs.Requests.{RequestKind, request_in, waiting_in}
use Rattle.driver_model.specs.Console.{console_reads, console_writes}
use Rattle.driver_model.specs.Random.{randoms}
use Rattle.driver_model.specs.Storage.{storages}
use Rattle.driver_model.specs.Drivers.{CommandContext, CommandHandler, handler_of}

-- what a process asks for in each queue
abbrev pub RequestOf : QueueName → Type 0
RequestOf Writes = WaitingWrite
RequestOf Reads = WaitingRead
RequestOf Randoms = RandomRequest
RequestOf Stores = StorageRequest

-- the kind of request that waits in each queue: the console's two, that of random bytes, that of the storage
abbrev pub kind_in : (queue : QueueName) → RequestKind (RequestOf queue)
kind_in Writes = console_writes
kind_in Reads = console_reads
kind_in Randoms = randoms
kind_in Stores = storages

-- whether a process has a request that waits in a queue
abbrev pub has_waiting : QueueName → Own → Bool
has_waiting queue own = is_some (waiting_in (kind_in queue) own)

-- whether a process waits in a list after one thing that a turn asks of the board, by whether it did before
abbrev pub waits_by : QueueName → BoardRequest → Bool → Bool
waits_by here (Waits line) waits = if is_same line here then true else waits
waits_by here (Leaves line) waits = if is_same line here then false else waits
waits_by here (Lights led switch) waits = waits

-- the same after all that it asks, one thing after another
abbrev pub waits_after : QueueName → Bool → List BoardRequest → Bool
waits_after here waits [] = waits
waits_after here waits (act ∷ acts) = waits_after here (waits_by here act waits) acts

-- whether one thing that a turn asks lets a process begin to wait in a list
abbrev pub begins : QueueName → BoardRequest → Bool
begins here (Waits line) = is_same line here
begins here (Leaves line) = false
begins here (Lights led switch) = false

-- whether a process begins to wait in a list only where it does not wait there already, one thing after another
abbrev pub waits_once : QueueName → Bool → List BoardRequest → Bool
waits_once here waits [] = true
waits_once here waits (act ∷ acts) = not (begins here act && waits) && waits_once here (waits_by here act waits) acts

-- the storage request that a process keeps, if it keeps one, is for some of so many bytes
abbrev pub IsWithin : ℕ → Own → Type 0
IsWithin size own = IfSome (request_in storages own) (λ request. request.offset + request.length ≤ size)

-- What a command leaves of requests. A process that lives has one of a kind exactly where it waits in that queue after
-- what the command asked of the board, and begins to wait only where it does not wait already. One for storage is for
-- some of the bytes that a slot has, as one before it was.
pub record FollowsCommand (around : CommandContext) (own : Own) (c : Commanded) : Type 0 where
  pub lines : own.lives ≡ true → (queue : QueueName) →
      has_waiting queue (own_after c.step) ≡ waits_after queue (has_waiting queue own) c.acts
  pub once : (queue : QueueName) → waits_once queue (has_waiting queue own) c.acts ≡ true
  pub within : IsWithin around.storage own → IsWithin around.storage (own_after c.step)

-- so it is with each command to a driver
abbrev pub LinesFollowCommands : Type 0
LinesFollowCommands =
    (driver : ℕ) (taker : CommandHandler) → handler_of driver ≡ Some taker →
    (around : CommandContext) (number a2 a3 : ℕ) (own : Own) → FollowsCommand around own (taker around number a2 a3 own)

-- a process asks for what it asked for before
pub record AsksTheSame (own o : Own) : Type 0 where
  pub requests : (queue : QueueName) → request_in (kind_in queue) o ≡ request_in (kind_in queue) own
  pub waiting : (queue : QueueName) → has_waiting queue o ≡ has_waiting queue own

-- Drivers alone change what a process asks for: it asks for the same once it has handed them a pair, and once one was
-- entered. A process that starts again, or ended, waits for nothing.
pub record OnlyDriversMoveLines : Type 0 where
  pub handing : (kind : PairKind) (driver number : ℕ) (pair : ℕ × ℕ) (own : Own) →
      AsksTheSame own (handing kind driver number pair own)
  pub entering : (driver : ℕ) (own : Own) → AsksTheSame own (own_entering driver own)
  pub restarted : (brk : ℕ) (own : Own) (queue : QueueName) → has_waiting queue (own_restarted brk own) ≡ false
  pub ended : (own : Own) (queue : QueueName) → has_waiting queue (own_ended own) ≡ false
