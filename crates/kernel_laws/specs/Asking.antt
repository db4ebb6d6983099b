-- That a request of a process asks for what its command said (TRD 104, "Command"; Tock's drivers 0x1 and 0x40001, and
-- 0x50001 in its list).
use Rattle.std.specs.Prelude.{◌≡◌, ◌⊎◌, ℕ, true, List, slice_index, Option, None, Some, IfSome, IsSomeAnd}
use Rattle.grant_values.specs.declared.storage.StorageKind.TheVariants.{Read, Write}
use Rattle.driver_model.specs.Commands.{QueueName, Writes, Reads, Randoms, Stores}
use Rattle.driver_model.specs.Console.{console_reads}
use Rattle.driver_model.specs.Lines.{RequestOf, kind_in}
use Rattle.driver_model.specs.Requests.{waiting_in}
use Rattle.process_record.specs.declared.emit.CallMade.{CallMade}
use Rattle.kernel_model.specs.Record.{Record}
use Rattle.kernel_model.specs.Turn.{TurnTrace}
use Rattle.kernel_laws.specs.Between.{OfEachAnswer, OfEachTurn}

-- the arguments of a command of a driver and a number
abbrev pub AreOf : ℕ → ℕ → List ℕ → Type 0
AreOf driver number args = (slice_index args 0 ≡ driver) × (slice_index args 1 ≡ number)

-- What a command asks for, by its arguments. Commands 1 and 2 of the console write and read as many bytes as the third
-- says, and nothing is taken of a write yet; command 1 of the random bytes asks for so many, of which none is written
-- yet; and commands 2 and 3 of the storage read and write as many as the fourth says, from the offset on that is the
-- third.
abbrev pub IsAskedBy : (queue : QueueName) → RequestOf queue → List ℕ → Type 0
IsAskedBy Writes request args =
    AreOf 0x1 1 args × (request ≡ record { length = slice_index args 2; taken = 0 })
IsAskedBy Reads request args = AreOf 0x1 2 args × (request ≡ record { length = slice_index args 2 })
IsAskedBy Randoms request args =
    AreOf 0x40001 1 args × (request ≡ record { count = slice_index args 2; written = 0 })
IsAskedBy Stores request args =
    (AreOf 0x50001 2 args
    × (request ≡ record { kind = Read; offset = slice_index args 2; length = slice_index args 3 }))
    ⊎ (AreOf 0x50001 3 args
    × (request ≡ record { kind = Write; offset = slice_index args 2; length = slice_index args 3 }))

-- a call that was accepted, and asks for a request
pub record AsksFor (queue : QueueName) (request : RequestOf queue) (call : CallMade) : Type 0 where
  pub class : call.class ≡ 2
  pub accepted : call.rule ≡ None
  pub asks : IsAskedBy queue request call.args

-- A request that waits after a turn waited before it, and is the same; or none of its queue waited, and the turn tells
-- the accepted command that asks for it.
abbrev pub IsOfCommand : (queue : QueueName) → Option (RequestOf queue) → Option CallMade → RequestOf queue → Type 0
IsOfCommand queue before call request =
    (before ≡ Some request) ⊎ ((before ≡ None) × IsSomeAnd call (AsksFor queue request))

-- so it is with the request of each queue that waits after a turn
pub record RequestsAreOfCommands (r s : Record) (told : TurnTrace) : Type 0 where
  pub each : (queue : QueueName) →
      IfSome (waiting_in (kind_in queue) s.own) (IsOfCommand queue (waiting_in (kind_in queue) r.own) told.call)

-- while a request waits no more of it changes than how much was done: how many bytes of a write were taken, and how
-- many random bytes were written
abbrev pub GoesOnAs : (queue : QueueName) → RequestOf queue → RequestOf queue → Type 0
GoesOnAs Writes before later = later ≡ record before { taken = later.taken }
GoesOnAs Reads before later = later ≡ before
GoesOnAs Randoms before later = later ≡ record before { written = later.written }
GoesOnAs Stores before later = later ≡ before

-- one that waits after a device's answer, or after an operator's act, waited before it
pub record RequestsGoOn (r s : Record) : Type 0 where
  pub each : (queue : QueueName) → IfSome (waiting_in (kind_in queue) s.own)
      (λ later. IsSomeAnd (waiting_in (kind_in queue) r.own) (λ before. GoesOnAs queue before later))

-- so it is in every step of every world
pub record RequestsAreAsAsked : Type 0 where
  pub turns : OfEachTurn RequestsAreOfCommands
  pub answers : OfEachAnswer (λ event. RequestsGoOn)

-- After a turn of a process that lives what its accepted command asks for waits; and after command 3 of the console no
-- read does.
pub record CommandAsks (r s : Record) (call : CallMade) : Type 0 where
  pub asks : r.own.lives ≡ true → (queue : QueueName) (request : RequestOf queue) →
      AsksFor queue request call → waiting_in (kind_in queue) s.own ≡ Some request
  pub cancels : call.class ≡ 2 → call.rule ≡ None → AreOf 0x1 3 call.args → waiting_in console_reads s.own ≡ None

-- so it is with each that a turn tells, in every step of every world
abbrev pub CommandsAsk : Type 0
CommandsAsk = OfEachTurn (λ r s told. IfSome told.call (CommandAsks r s))
