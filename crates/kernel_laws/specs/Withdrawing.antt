-- Where requests come and go: by the commands of their process, by answers of their device, and with its lives (TRD
-- 104, "Command", "Exit").
use Rattle.std.specs.Prelude.{◌≡◌, ◌≢◌, ◌⊎◌, ℕ, All, List, Option, None, Some, IsSomeAnd}
use Rattle.tk_base.specs.declared.process.Choice.{Choice}
use Rattle.tk_base.specs.declared.process.Verb.TheVariants.{Restart}
use Rattle.driver_model.specs.Commands.{QueueName, Reads}
use Rattle.driver_model.specs.Lines.{RequestOf, kind_in}
use Rattle.driver_model.specs.Requests.{request_in}
use Rattle.kernel_model.specs.Record.{Record}
use Rattle.kernel_model.specs.Turn.{Act, Event, TurnTrace}
use Rattle.kernel_model.specs.World.{World, after, labels, now_in}
use Rattle.kernel_laws.specs.Arming.{Becomes}
use Rattle.kernel_laws.specs.Asking.{AreOf, IsAskedBy}
use Rattle.kernel_laws.specs.Between.{OfEachAnswer, OfTurnIn}
use Rattle.kernel_laws.specs.Queues.{queue_for}

-- What a command sets of the request of a queue, by its arguments: where none is kept the one that it asks for; and
-- command 3 of the console takes a read away.
abbrev pub SetsRequest : (queue : QueueName) → ℕ → Option (RequestOf queue) → List ℕ → Option (RequestOf queue) → Type 0
SetsRequest queue now before args later =
    ((before ≡ None) × IsSomeAnd later (λ request. IsAskedBy queue request args))
    ⊎ ((queue ≡ Reads) × (AreOf 0x1 3 args × (later ≡ None)))

-- A turn leaves each request that its process keeps as it is; or it tells the accepted command that sets it; or the
-- next life begins, which has none.
pub record RequestsAreSet (now : ℕ) (r s : Record) (told : TurnTrace) : Type 0 where
  pub each : (queue : QueueName) → Becomes (SetsRequest queue) None now told r s (request_in (kind_in queue) r.own)
      (request_in (kind_in queue) s.own)

-- An answer of another queue's device leaves it, and so does an operator's act that has no process start again.
abbrev pub RequestsAreLeft : Event → Record → Record → Type 0
RequestsAreLeft event r s =
    event ≢ Act Restart → (queue : QueueName) → queue_for event ≢ Some queue →
    request_in (kind_in queue) s.own ≡ request_in (kind_in queue) r.own

-- so it is in every step of every world: no request is lost otherwise
pub record RequestsAreNotLost : Type 0 where
  pub turns : (w : World) (choice : Choice) →
      All (OfTurnIn (RequestsAreSet (now_in w)) w (after w choice)) (labels w choice)
  pub answers : OfEachAnswer RequestsAreLeft
