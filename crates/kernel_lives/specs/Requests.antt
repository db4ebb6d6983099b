-- That requests which begin to wait add up, why one is withdrawn, and that none outlives the life in which it waits;
-- and that queues follow them.
-- Requests wait in grants (Levy et al., SOSP 2017, section 4); their queues are this board's own rule.
use Rattle.std.specs.Prelude.{◌≡◌, ◌⊎◌, ◌≤◌, ℕ, ◌+◌, ◌==◌, ◌&&◌, Bool, true, false, not, List, [], ◌∷◌, slice_get}
use Rattle.std.specs.Prelude.{slice_index, is_none, Some}
use Rattle.std.specs.Prelude.{IfSome, IsSomeAnd, option_map, unwrap_or, All, filter, length, ◌++◌}
use Rattle.kernel_model.specs.Named.{slots_in}
use Rattle.std.specs.List.{Any, list_any}
use Rattle.tk_base.specs.declared.process.Choice.{Choice}
use Rattle.driver_model.specs.Commands.{QueueName, Reads, order_of}
use Rattle.driver_model.specs.Lines.{has_waiting, kind_in}
use Rattle.process_record.specs.declared.emit.CallMade.{CallMade}
use Rattle.kernel_model.specs.Record.{Record}
use Rattle.kernel_model.specs.World.{Label, World, after, labels}
use Rattle.kernel_model.specs.Lives.{LivesAsItRuns}
use Rattle.kernel_model.specs.Replay.{after_all}
use Rattle.kernel_laws.specs.Arming.{IsAccepted}
use Rattle.kernel_laws.specs.Queues.{queue_for}
use Rattle.kernel_lives.specs.Lists.{ListsAreOfRequests, asks_at, once_if}

-- whether the process in a slot, if there is one, has a request that waits in a queue
abbrev pub asks_in : QueueName → ℕ → World → Bool
asks_in queue slot w = asks_at queue (slice_get w.records slot)

-- whether a request of it begins to wait in a step: it has one after it, and had none before
abbrev pub begins_in : QueueName → ℕ → World → Choice → Bool
begins_in queue slot w choice = not (asks_in queue slot w) && asks_in queue slot (after w choice)

-- whether a label tells it something of the queue's device
abbrev pub answers_for : QueueName → ℕ → Label → Bool
answers_for queue slot label =
    label.slot == slot
    && unwrap_or (option_map (λ name. order_of name == order_of queue) (queue_for label.event)) false

-- whether an answer in a step completes its request: it is told one, and has no request after it
abbrev pub completes_in : QueueName → ℕ → World → Choice → Bool
completes_in queue slot w choice =
    list_any (answers_for queue slot) (labels w choice) && not (asks_in queue slot (after w choice))

-- in how many of some steps a request begins to wait
abbrev pub requests_begun : QueueName → ℕ → World → List Choice → ℕ
requests_begun queue slot w [] = 0
requests_begun queue slot w (choice ∷ choices) =
    once_if (begins_in queue slot w choice) + requests_begun queue slot (after w choice) choices

-- and in how many an answer completes one
abbrev pub requests_completed : QueueName → ℕ → World → List Choice → ℕ
requests_completed queue slot w [] = 0
requests_completed queue slot w (choice ∷ choices) =
    once_if (completes_in queue slot w choice) + requests_completed queue slot (after w choice) choices

-- a process that has a request after a step is in the life in which it was before it
abbrev pub HasRequestsOfItsLife : Record → Record → Type 0
HasRequestsOfItsLife r s = (queue : QueueName) → has_waiting queue s.own ≡ true → s.own.life ≡ r.own.life

-- so it is in every step of every world with a process that lives as it runs: no request outlives its life
abbrev pub RequestsEndWithTheirLife : Type 0
RequestsEndWithTheirLife = (w : World) (choice : Choice) (slot : ℕ) (r : Record) →
    slice_get w.records slot ≡ Some r → LivesAsItRuns r →
    IfSome (slice_get (after w choice).records slot) (HasRequestsOfItsLife r)

-- whether a call is a command to the driver of a queue that broke no rule
abbrev pub asks_for : QueueName → CallMade → Bool
asks_for queue made =
    made.class == 2 && (slice_index made.args 0 == (kind_in queue).driver && is_none made.rule)

-- whether a label tells such a call in a turn of the process in a slot
abbrev pub tells_asking : QueueName → ℕ → Label → Bool
tells_asking queue slot label =
    label.slot == slot && unwrap_or (option_map (asks_for queue) label.trace.call) false

-- a request of the process in a slot begins to wait between two worlds only where such a call is told
abbrev pub BeginsByCommand : QueueName → ℕ → World → World → List Label → Type 0
BeginsByCommand queue slot w v told =
    (not (asks_in queue slot w) && asks_in queue slot v) ≡ true → list_any (tells_asking queue slot) told ≡ true

-- A request begins to wait by an accepted command to its driver alone, of a process that lives as it runs.
abbrev pub RequestsBeginByCommands : Type 0
RequestsBeginByCommands = (w : World) (choice : Choice) (queue : QueueName) (slot : ℕ) →
    IfSome (slice_get w.records slot) LivesAsItRuns → BeginsByCommand queue slot w (after w choice) (labels w choice)

-- A queue before a step and later, by who has a request there: those that have one still stand in the order in which
-- they stood, whoever has none any more is gone, and behind them all stands the one whose request begins to wait in
-- this step, if one does.
pub record FollowsRequests (queue : QueueName) (w v : World) (before later : List ℕ) : Type 0 where
  pub come : List ℕ
  pub is : later ≡ filter (λ slot. asks_in queue slot v) before ++ come
  pub one : length come ≤ 1
  pub begin : All (λ slot. (asks_in queue slot w ≡ false) × (asks_in queue slot v ≡ true)) come

-- So it is with each queue in every step of a world in which the lists are those of requests.
abbrev pub QueuesFollowRequests : Type 0
QueuesFollowRequests = (w : World) (choice : Choice) (queue : QueueName) → ListsAreOfRequests w →
    let v = after w choice in
    FollowsRequests queue w v (slots_in queue w.devices.waiting) (slots_in queue v.devices.waiting)

-- whether a request of it is withdrawn in a step: it has one before it, and none after it, and is told no answer for it
abbrev pub withdraws_in : QueueName → ℕ → World → Choice → Bool
withdraws_in queue slot w choice =
    asks_in queue slot w
    && (not (asks_in queue slot (after w choice)) && not (list_any (answers_for queue slot) (labels w choice)))

-- and in how many of some steps one is
abbrev pub requests_withdrawn : QueueName → ℕ → World → List Choice → ℕ
requests_withdrawn queue slot w [] = 0
requests_withdrawn queue slot w (choice ∷ choices) =
    once_if (withdraws_in queue slot w choice) + requests_withdrawn queue slot (after w choice) choices

-- The requests that began to wait, and the one that waited at first, are exactly those that an answer completed, the
-- one that waits still, and those that were withdrawn.
abbrev pub AddUp : ℕ → ℕ → ℕ → ℕ → ℕ → Type 0
AddUp begun first completed waits withdrawn = begun + first ≡ completed + waits + withdrawn

-- so it is with those of a process in a queue after any choices
abbrev pub RequestsAddUp : Type 0
RequestsAddUp = (w : World) (choices : List Choice) (queue : QueueName) (slot : ℕ) → ListsAreOfRequests w →
    AddUp (requests_begun queue slot w choices) (once_if (asks_in queue slot w))
    (requests_completed queue slot w choices) (once_if (asks_in queue slot (after_all w choices)))
    (requests_withdrawn queue slot w choices)

-- a life of a process ended between two records of it: it lives no more, or in the next life
abbrev pub EndsLife : Record → Record → Type 0
EndsLife r s = (s.own.lives ≡ false) ⊎ (s.own.life ≡ r.own.life + 1)

-- a call is the accepted command that cancels a read
pub record CancelsRead (call : CallMade) : Type 0 where
  pub accepted : IsAccepted 0x1 call
  pub number : slice_index call.args 1 ≡ 3

-- Why a request of a process is withdrawn, by what a step tells of the process: it cancels its read, or a life of it
-- ends.
pub record IsWithdrawnBy (queue : QueueName) (slot : ℕ) (r s : Record) (label : Label) : Type 0 where
  pub of_it : label.slot ≡ slot
  pub why : ((queue ≡ Reads) × IsSomeAnd label.trace.call CancelsRead) ⊎ EndsLife r s

-- so it is with each that is withdrawn, in every step of every world
abbrev pub RequestsAreWithdrawn : Type 0
RequestsAreWithdrawn = (w : World) (choice : Choice) (queue : QueueName) (slot : ℕ) (r s : Record) →
    slice_get w.records slot ≡ Some r → slice_get (after w choice).records slot ≡ Some s →
    withdraws_in queue slot w choice ≡ true → Any (IsWithdrawnBy queue slot r s) (labels w choice)
