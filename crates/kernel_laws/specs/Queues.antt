-- That the queues of the board are first come, first served, which is this board's own rule.
use Rattle.std.specs.Prelude.{◌≡◌, ◌⊎◌, ℕ, List, [], ◌∷◌, ◌++◌, slice_get, All, Option, None, Some}
use Rattle.std.specs.List.{Any}
use Rattle.tk_base.specs.declared.process.Choice.{Choice}
use Rattle.driver_model.specs.Commands.{QueueName, Writes, Reads, Randoms, Stores}
use Rattle.kernel_model.specs.Turn.{Event, Taken, WriteDone, Input, Word, NoWord, Stored}
use Rattle.kernel_model.specs.World.{Label, World, after, labels, may_serve, only_in, queue_without}
use Rattle.kernel_model.specs.Named.{slots_in}

-- One slot joined a queue, as its last one, or left it, and each other slot stands where it stood.
abbrev pub JoinsOrLeaves : ℕ → List ℕ → List ℕ → Type 0
JoinsOrLeaves slot before later = (later ≡ before ++ slot ∷ []) ⊎ (later ≡ queue_without slot before)

-- A queue before a step and later, by what the step tells: it is as it was; or a label names the one slot that joined
-- it or left it.
abbrev pub ChangesByOne : List Label → List ℕ → List ℕ → Type 0
ChangesByOne told before later = (later ≡ before) ⊎ Any (λ label. JoinsOrLeaves label.slot before later) told

-- so it is with each queue in every step of every world
abbrev pub QueuesKeepOrder : Type 0
QueuesKeepOrder = (w : World) (choice : Choice) (queue : QueueName) →
    ChangesByOne (labels w choice) (slots_in queue w.devices.waiting) (slots_in queue (after w choice).devices.waiting)

-- the queue whose device tells a process something
abbrev pub queue_for : Event → Option QueueName
queue_for Taken = Some Writes
queue_for WriteDone = Some Writes
queue_for (Input bytes) = Some Reads
queue_for (Word word) = Some Randoms
queue_for NoWord = Some Randoms
queue_for (Stored moved) = Some Stores
queue_for other = None

-- the process that is told so was the first in that queue of those that may be served
abbrev pub IsOfFirst : World → Label → Type 0
IsOfFirst w label = (queue : QueueName) → queue_for label.event ≡ Some queue →
    slice_get (may_serve (only_in w) (slots_in queue w.devices.waiting)) 0 ≡ Some label.slot

-- so it is in every step of every world
abbrev pub FirstAreServed : Type 0
FirstAreServed = (w : World) (choice : Choice) → All (IsOfFirst w) (labels w choice)
