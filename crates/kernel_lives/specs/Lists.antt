-- That a slot stands in a waiting list once where its process lives and keeps that request, and else not at all. This
-- is this board's own rule.
use Rattle.std.specs.Prelude.{◌≡◌, ℕ, ◌+◌, ◌==◌, Bool, false, if◌then◌else◌, List, [], ◌∷◌, slice_get, Option}
use Rattle.std.specs.Prelude.{IfSome, option_map, unwrap_or}
use Rattle.tk_base.specs.declared.process.Choice.{Choice}
use Rattle.driver_model.specs.Commands.{QueueName}
use Rattle.driver_model.specs.Lines.{has_waiting}
use Rattle.kernel_model.specs.Record.{Record}
use Rattle.kernel_model.specs.World.{World}
use Rattle.kernel_model.specs.Named.{slots_in}
use Rattle.kernel_model.specs.Replay.{after_all}
use Rattle.kernel_model.specs.Lives.{LivesAsItRuns}

-- how often a slot stands in a list
abbrev pub times_in : ℕ → List ℕ → ℕ
times_in slot [] = 0
times_in slot (other ∷ rest) = let later = times_in slot rest in if other == slot then later + 1 else later

-- whether there is a process that lives and keeps a request that waits in a queue
abbrev pub asks_at : QueueName → Option Record → Bool
asks_at queue r = unwrap_or (option_map (λ r. has_waiting queue r.own) r) false

-- once where it asks, and else not at all
abbrev pub once_if : Bool → ℕ
once_if asks = if asks then 1 else 0

-- A slot stands in each queue once where its process lives and keeps a request there, and else not at all. Each process
-- lives as it runs.
pub record ListsAreOfRequests (w : World) : Type 0 where
  pub each : (queue : QueueName) (slot : ℕ) →
      times_in slot (slots_in queue w.devices.waiting) ≡ once_if (asks_at queue (slice_get w.records slot))
  pub lives : (slot : ℕ) → IfSome (slice_get w.records slot) LivesAsItRuns

-- so it is after any choices
abbrev pub ListsStay : Type 0
ListsStay = (w : World) (choices : List Choice) → ListsAreOfRequests w → ListsAreOfRequests (after_all w choices)
