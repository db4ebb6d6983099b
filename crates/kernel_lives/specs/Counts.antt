-- That time, steps and turns add up. They count by this board's own rule.
use Rattle.std.specs.Prelude.{◌≡◌, ◌<◌, ℕ, ◌+◌, true, List, [], ◌∷◌, length, All}
use Rattle.tk_base.specs.declared.process.Choice.{Choice}
use Rattle.tk_base.specs.declared.process.Choice.TheVariants.{Run, Pass}
use Rattle.driver_model.specs.Commands.{QueueName}
use Rattle.kernel_model.specs.Record.{Record}
use Rattle.kernel_model.specs.World.{World}
use Rattle.kernel_model.specs.Named.{slots_in}
use Rattle.kernel_model.specs.Choices.{are_ready}
use Rattle.kernel_model.specs.Replay.{after_all}

-- how many turns of processes are among some choices
abbrev pub turns_made : List Choice → ℕ
turns_made [] = 0
turns_made (Run slot ∷ choices) = 1 + turns_made choices
turns_made (other ∷ choices) = turns_made choices

-- how many ticks pass in which nothing acts
abbrev pub ticks_passed : List Choice → ℕ
ticks_passed [] = 0
ticks_passed (Pass ticks ∷ choices) = ticks + ticks_passed choices
ticks_passed (other ∷ choices) = ticks_passed choices

-- the turns of all processes together
abbrev pub turns_of_all : List Record → ℕ
turns_of_all [] = 0
turns_of_all (r ∷ rs) = r.process.turns + turns_of_all rs

-- those that wait in a queue are slots of the board
abbrev pub WaitingAreThere : World → Type 0
WaitingAreThere w = (queue : QueueName) → All (λ slot. slot < length w.records) (slots_in queue w.devices.waiting)

-- In another world time is later by the turns made and the ticks passed, the steps are more by the choices made, and
-- the turns of all processes together are more by the turns made.
pub record AddsUp (w : World) (choices : List Choice) (v : World) : Type 0 where
  pub time : v.clock.time ≡ w.clock.time + (turns_made choices + ticks_passed choices)
  pub steps : v.clock.steps ≡ w.clock.steps + length choices
  pub turns : turns_of_all v.records ≡ turns_of_all w.records + turns_made choices
  pub waiting : WaitingAreThere v

-- so it is after choices that are each ready in its turn, where those that wait are slots of the board
abbrev pub CountsAddUp : Type 0
CountsAddUp = (w : World) (choices : List Choice) →
    WaitingAreThere w → are_ready w choices ≡ true → AddsUp w choices (after_all w choices)
