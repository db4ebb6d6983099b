-- A process's history with its times: what steps tell of it, each with the time at which its step began. It is this
-- board's own.
use Rattle.std.specs.Prelude.{ℕ, ◌==◌, nat_lt, List, [], ◌∷◌, ◌++◌, filter, map}
use Rattle.tk_base.specs.declared.process.Choice.{Choice}
use Rattle.kernel_model.specs.Turn.{Event}
use Rattle.kernel_model.specs.World.{Label, World, after, labels}

-- what a step tells of a process (its turn with what it did, or what it was told and what was printed for it), and the
-- time at which the step began
pub record Moment : Type 0 where
  pub at : ℕ
  pub label : Label

-- what is told of the process in a slot while choices are made, one after another, each by a step that began at a time
abbrev pub timed_history : ℕ → World → List Choice → List Moment
timed_history slot w [] = []
timed_history slot w (choice ∷ choices) =
    map (λ label. record { at = w.clock.time; label = label }) (filter (λ label. label.slot == slot) (labels w choice))
    ++ timed_history slot (after w choice) choices

-- what was told by steps that began before a time
abbrev pub before : ℕ → List Moment → List Moment
before time moments = filter (λ m. nat_lt m.at time) moments

-- what happened to the process by that, without the times: its turns, answers and acts
abbrev pub events_of : List Moment → List Event
events_of moments = map (λ m. m.label.event) moments
