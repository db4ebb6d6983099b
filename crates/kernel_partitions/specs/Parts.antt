-- Only proofs use this: names of parts of what is told of a process with its times.
use Rattle.std.specs.Prelude.{ℕ, ◌==◌, List, filter, map}
use Rattle.kernel_model.specs.World.{Label}
use Rattle.kernel_partitions.specs.Moments.{Moment}

-- what some labels tell of the process in a slot
abbrev pub told_of : ℕ → List Label → List Label
told_of slot ls = filter (λ label. label.slot == slot) ls

-- labels that a step told which began at a time
abbrev pub told_at_time : ℕ → List Label → List Moment
told_at_time time ls = map (λ label. record { at = time; label = label }) ls
