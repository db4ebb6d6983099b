-- Only proofs use this: parts of the text of a run by name, for the loop over its steps and for the contracts of inner
-- functions.
use Rattle.std.specs.Prelude.{ℕ, zero, suc, ◌%◌, ◌^◌, List, [], ◌∷◌, ◌++◌, length, sum, codes, decimal, is_none}
use Rattle.std.specs.Prelude.{if◌then◌else◌}
use Rattle.std.specs.List.{flat_map}
use Rattle.tk_base.specs.declared.process.Choice.{Choice}
use Rattle.kernel_model.specs.World.{World, Label, after, labels}
use Rattle.kernel_model.specs.Run.{next}
use Rattle.kernel_model.specs.Parts.{on_choice}
use Rattle.board_report.specs.declared.report.End.{End}
use Rattle.board_report.specs.declared.report.End.TheVariants.{Done, Turns}
use Rattle.run_text.specs.declared.tally.Tally.{Tally}
use Rattle.run_text.specs.RunText.{label_lines}

-- A run is done where no choice is left; else the given number of steps ended it.
unfoldable pub run_end_of : World → End
run_end_of w = if is_none (next w) then Done else Turns

-- a step of a run: the time at which it began, and what it told
pub record Step : Type 0 where
  pub time : ℕ
  pub labels : List Label

-- what a step tells, with its time
abbrev pub step_of : World → Choice → Step
step_of w choice = record { time = w.clock.time; labels = labels w choice }

-- the steps of the run of n steps by the round robin, in order
unfoldable pub steps : ℕ → World → List Step
steps zero w = []
steps (suc n) w = on_choice [] (λ choice. step_of w choice ∷ steps n (after w choice)) (next w)

-- the lines of a step
abbrev pub step_lines : Step → List ℕ
step_lines step = flat_map (label_lines step.time) step.labels

-- how many bytes there are, and their sum mod 2^32
abbrev pub tally_of : List ℕ → Tally
tally_of bytes = record { count = length bytes; sum = sum bytes % 2 ^ 32 }

-- both as a line
unfoldable pub tally_line : Tally → List ℕ
tally_line tally = codes "printed " ++ (decimal tally.count ++ (codes " sum " ++ (decimal tally.sum ++ codes "\n")))
