-- Only the loop over a run's steps and its proof use this: what it writes at each step, and what it keeps for that.
-- `RunText.antt` of `run_text` says the whole text.
use Rattle.std.specs.Prelude.{ℕ, List, []}
use Rattle.std.specs.List.{flat_map}
use Rattle.process_record.specs.declared.emit.Emit.{Emit}
use Rattle.kernel_model.specs.World.{World}
use Rattle.kernel_model.specs.Run.{printed}
use Rattle.board_report.specs.Trace.{trace_text}
use Rattle.run_text.specs.declared.mode.Mode.{Mode}
use Rattle.run_text.specs.declared.mode.Mode.TheVariants.{Boot, Trace, Soak}
use Rattle.tock_cli.specs.declared.teller.RunWriter.{RunWriter}
use Rattle.tock_cli.specs.declared.teller.RunWriter.TheVariants as tellings
use Rattle.run_text.specs.Parts.{Step, step_lines, tally_line, tally_of}
use Rattle.run_text.specs.Tallies.{tallying}

-- what is written at once of a step
abbrev pub step_text : Mode → Step → List ℕ
step_text Boot step = printed step.labels
step_text Trace step = step_lines step
step_text Soak step = []

abbrev pub steps_text : Mode → List Step → List ℕ
steps_text mode steps = flat_map (step_text mode) steps

-- what is kept where a run came to a world and printed bytes
abbrev pub telling_of : Mode → World → List ℕ → RunWriter
telling_of Boot w bytes = tellings.Boot
telling_of Trace w bytes = tellings.Trace w.clock.time
telling_of Soak w bytes = tellings.Soak (tally_of bytes)

-- with that, what is written at once of a step, by what it shows
abbrev pub told_text : RunWriter → Emit → List ℕ
told_text tellings.Boot step = step.printed.items
told_text (tellings.Trace time) step = trace_text time step
told_text (tellings.Soak tally) step = []

-- what is kept after a step, which led to a world
abbrev pub told_on : RunWriter → World → Emit → RunWriter
told_on tellings.Boot w step = tellings.Boot
told_on (tellings.Trace time) w step = tellings.Trace w.clock.time
told_on (tellings.Soak tally) w step = tellings.Soak (tallying step.printed.items tally)

-- what is kept after steps that show nothing, which led to a world
abbrev pub passed_on : RunWriter → World → RunWriter
passed_on tellings.Boot w = tellings.Boot
passed_on (tellings.Trace time) w = tellings.Trace w.clock.time
passed_on (tellings.Soak tally) w = tellings.Soak tally

-- how many bytes were counted
abbrev pub counted_bytes : RunWriter → ℕ
counted_bytes tellings.Boot = 0
counted_bytes (tellings.Trace time) = 0
counted_bytes (tellings.Soak tally) = tally.count

-- what is written after the last step
abbrev pub total_text : RunWriter → List ℕ
total_text tellings.Boot = []
total_text (tellings.Trace time) = []
total_text (tellings.Soak tally) = tally_line tally
