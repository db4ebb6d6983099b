-- The text of a run, by what is written of it. Its form is this tool's own.
use Rattle.std.specs.Prelude.{◌≡◌, ℕ, zero, suc, ◌%◌, ◌^◌, ◌≤◌, List, [], ◌++◌, length, sum, codes, decimal}
use Rattle.std.specs.Prelude.{is_none, if◌then◌else◌, option_map, unwrap_or}
use Rattle.std.specs.List.{flat_map}
use Rattle.kernel_model.specs.World.{World, Label, after, labels}
use Rattle.kernel_model.specs.Run.{next, round, printed}
use Rattle.kernel_model.specs.Shown.{act_shown, summary_of}
use Rattle.board_report.specs.declared.report.End.TheVariants.{Done, Turns}
use Rattle.board_report.specs.Report.{report_text}
use Rattle.board_report.specs.Trace.{act_text, call_text, denied_text, out_text}
use Rattle.run_text.specs.declared.mode.Mode.{Mode}
use Rattle.run_text.specs.declared.mode.Mode.TheVariants.{Boot, Trace, Soak}

-- what is written of the last world: a run is done where no choice is left, else the given number of steps ended it
unfoldable pub ending_text : World → List ℕ
ending_text w = codes "==\n" ++ report_text (summary_of w) (if is_none (next w) then Done else Turns)

-- the lines of a label of a step that began at a time: the call or the denial in it, or the operator's act that it
-- tells, and what was printed
abbrev pub label_lines : ℕ → Label → List ℕ
label_lines time label =
    (call_text time label.slot label.trace.call ++ denied_text time label.slot label.trace.denial)
    ++ (act_text time (act_shown label.slot label.event) ++ out_text time label.slot label.printed)

-- the lines of the steps of the run of n steps by the round robin, in order
unfoldable pub trace_lines : ℕ → World → List ℕ
trace_lines zero w = []
trace_lines (suc n) w =
    unwrap_or
    (option_map (λ choice. flat_map (label_lines w.clock.time) (labels w choice) ++ trace_lines n (after w choice))
    (next w)) []

-- how many bytes there are, and their sum mod 2^32, as a line
unfoldable pub tally_text : List ℕ → List ℕ
tally_text bytes =
    codes "printed " ++ (decimal (length bytes)
    ++ (codes " sum " ++ (decimal (sum bytes % 2 ^ 32) ++ codes "\n")))

-- what is written of the run of n steps from a world before its end: the bytes that it printed, or the lines of its
-- steps, or how many bytes it printed, and their sum
abbrev pub shown_in : Mode → ℕ → World → List ℕ
shown_in Boot n w = printed (round n w).labels
shown_in Trace n w = trace_lines n w
shown_in Soak n w = tally_text (printed (round n w).labels)

-- the text of the run of n steps from a world
unfoldable pub run_text : Mode → ℕ → World → List ℕ
run_text mode n w = shown_in mode n w ++ ending_text (round n w).world

-- a world that a run of at most n steps comes to
pub record IsWorldOf (n : ℕ) (from world : World) : Type 0 where
  pub steps : ℕ
  pub within : steps ≤ n
  pub reached : world ≡ (round steps from).world
