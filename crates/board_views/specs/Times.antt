-- A board that goes on to a time, so that something may still come in at that time: no step that was made begins at it
-- or later, or ends past it. The rules are this tool's own.
use Rattle.std.specs.Prelude.{ℕ, zero, suc, nat_lt, nat_le, Bool, ◌&&◌, if◌then◌else◌, List, [], ◌++◌, Option, None}
use Rattle.std.specs.Prelude.{Some}
use Rattle.std.specs.Option.{option_and_then}
use Rattle.tk_base.specs.declared.process.Choice.{Choice}
use Rattle.process_record.specs.declared.emit.Emit.{Emit}
use Rattle.kernel_model.specs.World.{World, after, labels}
use Rattle.kernel_model.specs.Shown.{shown_by}
use Rattle.kernel_model.specs.Parts.{on_choice}
use Rattle.board_report.specs.Trace.{trace_text}
use Rattle.board_views.specs.declared.going.Stop.{Stop}
use Rattle.board_views.specs.declared.going.Stop.TheVariants.{Most, Time}
use Rattle.board_views.specs.declared.times.Reach.{Reach}
use Rattle.board_views.specs.Searches.{choice_in}
use Rattle.board_views.specs.Stops.{stop_at}

-- whether the step of a choice begins before a time, and ends at it or before
abbrev pub is_within : ℕ → World → Choice → Bool
is_within time w choice = nat_lt w.clock.time time && nat_le (after w choice).clock.time time

-- a choice, where its step does
abbrev pub only_within : ℕ → World → Option Choice → Option Choice
only_within time w next = option_and_then (λ choice. if is_within time w choice then Some choice else None) next

-- the round robin's next choice, where its step does, and one more may be made
abbrev pub choice_within : ℕ → World → Option Choice
choice_within time w = only_within time w (choice_in w)

-- where at most n steps lead that begin before a time and end at it or before
unfoldable pub to_time : ℕ → ℕ → World → World
to_time zero time w = w
to_time (suc n) time w = on_choice w (λ choice. to_time n time (after w choice)) (choice_within time w)

-- what is told of a step that began at a time, by what it shows: the lines of its trace, but for that of its call
abbrev pub uncalled_text : ℕ → Emit → List ℕ
uncalled_text time step = trace_text time (record step { made = None })

abbrev pub told_text : World → Choice → List ℕ
told_text w choice = uncalled_text w.clock.time (shown_by (labels w choice))

-- what is told of these steps, one after another
unfoldable pub told_to : ℕ → ℕ → World → List ℕ
told_to zero time w = []
told_to (suc n) time w =
    on_choice [] (λ choice. told_text w choice ++ told_to n time (after w choice)) (choice_within time w)

-- what is told where that is asked for
abbrev pub told_if : Bool → List ℕ → List ℕ
told_if told text = if told then text else []

-- where a board comes to that goes on so far, and what is told of its steps, if that is asked for
abbrev pub world_reached : Reach → World → World
world_reached reach w = to_time reach.most reach.time w

abbrev pub told_reaching : Reach → World → List ℕ
told_reaching reach w = told_if reach.told (told_to reach.most reach.time w)

-- why it stopped: its next step begins or ends too late, or there is another cause
abbrev pub stop_by : ℕ → World → Option Choice → Stop
stop_by time w None = stop_at w
stop_by time w (Some choice) = if is_within time w choice then Most else Time

unfoldable pub time_stop : ℕ → World → Stop
time_stop time w = stop_by time w (choice_in w)
