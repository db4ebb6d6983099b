-- The answers to commands, by the worlds that the board shows. They are this tool's own.
use Rattle.std.specs.Prelude.{◌≡◌, ℕ, List, [], ◌∷◌, ◌++◌, codes, is_some, slice_get, Some, Result, Ok, Err}
use Rattle.tk_outside.specs.declared.failed.Failed.{Failed}
use Rattle.kernel_model.specs.World.{World}
use Rattle.kernel_model.specs.Run.{round}
use Rattle.run_text.specs.RunText.{trace_lines}
use Rattle.board_views.specs.declared.goal.Goal.{Goal}
use Rattle.board_views.specs.declared.going.Stop.{Stop}
use Rattle.board_views.specs.declared.times.Reach.{Reach}
use Rattle.board_views.specs.Memories.{memory_text, storage_text}
use Rattle.board_views.specs.Places.{at_text}
use Rattle.board_views.specs.Searches.{last_before, until_goal}
use Rattle.board_views.specs.States.{board_state_text}
use Rattle.board_views.specs.StopLines.{found_text, stop_text}
use Rattle.board_views.specs.Stops.{stop_at, turns_stop, until_turns, within}
use Rattle.board_views.specs.Times.{time_stop, told_reaching, world_reached}
use Rattle.tool_tasks.specs.declared.prepare.RunFiles.{RunFiles}
use Rattle.tool_tasks.specs.RunFiles.{opening_of_files}
use Rattle.tool_answers.specs.Served.{SinkAccount, All, Part}
use Rattle.tock_look.specs.declared.asks.Ask.{Ask}
use Rattle.tock_look.specs.declared.asks.Ask.TheVariants.{Boot, State, At, Steps, Trace, Memory, Storage, To, Turns}
use Rattle.tock_look.specs.declared.asks.Ask.TheVariants.{Until, Last, Add, Keep, Return, Unknown}
use Rattle.tock_look.specs.declared.answers.Answered.{Answered}
use Rattle.tock_look.specs.declared.answers.Answered.TheVariants.{Whole, SinkFailed, NoMemory}
use Rattle.tock_look.specs.Adding.{added_text, line_event, whether_added, with_line}
use Rattle.tock_look.specs.Keeping.{found_line, kept_after, kept_with, returned}
use Rattle.tock_look.specs.declared.keeping.Boards.{Boards}
use Rattle.tock_look.specs.declared.views.View.{View}
use Rattle.tock_look.specs.declared.views.View.TheVariants as shows

-- the last line of an answer
abbrev pub ok_line : List ℕ
ok_line = codes "= ok\n"

-- the answer to what is no command
abbrev pub words_line : List ℕ
words_line = codes "= words\n"

-- what is shown of a world: why a board stopped and where, or other things
unfoldable pub stopped_text : World → ℕ → Stop → List ℕ
stopped_text w slot stop = stop_text stop ++ at_text w slot

abbrev pub shown_text : World → View → List ℕ
shown_text w shows.Nothing = []
shown_text w shows.State = board_state_text w
shown_text w (shows.Place slot) = at_text w slot
shown_text w (shows.Stopped slot stop) = stopped_text w slot stop
shown_text w (shows.Memory slot at count) = memory_text w slot at count
shown_text w (shows.Storage slot at count) = storage_text w slot at count
shown_text w (shows.Last found) = found_text found

-- and the line that ends an answer
abbrev pub view_text : World → View → List ℕ
view_text w view = shown_text w view ++ ok_line

-- the answer of a board that went on to a world
abbrev pub went_text : World → ℕ → List ℕ
went_text w slot = view_text w (shows.Stopped slot (stop_at w))

-- and that of one whose steps were told
abbrev pub traced_text : World → ℕ → ℕ → List ℕ
traced_text w slot most = let n = within w most in trace_lines n w ++ went_text (round n w).world slot

-- and that of one that went on to a time
abbrev pub reached_text : World → ℕ → Reach → List ℕ
reached_text w slot reach =
    let later = world_reached reach w in
    told_reaching reach w ++ view_text later (shows.Stopped slot (time_stop reach.time later))

-- and that of one that was to come to so many turns
abbrev pub turned_text : World → ℕ → ℕ → List ℕ
turned_text w slot turns = view_text w (shows.Stopped slot (turns_stop w slot turns))

-- and that of one that went on to a goal
abbrev pub until_text : ℕ → Goal → World → List ℕ
until_text most goal w =
    view_text (until_goal most goal w).world (shows.Stopped goal.slot (until_goal most goal w).stop)

-- and that of one that was asked for the last place of its way
abbrev pub last_text : ℕ → Goal → World → List ℕ
last_text most goal w = view_text (last_before most goal w).world (shows.Last (last_before most goal w).found)

-- the world of the board, and those that are kept, by their places
pub record Worlds : Type 0 where
  pub now : World
  pub kept : List World

abbrev pub worlds_of : Boards → Worlds
worlds_of boards = record { now = boards.board; kept = boards.kept.items }

-- those of a board that opened with a world, before any command
abbrev pub opened : World → Worlds
opened opening = record { now = opening; kept = [] }

-- the world after a command, on a board that opened with one
abbrev pub now_after : World → Worlds → Ask → World
now_after opening ws Boot = opening
now_after opening ws State = ws.now
now_after opening ws (At slot) = ws.now
now_after opening ws (Steps slot most) = (round most ws.now).world
now_after opening ws (Trace slot most) = (round (within ws.now most) ws.now).world
now_after opening ws (Memory slot at count) = ws.now
now_after opening ws (Storage slot at count) = ws.now
now_after opening ws (To slot reach) = world_reached reach ws.now
now_after opening ws (Turns slot turns most) = until_turns most slot turns ws.now
now_after opening ws (Until most goal) = (until_goal most goal ws.now).world
now_after opening ws (Last most goal) = (last_before most goal ws.now).world
now_after opening ws (Add line) = with_line ws.now line.items
now_after opening ws (Keep place) = ws.now
now_after opening ws (Return place) = returned place ws.kept ws.now
now_after opening ws Unknown = ws.now

-- and the kept ones: one more or another by `keep`, and no other command changes them
abbrev pub kept_by : Worlds → Ask → List World
kept_by ws (Keep place) = kept_after place ws.now ws.kept
kept_by ws ask = ws.kept

abbrev pub worlds_after : World → Worlds → Ask → Worlds
worlds_after opening ws ask = record { now = now_after opening ws ask; kept = kept_by ws ask }

-- the answer to a command, by the worlds before it
abbrev pub answer_text : Worlds → Ask → List ℕ
answer_text ws Boot = view_text ws.now shows.Nothing
answer_text ws State = view_text ws.now shows.State
answer_text ws (At slot) = view_text ws.now (shows.Place slot)
answer_text ws (Steps slot most) = went_text (round most ws.now).world slot
answer_text ws (Trace slot most) = traced_text ws.now slot most
answer_text ws (Memory slot at count) = view_text ws.now (shows.Memory slot at count)
answer_text ws (Storage slot at count) = view_text ws.now (shows.Storage slot at count)
answer_text ws (To slot reach) = reached_text ws.now slot reach
answer_text ws (Turns slot turns most) = turned_text (until_turns most slot turns ws.now) slot turns
answer_text ws (Until most goal) = until_text most goal ws.now
answer_text ws (Last most goal) = last_text most goal ws.now
answer_text ws (Add line) = added_text (whether_added (line_event ws.now line.items))
answer_text ws (Keep place) = found_line (is_some (kept_with place ws.now ws.kept))
answer_text ws (Return place) = found_line (is_some (slice_get ws.kept place))
answer_text ws Unknown = words_line

-- the answers to commands, one after another
abbrev pub answers_from : World → Worlds → List Ask → List ℕ
answers_from opening ws [] = []
answers_from opening ws (ask ∷ asks) = answer_text ws ask ++ answers_from opening (worlds_after opening ws ask) asks

-- those of a board that opens with a world
abbrev pub answers_text : World → List Ask → List ℕ
answers_text opening asks = answers_from opening (opened opening) asks

-- worlds are those after a command, on the board that two files open
abbrev pub AreAfter : RunFiles → Worlds → Ask → Worlds → Type 0
AreAfter files ws ask new =
    (opening : World) → opening_of_files files.flash.items files.script.items ≡ Some opening →
    new ≡ worlds_after opening ws ask

-- how a command was answered whose answer was written, or in part
abbrev pub answered : Result Unit Failed → Answered
answered (Ok done) = Whole
answered (Err failed) = SinkFailed

-- how a text was written as an answer
abbrev pub AnswersWith : SinkAccount → List ℕ → Answered → Type 0
AnswersWith sent text Whole = All sent text
AnswersWith sent text SinkFailed = Part sent text
AnswersWith sent text NoMemory = All sent []

-- how a command is answered; where the whole answer was written, the worlds are those after it
abbrev pub Answers : SinkAccount → RunFiles → Boards → Boards → Ask → Answered → Type 0
Answers sent files old new ask answered =
    AnswersWith sent (answer_text (worlds_of old) ask) answered
    × (answered ≡ Whole → AreAfter files (worlds_of old) ask (worlds_of new))
