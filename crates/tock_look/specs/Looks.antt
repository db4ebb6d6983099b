-- What the program does: what it writes, and how it ends. It is this tool's own promise.
use Rattle.std.specs.Prelude.{◌≡◌, ◌⊎◌, ℕ, List, [], ◌∷◌, ◌++◌, map, codes, Option, None, Some}
use Rattle.kernel_model.specs.World.{World}
use Rattle.run_text.specs.declared.mode.Mode.TheVariants.{Boot}
use Rattle.tool_words.specs.declared.refusal.Refusal.{Refusal}
use Rattle.tool_words.specs.declared.refusal.Refusal.TheVariants.{Usage, Memory}
use Rattle.tool_words.specs.Refusals.{refusal_line}
use Rattle.tool_words.specs.Words.{Command, Runs}
use Rattle.tool_tasks.specs.Comes.{Running, IsTaskOf}
use Rattle.tool_tasks.specs.Causes.{ShelfAccount, CauseOf}
use Rattle.tool_answers.specs.Served.{SinkAccount, All, Part}
use Rattle.tool_answers.specs.declared.outcome.ServeOutcome.{ServeOutcome}
use Rattle.tool_answers.specs.declared.outcome.ServeOutcome.TheVariants.{Done, Refused, SinkFailed}
use Rattle.tock_look.specs.declared.asks.Ask.{Ask}
use Rattle.tock_look.specs.Asks.{Looking, line_ask}
use Rattle.tock_look.specs.Answers.{answers_text}
use Rattle.tock_look.specs.Lines.{Came, IsEnded, LineAccount}

-- the line of words that are no command
abbrev pub usage_line : List ℕ
usage_line = codes "usage: tock_look FLASH SCRIPT COMMAND ..\n"

-- the two files are read as those of `tock boot` are
abbrev pub runs : Looking → Command
runs looking = Runs Boot looking.flash looking.script 0

-- the world that they open, by what the shelf tells
abbrev pub Opens : ShelfAccount → Looking → World → Type 0
Opens told looking world = IsTaskOf told.before.bytes (runs looking) (Running Boot 0 world)

-- what was written of the answers before there was no memory for another board: a front of them
pub record IsFront (text front : List ℕ) : Type 0 where
  pub rest : List ℕ
  pub whole : text ≡ front ++ rest

-- how a text of answers was written
abbrev pub AnswersAll : SinkAccount → List ℕ → ServeOutcome → Type 0
AnswersAll sent text Done = All sent text
AnswersAll sent text (Refused refusal) =
    (refusal ≡ Memory) × ((front : List ℕ) × IsFront text front × All sent (front ++ refusal_line Memory))
AnswersAll sent text SinkFailed =
    Part sent text ⊎ ((front : List ℕ) × IsFront text front × Part sent (front ++ refusal_line Memory))

-- The files were read, and the commands answered by the world that they open; or they were refused as those of a run,
-- and that line was written, or a part of it.
abbrev pub IsRefused : ShelfAccount → SinkAccount → Looking → ServeOutcome → Type 0
IsRefused told sent looking Done = ⊥
IsRefused told sent looking (Refused refusal) = CauseOf told (runs looking) refusal × All sent (refusal_line refusal)
IsRefused told sent looking SinkFailed =
    (refusal : Refusal) × CauseOf told (runs looking) refusal × Part sent (refusal_line refusal)

-- Lines came in, as many as there were; or fewer, where it ended before. Their commands were answered.
pub record AnswersLines (lines : LineAccount) (sent : SinkAccount) (world : World) (outcome : ServeOutcome)
    : Type 0 where
  pub given : List (List ℕ)
  pub came : Came lines.before lines.after given
  pub all : outcome ≡ Done → IsEnded lines.after
  pub answers : AnswersAll sent (answers_text world (map line_ask given)) outcome

-- the commands of words were answered, or where there are none those of lines
abbrev pub AnswersAsked : LineAccount → SinkAccount → World → List Ask → ServeOutcome → Type 0
AnswersAsked lines sent world [] outcome = AnswersLines lines sent world outcome
AnswersAsked lines sent world (ask ∷ asks) outcome = AnswersAll sent (answers_text world (ask ∷ asks)) outcome

pub record AnswersLooking (told : ShelfAccount) (lines : LineAccount) (sent : SinkAccount) (looking : Looking)
    (outcome : ServeOutcome) : Type 0 where
  pub world : World
  pub opens : Opens told looking world
  pub answers : AnswersAsked lines sent world looking.asks outcome

-- there was no memory for the commands
abbrev pub IsOutOfMemory : SinkAccount → ServeOutcome → Type 0
IsOutOfMemory sent Done = ⊥
IsOutOfMemory sent (Refused refusal) = (refusal ≡ Memory) × All sent (refusal_line Memory)
IsOutOfMemory sent SinkFailed = Part sent (refusal_line Memory)

-- with the world that the two files open, if their script has a reading
abbrev pub LooksAt : LineAccount → SinkAccount → Option World → List Ask → ServeOutcome → Type 0
LooksAt lines sent None asks outcome = IsOutOfMemory sent outcome
LooksAt lines sent (Some world) asks outcome = AnswersAsked lines sent world asks outcome ⊎ IsOutOfMemory sent outcome

abbrev pub LooksOn : ShelfAccount → LineAccount → SinkAccount → Looking → ServeOutcome → Type 0
LooksOn told lines sent looking outcome =
    AnswersLooking told lines sent looking outcome ⊎ IsRefused told sent looking outcome

-- words that are no command: nothing is read, and the line says so
abbrev pub IsNoCommand : SinkAccount → ServeOutcome → Type 0
IsNoCommand sent Done = ⊥
IsNoCommand sent (Refused refusal) = (refusal ≡ Usage) × All sent usage_line
IsNoCommand sent SinkFailed = Part sent usage_line

-- what the program does with the words of its command line
abbrev pub LooksBy : ShelfAccount → LineAccount → SinkAccount → Option Looking → ServeOutcome → Type 0
LooksBy told lines sent None outcome = IsNoCommand sent outcome
LooksBy told lines sent (Some looking) outcome = LooksOn told lines sent looking outcome

abbrev pub Looks : ShelfAccount → LineAccount → SinkAccount → Option Looking → ServeOutcome → Type 0
Looks told lines sent words outcome = LooksBy told lines sent words outcome ⊎ IsOutOfMemory sent outcome
