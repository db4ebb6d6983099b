-- What the program does: each answer with its cause, and what was written. It is this tool's own promise.
use Rattle.std.specs.Prelude.{◌≡◌, ◌≢◌, ◌≤◌, ℕ, ◌⊎◌, List, [], ◌∷◌, ◌++◌, Option, None, Some, IfSome, IsSome}
use Rattle.std.specs.Prelude.{◌↔◌}
use Rattle.script_text.specs.declared.rule.ScriptRule.{ScriptRule}
use Rattle.tk_outside.specs.Count.{Rose}
use Rattle.tk_outside.specs.Sink.{SinkFacts}
use Rattle.tk_outside.specs.Writes.{WroteAll, WrotePart}
use Rattle.kernel_model.specs.World.{World}
use Rattle.tool_words.specs.declared.refusal.File.{File}
use Rattle.tool_words.specs.declared.refusal.ImageFault.{ImageFault}
use Rattle.tool_words.specs.declared.refusal.Refusal.{Refusal}
use Rattle.tool_words.specs.declared.refusal.Refusal.TheVariants.{Usage, Fault, TooLong, Script, Image, Memory}
use Rattle.tool_words.specs.Words.{Command, Runs, Soaks}
use Rattle.tool_words.specs.Refusals.{refusal_line, status_of}
use Rattle.tool_tasks.specs.Comes.{Generated, Named, Task, IsTask, files_of, world_left_by, refused_at, task_text}
use Rattle.tool_tasks.specs.Causes.{ShelfAccount, Cause}
use Rattle.tool_answers.specs.Accounts.{IsAccountedTask}

-- what a sink was before the call and after it, and what it tells
pub record SinkAccount : Type 1 where
  pub Sink : Type 0
  pub tells : Sink → SinkFacts
  pub old : Sink
  pub new : Sink

-- a sink that was the first of these before the call, and is the second after it
abbrev pub sink_account : {K : Type 0} → (K → SinkFacts) → K → K → SinkAccount
sink_account tells old new = record { Sink = _; tells = tells; old = old; new = new }

-- all of a text was written
abbrev pub All : SinkAccount → List ℕ → Type 0
All sent text = WroteAll sent.tells sent.old sent.new text

-- the sink failed, and a part of the text that lacks some of it was written
abbrev pub Part : SinkAccount → List ℕ → Type 0
Part sent text = WrotePart sent.tells sent.old sent.new text

-- The command's task was done, its whole text written: the text of the run from the opening world of the files, which
-- are read or generated, the list of the flash file, or an image. The board that a run leaves shows its last world, and
-- the run is accounted for.
abbrev pub TaskIsDone : (ℕ → Generated) → ShelfAccount → SinkAccount → Option Command → Option World → Type 0
TaskIsDone makes told sent words last =
    (task : Task) × IsTask makes told.before.bytes words task × All sent (task_text task)
    × (last ≡ world_left_by task) × IsAccountedTask task

-- a refusal: its cause holds, and its line was written
abbrev pub TaskIsRefused : ShelfAccount → SinkAccount → Option Command → Refusal → Type 0
TaskIsRefused told sent words refusal = Cause told words refusal × All sent (refusal_line refusal)

-- The sink failed: its count of faults rose, and a proper part was written of the text of the command's task, which is
-- accounted for where it is a run, or of the line of a refusal whose cause holds.
abbrev pub SinkFault : (ℕ → Generated) → ShelfAccount → SinkAccount → Option Command → Type 0
SinkFault makes told sent words =
    ((task : Task) × IsTask makes told.before.bytes words task × Part sent (task_text task) × IsAccountedTask task)
    ⊎ ((refusal : Refusal) × Cause told words refusal × Part sent (refusal_line refusal))

-- an answer is this one, or 7 for want of memory
abbrev pub IsOrMemory : ℕ → ℕ → Type 0
IsOrMemory this answer = (answer ≡ this) ⊎ (answer ≡ 7)

-- a command is refused, or goes on
abbrev pub IsRefusedOr : Option Refusal → ℕ → Type 0 → Type 0
IsRefusedOr None answer Goes = Goes
IsRefusedOr (Some refusal) answer Goes = IsOrMemory (status_of refusal) answer

-- The files are read one after another, behind others. Each of them is told, and the reading of it was not hindered:
-- its name is sound, or the shelf's count of faults did not rise. The first for which the command is refused decides
-- the answer, and where there is none it is 0.
abbrev pub DecidedBy : ShelfAccount → Command → ℕ → List (List ℕ) → List Named → Type 0
DecidedBy told command answer before [] = IsOrMemory 0 answer
DecidedBy told command answer before (f ∷ files) =
    IfSome (told.before.bytes f.name) (λ text. (told.before.is_sound f.name ⊎ ¬ told.rose) →
    IsRefusedOr (refused_at command before f.file text) answer
    (DecidedBy told command answer (before ++ (text ∷ [])) files))

-- The answer is decided by the files, want of memory (7) aside. Words that are no command are always answered by 2.
abbrev pub Decided : ShelfAccount → Option Command → ℕ → Type 0
Decided told None answer = answer ≡ 2
Decided told (Some command) answer = DecidedBy told command answer [] (files_of command)

-- a command whose run leaves a board
abbrev pub LeavesBoard : Option Command → Type 0
LeavesBoard (Some (Runs mode flash script turns)) = Unit {0}
LeavesBoard (Some (Soaks number turns)) = Unit {0}
LeavesBoard other = ⊥

-- a call of the program: what the shelf told and what the sink was sent, the command that its words are, the world
-- that a board shows which it left, and its answer
pub record ProgramCall : Type 1 where
  pub told : ShelfAccount
  pub sent : SinkAccount
  pub words : Option Command
  pub last : Option World
  pub answer : ℕ

-- What the program does, over a generator that makes such files of each number: the answer with its cause, what was
-- written, and the board that is left.
pub record Serves (makes : ℕ → Generated) (call : ProgramCall) : Type 0 where
  pub done : call.answer ≡ 0 → TaskIsDone makes call.told call.sent call.words call.last
  pub usage : call.answer ≡ 2 → TaskIsRefused call.told call.sent call.words Usage
  pub fault : call.answer ≡ 3 → (file : File) × TaskIsRefused call.told call.sent call.words (Fault file)
  pub too_long : call.answer ≡ 4 → (file : File) × TaskIsRefused call.told call.sent call.words (TooLong file)
  pub script : call.answer ≡ 5
      → (line : ℕ) × (rule : ScriptRule) × TaskIsRefused call.told call.sent call.words (Script line rule)
  pub sink : call.answer ≡ 6 → SinkFault makes call.told call.sent call.words
  pub memory : call.answer ≡ 7 → TaskIsRefused call.told call.sent call.words Memory
  pub image : call.answer ≡ 8 → (fault : ImageFault) × TaskIsRefused call.told call.sent call.words (Image fault)
  -- there is no other answer
  pub answers : (call.answer ≤ 8) × (call.answer ≢ 1)
  -- a board is left exactly at answer 0 of `boot`, `trace` and `soak`
  pub left : IsSome call.last ↔ ((call.answer ≡ 0) × LeavesBoard call.words)
  -- so it is where the sink's count of faults did not rise
  pub decided : ¬ Rose (call.sent.tells call.sent.old).faults (call.sent.tells call.sent.new).faults
      → Decided call.told call.words call.answer
