-- Only proofs use this: how the program ended, and parts of what it does by name, for the contracts of inner functions.
use Rattle.std.specs.Prelude.{◌≡◌, ℕ, ◌⊎◌, List, Option, None}
use Rattle.kernel_model.specs.World.{World}
use Rattle.tk_outside.specs.Count.{Rose}
use Rattle.tool_words.specs.declared.refusal.Refusal.{Refusal}
use Rattle.tool_words.specs.declared.refusal.Refusal.TheVariants.{Memory}
use Rattle.tool_words.specs.Words.{Command}
use Rattle.tool_words.specs.Refusals.{refusal_line, status_of}
use Rattle.tool_tasks.specs.Comes.{Generated, Task, world_left_by, task_text}
use Rattle.tool_tasks.specs.Causes.{ShelfAccount}
use Rattle.tool_answers.specs.declared.outcome.ServeOutcome.{ServeOutcome}
use Rattle.tool_answers.specs.declared.outcome.ServeOutcome.TheVariants.{Done, Refused, SinkFailed}
use Rattle.tool_answers.specs.Served.{SinkAccount, All, Part, TaskIsDone, TaskIsRefused, SinkFault}

-- the sink's count of faults rose
abbrev pub SinkRose : SinkAccount → Type 0
SinkRose sent = Rose (sent.tells sent.old).faults (sent.tells sent.new).faults

-- it did not rise
abbrev pub IsWritten : SinkAccount → Type 0
IsWritten sent = ¬ SinkRose sent

-- Reading a file was not hindered: its name is sound, or the shelf's count of faults did not rise.
abbrev pub IsUnhindered : ShelfAccount → List ℕ → Type 0
IsUnhindered told name = told.before.is_sound name ⊎ ¬ told.rose

-- what each outcome says
abbrev pub Happens : (ℕ → Generated) → ShelfAccount → SinkAccount → Option Command → Option World → ServeOutcome
    → Type 0
Happens makes told sent words last Done = TaskIsDone makes told sent words last
Happens makes told sent words last (Refused refusal) = TaskIsRefused told sent words refusal × (last ≡ None)
Happens makes told sent words last SinkFailed = SinkFault makes told sent words × (last ≡ None)

-- the program's answer to an outcome
abbrev pub exit_status_of : ServeOutcome → ℕ
exit_status_of Done = 0
exit_status_of (Refused refusal) = status_of refusal
exit_status_of SinkFailed = 6

-- what writing the line of a refusal leads to
abbrev pub RefusalIs : SinkAccount → Refusal → ServeOutcome → Type 0
RefusalIs sent refusal Done = ⊥
RefusalIs sent refusal (Refused other) = (other ≡ refusal) × All sent (refusal_line refusal)
RefusalIs sent refusal SinkFailed = Part sent (refusal_line refusal)

-- what doing a task leads to
abbrev pub TaskIs : SinkAccount → Task → Option World → ServeOutcome → Type 0
TaskIs sent task last Done = All sent (task_text task) × (last ≡ world_left_by task)
TaskIs sent task last (Refused refusal) = ⊥
TaskIs sent task last SinkFailed = Part sent (task_text task) × (last ≡ None)

-- what doing a task leads to where a board may have to be made first, for which there may be no memory
abbrev pub TaskEnds : SinkAccount → Task → Option World → ServeOutcome → Type 0
TaskEnds sent task last outcome = TaskIs sent task last outcome ⊎ (RefusalIs sent Memory outcome × (last ≡ None))
