-- From what happened to what the program's answer says. What a task or a refusal leads to is one relation (`Happens`),
-- from which each exit status has its cause (`Decided`); the answers exclude one another by their numbers. A board is
-- left exactly where a run was made to its end.
use Rattle.std.specs.Prelude.{⊤}
use Rattle.std.proofs.Common.{◌≡◌, ◌≢◌, ◌≤◌, arith, ℕ, zero, suc, [], Option, None, Some, IsSome, ◌↔◌, inl}
use Rattle.std.proofs.Common.{inr, refl, sym, subst}
use Rattle.kernel_model.specs.World.{World}
use Rattle.tool_words.specs.declared.refusal.File.{File}
use Rattle.tool_words.specs.declared.refusal.Refusal.{Refusal}
use Rattle.tool_words.specs.declared.refusal.Refusal.TheVariants.{Usage, Fault, TooLong, Script, Image, Memory}
use Rattle.tool_answers.specs.declared.outcome.ServeOutcome.{ServeOutcome}
use Rattle.tool_answers.specs.declared.outcome.ServeOutcome.TheVariants.{Done, Refused, SinkFailed}
use Rattle.tool_words.specs.Words.{Command, Soaks}
use Rattle.tool_words.specs.Refusals.{refusal_line}
use Rattle.tool_tasks.specs.Comes.{ByName, Generated, Task, IsTask, files_of, world_left_by}
use Rattle.tool_tasks.specs.Causes.{ShelfAccount, Cause}
use Rattle.tool_answers.specs.Accounts.{IsAccountedTask}
use Rattle.tool_answers.specs.Served.{SinkAccount, All}
use Rattle.tool_answers.specs.Parts.{IsWritten, SinkRose}
use Rattle.script_text.specs.declared.rule.ScriptRule.{ScriptRule}
use Rattle.tool_words.specs.declared.refusal.ImageFault.{ImageFault}
use Rattle.tool_answers.specs.Parts.{Happens, exit_status_of, RefusalIs, TaskIs, TaskEnds}
use Rattle.tool_answers.specs.Served.{LeavesBoard, Decided}
use Rattle.tool_answers.specs.Served.{Serves, TaskIsDone, TaskIsRefused, SinkFault}
use Rattle.tool_answers.proofs.Tasks.{of_task}
use Rattle.tool_answers.proofs.Decided.{by_task, by_refusal, by_fault, by_memory}

-- whether a task leaves a board is whether the command does
abbrev LeavesAlike : Option World → Type 0 → Type 0
LeavesAlike left Leaves = (Leaves → IsSome left) × (IsSome left → Leaves)

command_leaves : (makes : ℕ → Generated) (bytes : ByName) (command : Command) (task : Task)
    → IsTask makes bytes (Some command) task → LeavesAlike (world_left_by task) (LeavesBoard (Some command))
command_leaves =
    of_task (λ command task. LeavesAlike (world_left_by task) (LeavesBoard (Some command)))
    (λ mode name script turns flash settings. (λ u. refl, λ s. tt))
    (λ number turns flash settings. (λ u. refl, λ s. tt)) (λ name flash. none) (λ names flash. none)
    (λ name offset edit flash. none)
  where
    none : LeavesAlike None ⊥
    none = (λ b. absurd b, λ s. cc)

module _ (makes : ℕ → Generated) (told : ShelfAccount) (sent : SinkAccount) (last : Option World) where
  -- where a part of a text was written, the sink's count rose
  sink_rose : (words : Option Command) → SinkFault makes told sent words → SinkRose sent
  sink_rose words (inl part) = part.2.rose
  sink_rose words (inr part) = part.2.rose

  -- where the task was done the answer is 0
  is_done : (command : Command) (task : Task) → IsTask makes told.before.bytes (Some command) task
      → Decided told (Some command) 0
  is_done (Soaks number turns) task h = inl refl
  is_done command task h = by_task told command _ (files_of command) [] h

  decided : (words : Option Command) (o : ServeOutcome) → Happens makes told sent words last o → IsWritten sent
      → Decided told words (exit_status_of o)
  decided None Done h = absurd h.1
  decided None (Refused Usage) h = λ w. refl
  decided None (Refused refusal) h = absurd h.0.0
  decided None SinkFailed h = λ w. absurd (w (sink_rose None h.0))
  decided (Some command) Done h = λ w. is_done command h.0 h.1
  decided (Some command) (Refused Usage) h = absurd h.0.0
  decided (Some command) (Refused (Fault file)) h =
      λ w. by_fault told command 3 file h.0.0.0 (files_of command) [] h.0.0.1
  decided (Some command) (Refused Memory) h = λ w. by_memory told command (files_of command) []
  decided (Some command) (Refused refusal) h = λ w. by_refusal told command refusal (files_of command) [] h.0.0
  decided (Some command) SinkFailed h = λ w. absurd (w (sink_rose (Some command) h.0))

  none_left : last ≡ None → IsSome last → ⊥
  none_left e s = absurd (no_some last e s)
    where
      no_some : (o : Option World) → o ≡ None → IsSome o → ⊥
      no_some None e s = cc
      no_some (Some w) e s = cc

  -- a board is left by a run
  task_leaves : (words : Option Command) (task : Task) → IsTask makes told.before.bytes words task
      → LeavesAlike (world_left_by task) (LeavesBoard words)
  task_leaves None task h = absurd h
  task_leaves (Some command) task h = command_leaves makes told.before.bytes command task h

  board_left : (words : Option Command) (task : Task) → IsTask makes told.before.bytes words task
      → last ≡ world_left_by task → LeavesBoard words → IsSome last
  board_left words task h e b = subst (λ (o : Option World). IsSome o) (sym e) ((task_leaves words task h).0 b)

  run_left : (words : Option Command) (task : Task) → IsTask makes told.before.bytes words task
      → last ≡ world_left_by task → IsSome last → LeavesBoard words
  run_left words task h e s = (task_leaves words task h).1 (subst (λ (o : Option World). IsSome o) e s)

  no_board : (n : ℕ) (words : Option Command) → last ≡ None → (n ≡ 0 → ⊥) → IsSome last ↔ ((n ≡ 0) × LeavesBoard words)
  no_board n words e differs = (λ s. absurd (none_left e s), λ b. absurd (differs b.0))

  -- what an answer says, by its number
  abbrev Says : Option Command → ℕ → Type 0
  Says words zero = TaskIsDone makes told sent words last
  Says words (suc zero) = ⊤
  Says words (suc (suc zero)) = TaskIsRefused told sent words Usage
  Says words (suc (suc (suc zero))) = (file : File) × TaskIsRefused told sent words (Fault file)
  Says words (suc (suc (suc (suc zero)))) = (file : File) × TaskIsRefused told sent words (TooLong file)
  Says words (suc (suc (suc (suc (suc zero))))) = (line : ℕ) × (rule :
      ScriptRule) × TaskIsRefused told sent words (Script line rule)
  Says words (suc (suc (suc (suc (suc (suc zero)))))) = SinkFault makes told sent words
  Says words (suc (suc (suc (suc (suc (suc (suc zero))))))) = TaskIsRefused told sent words Memory
  Says words (suc (suc (suc (suc (suc (suc (suc (suc zero)))))))) = (fault :
      ImageFault) × TaskIsRefused told sent words (Image fault)
  Says words (suc (suc (suc (suc (suc (suc (suc (suc (suc n))))))))) = ⊤

  -- the answers that there are, of which none is 1
  listed : (o : ServeOutcome) → (exit_status_of o ≤ 8) × (exit_status_of o ≢ 1)
  listed (Refused Usage) = (omega arith, λ e. cc)
  listed o = (omega arith, λ e. cc)

  -- an answer says what its number says, and nothing of the other answers
  by_number : (words : Option Command) (o : ServeOutcome) → Says words (exit_status_of o)
      → IsSome last ↔ ((exit_status_of o ≡ 0) × LeavesBoard words)
      → (IsWritten sent → Decided told words (exit_status_of o))
      → Serves makes (record { told = told; sent = sent; words = words; last = last; answer = exit_status_of o })
  by_number words o says left decides = record {
    done = at 0;
    usage = at 2;
    fault = at 3;
    too_long = at 4;
    script = at 5;
    sink = at 6;
    memory = at 7;
    image = at 8;
    answers = listed o;
    left = left;
    decided = decides;
  }
    where
      at : (n : ℕ) → exit_status_of o ≡ n → Says words n
      at n e = subst (λ (k : ℕ). Says words k) e says

  -- each answer with its cause
  pub answers_at : (words : Option Command) (o : ServeOutcome) → Happens makes told sent words last o
      → Serves makes (record { told = told; sent = sent; words = words; last = last; answer = exit_status_of o })
  answers_at words Done h =
      by_number words Done h (
        λ s. (refl, run_left words h.0 h.1 h.3 s),
        λ e. board_left words h.0 h.1 h.3 e.1,
      ) (decided words Done h)
  answers_at words (Refused Usage) h =
      by_number words (Refused Usage) h.0 (no_board 2 words h.1 (λ e. cc)) (decided words (Refused Usage) h)
  answers_at words (Refused (Fault file)) h =
      by_number words (Refused (Fault file)) (file, h.0) (no_board 3 words h.1 (λ e. cc))
      (decided words (Refused (Fault file)) h)
  answers_at words (Refused (TooLong file)) h =
      by_number words (Refused (TooLong file)) (file, h.0) (no_board 4 words h.1 (λ e. cc))
      (decided words (Refused (TooLong file)) h)
  answers_at words (Refused (Script line rule)) h =
      by_number words (Refused (Script line rule)) (line, rule, h.0)
      (no_board 5 words h.1 (λ e. cc)) (decided words (Refused (Script line rule)) h)
  answers_at words (Refused (Image fault)) h =
      by_number words (Refused (Image fault)) (fault, h.0)
      (no_board 8 words h.1 (λ e. cc)) (decided words (Refused (Image fault)) h)
  answers_at words (Refused Memory) h =
      by_number words (Refused Memory) h.0 (no_board 7 words h.1 (λ e. cc)) (decided words (Refused Memory) h)
  answers_at words SinkFailed h =
      by_number words SinkFailed h.0 (no_board 6 words h.1 (λ e. cc)) (decided words SinkFailed h)

-- what a refusal leads to
pub refused_happens : (makes : ℕ → Generated) (told : ShelfAccount) (sent : SinkAccount) (words : Option Command)
    (last : Option World) (refusal : Refusal) (o : ServeOutcome) → Cause told words refusal → last ≡ None
    → RefusalIs sent refusal o → Happens makes told sent words last o
refused_happens makes told sent words last refusal Done c e r = absurd r
refused_happens makes told sent words last refusal (Refused other) c e r = (
  (
    subst (λ (x : Refusal). Cause told words x) (sym r.0) c,
    subst (λ (x : Refusal). All sent (refusal_line x)) (sym r.0) r.1,
  ),
  e,
)
refused_happens makes told sent words last refusal SinkFailed c e r = (inr (refusal, c, r), e)

-- what doing a task leads to
pub task_happens : (makes : ℕ → Generated) (told : ShelfAccount) (sent : SinkAccount) (words : Option Command)
    (last : Option World) (task : Task) (o : ServeOutcome) → IsTask makes told.before.bytes words task
    → IsAccountedTask task
    → TaskIs sent task last o → Happens makes told sent words last o
task_happens makes told sent words last task Done h a r = (task, h, r.0, r.1, a)
task_happens makes told sent words last task (Refused refusal) h a r = absurd r
task_happens makes told sent words last task SinkFailed h a r = (inl (task, h, r.0, a), r.1)

-- and where a board may have to be made first
pub ends_happen : (makes : ℕ → Generated) (told : ShelfAccount) (sent : SinkAccount) (words : Option Command)
    (last : Option World) (task : Task) (o : ServeOutcome) → IsTask makes told.before.bytes words task
    → IsAccountedTask task
    → TaskEnds sent task last o → Happens makes told sent words last o
ends_happen makes told sent words last task o h a (inl r) = task_happens makes told sent words last task o h a r
ends_happen makes told sent words last task o h a (inr r) =
    refused_happens makes told sent words last Memory o (no_memory words h) r.1 r.0
  where
    no_memory : (words : Option Command) → IsTask makes told.before.bytes words task → Cause told words Memory
    no_memory None h = absurd h
    no_memory (Some command) h = tt

pub answers : (makes : ℕ → Generated) (told : ShelfAccount) (sent : SinkAccount) (words : Option Command)
    (last : Option World) (o : ServeOutcome) (answer : ℕ) → answer ≡ exit_status_of o
    → Happens makes told sent words last o
    → Serves makes (record { told = told; sent = sent; words = words; last = last; answer = answer })
answers makes told sent words last o answer e h =
    subst (λ (n : ℕ). Serves makes (record { told = told; sent = sent; words = words; last = last; answer = n }))
    (sym e)
    (answers_at makes told sent last words o h)
