-- The run that the program tells is one from a boot, and so it is accounted for.
use Rattle.std.proofs.Common.{ℕ, Option, None, Some}
use Rattle.board_opening.specs.Certified.{RunsFromBootAreAccountedFor}
use Rattle.board_partitions.specs.Boot.{RunsArePartitioned}
use Rattle.tool_words.specs.Words.{Command}
use Rattle.tool_tasks.specs.Comes.{Generated, Task, IsTask}
use Rattle.tool_tasks.specs.Causes.{ShelfAccount}
use Rattle.tool_answers.specs.Accounts.{IsAccountedTask}
use Rattle.tool_answers.proofs.Tasks.{of_task}

pub task_is_accounted : RunsFromBootAreAccountedFor → RunsArePartitioned → (makes : ℕ → Generated)
    (told : ShelfAccount) (words : Option Command) (task : Task) → IsTask makes told.before.bytes words task
    → IsAccountedTask task
task_is_accounted law times makes told None task is = absurd is
task_is_accounted law times makes told (Some command) task is =
    of_task (λ c t. IsAccountedTask t)
    (λ mode name script turns flash settings. (law settings flash turns, times _ turns))
    (λ number turns flash settings. (law settings flash turns, times _ turns))
    (λ name flash. tt) (λ names flash. tt) (λ name offset edit flash. tt) makes told.before.bytes command task is
