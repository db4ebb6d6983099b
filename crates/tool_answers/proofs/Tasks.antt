-- The tasks that commands come to.
use Rattle.std.proofs.Common.{◌≡◌, ℕ, List, [], ◌∷◌, Option, Some, Result, Ok, Err, subst, ap}
use Rattle.script_text.specs.Settings.{ScriptSettings}
use Rattle.script_text.specs.Reading.{Fault as BadLine, reading}
use Rattle.image_make.specs.declared.edits.EditFault.{EditFault}
use Rattle.image_make.specs.declared.packs.PackFault.{PackFault}
use Rattle.image_make.specs.Packs.{pack}
use Rattle.board_opening.specs.Opening.{opening}
use Rattle.tool_words.specs.declared.refusal.Refusal.{Refusal}
use Rattle.run_text.specs.declared.mode.Mode.{Mode}
use Rattle.run_text.specs.declared.mode.Mode.TheVariants.{Soak}
use Rattle.tool_words.specs.Words.{Command, Edit, Runs, Lists, Soaks, Packs, Edits}
use Rattle.tool_tasks.specs.Comes.{ByName, Generated, Task, Running, Listing, Making, IsTask, IsTaskOf, comes_to}
use Rattle.tool_tasks.specs.Comes.{edited_by, files_of, run_under}
use Rattle.tool_tasks.specs.Parts.{edit_made, pack_made}
use Rattle.tool_tasks.proofs.Files.{all_texts}

-- what holds of the tasks that each command may come to holds of the one that a command comes to
module _ (P : Command → Task → Type 0)
    (runs : (mode : Mode) (name script : List ℕ) (turns : ℕ) (flash : List ℕ) (settings : ScriptSettings)
    → P (Runs mode name script turns) (Running mode turns (opening settings flash)))
    (soaks : (number turns : ℕ) (flash : List ℕ) (settings : ScriptSettings)
    → P (Soaks number turns) (Running Soak turns (opening settings flash)))
    (lists : (name flash : List ℕ) → P (Lists name) (Listing flash))
    (packs : (names : List (List ℕ)) (flash : List ℕ) → P (Packs names) (Making flash))
    (edits : (name : List ℕ) (offset : ℕ) (edit : Edit) (flash : List ℕ)
    → P (Edits name offset edit) (Making flash)) where
  at_task : (command : Command) (made task : Task) → P command made
      → ◌≡◌ {A = Option (Result Task Refusal)} (Some (Ok made)) (Some (Ok task)) → P command task
  at_task command made task holds e = let same : made ≡ task = cc in subst (P command) same holds

  of_run : (command : Command) (mode : Mode) (turns : ℕ) (flash : List ℕ) (r : Result ScriptSettings BadLine)
      (task : Task)
      → ((settings : ScriptSettings) → P command (Running mode turns (opening settings flash)))
      → run_under mode turns flash r ≡ Ok task → P command task
  of_run command mode turns flash (Ok settings) task holds e = at_task command _ task (holds settings) (ap Some e)
  of_run command mode turns flash (Err bad) task holds e = absurd (cc)

  of_pack : (names : List (List ℕ)) (r : Result (List ℕ) PackFault) (task : Task) → Some (pack_made r) ≡ Some (Ok task)
      → P (Packs names) task
  of_pack names (Ok flash) task e = at_task (Packs names) (Making flash) task (packs names flash) e
  of_pack names (Err fault) task e = absurd (cc)

  of_edit : (name : List ℕ) (offset : ℕ) (edit : Edit) (r : Result (List ℕ) EditFault) (task : Task)
      → Some (edit_made r) ≡ Some (Ok task) → P (Edits name offset edit) task
  of_edit name offset edit (Ok flash) task e =
      at_task (Edits name offset edit) (Making flash) task (edits name offset edit flash) e
  of_edit name offset edit (Err fault) task e = absurd (cc)

  of_command : (command : Command) (texts : List (List ℕ)) (task : Task) → comes_to command texts ≡ Some (Ok task)
      → P command task
  unfolding comes_to
  of_command (Runs mode name other turns) (flash ∷ script ∷ []) task e =
      of_run (Runs mode name other turns) mode turns flash (reading script) task (runs mode name other turns flash) (cc)
  of_command (Lists name) (flash ∷ []) task e = at_task (Lists name) (Listing flash) task (lists name flash) e
  of_command (Packs names) texts task e = of_pack names (pack texts) task e
  of_command (Edits name offset edit) (flash ∷ []) task e =
      of_edit name offset edit (edited_by edit offset flash) task e
  of_command command texts task e = absurd (cc)

  -- the task of a command that reads files
  of_read : (bytes : ByName) (command : Command) (task : Task) → IsTaskOf bytes command task → P command task
  of_read bytes command task is =
      let all = all_texts bytes command _ (files_of command) [] is in
      of_command command all.0 task all.1

  pub of_task : (makes : ℕ → Generated) (bytes : ByName) (command : Command) (task : Task)
      → IsTask makes bytes (Some command) task → P command task
  of_task makes bytes (Soaks number turns) task is =
      of_run (Soaks number turns) Soak turns (makes number).flash (reading (makes number).script) task
      (soaks number turns (makes number).flash) is
  of_task makes bytes command task is = of_read bytes command task is
