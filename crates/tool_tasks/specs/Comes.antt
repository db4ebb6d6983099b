-- What a command comes to, by the bytes of the files that it names. The commands are this tool's own.
use Rattle.std.specs.Prelude.{◌≡◌, ℕ, nat_lt, if◌then◌else◌, List, [], ◌∷◌, ◌++◌, length, map, Option, None, Some}
use Rattle.std.specs.Prelude.{option_and_then, IfSome, Result, Ok, Err, ◌⊎◌}
use Rattle.std.specs.Result.{result_err, result_map_both}
use Rattle.script_text.specs.Settings.{ScriptSettings}
use Rattle.script_text.specs.Reading.{Fault as BadLine, reading}
use Rattle.image_make.specs.declared.edits.EditFault.{EditFault}
use Rattle.image_make.specs.Outcomes.{enabling, renaming}
use Rattle.image_make.specs.Packs.{pack_from}
use Rattle.kernel_model.specs.World.{World}
use Rattle.kernel_model.specs.Run.{round}
use Rattle.board_opening.specs.Opening.{opening}
use Rattle.board_report.specs.FlashList.{list_text}
use Rattle.tool_words.specs.declared.refusal.File.{File}
use Rattle.tool_words.specs.declared.refusal.File.TheVariants.{Flash, Script as ScriptFile}
use Rattle.tool_words.specs.declared.refusal.Refusal.{Refusal}
use Rattle.tool_words.specs.declared.refusal.Refusal.TheVariants.{TooLong, Script, Image}
use Rattle.run_text.specs.declared.mode.Mode.{Mode}
use Rattle.run_text.specs.declared.mode.Mode.TheVariants.{Soak}
use Rattle.run_text.specs.RunText.{run_text}
use Rattle.tool_words.specs.Refusals.{edit_refused, pack_refused, limit_of}
use Rattle.tool_words.specs.Words.{Command, Runs, Lists, Soaks, Packs, Edits, Edit, Enables, Renames}

-- what is left to do: a run of at most so many steps from a world, told in a mode; the list of a flash image; or a
-- flash image to write
pub data Task : Type 0 where
  Running : Mode → ℕ → World → Task
  Listing : List ℕ → Task
  Making : List ℕ → Task

-- its text
abbrev pub task_text : Task → List ℕ
task_text (Running mode n world) = run_text mode n world
task_text (Listing flash) = list_text flash
task_text (Making flash) = flash

-- the world that the board shows that it leaves: the last one of a run
abbrev pub world_left_by : Task → Option World
world_left_by (Running mode n world) = Some (round n world).world
world_left_by other = None

-- a file that a command names
pub record Named : Type 0 where
  pub file : File
  pub name : List ℕ

-- a flash file of that name
abbrev pub flash_named : List ℕ → Named
flash_named name = record { file = Flash; name = name }

-- the files that a command names, in the order in which they are read
abbrev pub files_of : Command → List Named
files_of (Runs mode flash script turns) = flash_named flash ∷ (record { file = ScriptFile; name = script } ∷ [])
files_of (Lists flash) = flash_named flash ∷ []
files_of (Soaks number turns) = []
files_of (Packs names) = map flash_named names
files_of (Edits flash offset edit) = flash_named flash ∷ []

-- a run of a flash image under a script, if the script has a reading
abbrev pub run_under : Mode → ℕ → List ℕ → Result ScriptSettings BadLine → Result Task Refusal
run_under mode turns flash (Ok settings) = Ok (Running mode turns (opening settings flash))
run_under mode turns flash (Err bad) = Err (Script bad.line bad.rule)

-- an image with one object edited, if that object may be
abbrev pub edited_by : Edit → ℕ → List ℕ → Result (List ℕ) EditFault
edited_by (Enables on) offset flash = enabling on offset flash
edited_by (Renames name) offset flash = renaming name offset flash

-- what a command comes to with the bytes of its files so far: its task, or why it is refused; nothing yet where more
-- files are to be read, and of `soak`, which reads none. An image that is edited or packed is to be written.
unfoldable pub comes_to : Command → List (List ℕ) → Option (Result Task Refusal)
comes_to (Runs mode first second turns) (flash ∷ script ∷ []) = Some (run_under mode turns flash (reading script))
comes_to (Lists name) (flash ∷ []) = Some (Ok (Listing flash))
comes_to (Packs names) files = Some (result_map_both Making pack_refused (pack_from 0 [] files))
comes_to (Edits name offset edit) (flash ∷ []) =
    Some (result_map_both Making (λ fault. Image (edit_refused fault)) (edited_by edit offset flash))
comes_to command files = None

-- why a command is refused where a file of it has these bytes, behind those that were read before: the file is too
-- long, or that is what the command comes to
unfoldable pub refused_at : Command → List (List ℕ) → File → List ℕ → Option Refusal
refused_at command before file text =
    if nat_lt (limit_of file) (length text) then Some (TooLong file)
    else option_and_then result_err (comes_to command (before ++ (text ∷ [])))

-- the bytes under each name, where they are told
abbrev pub ByName : Type 0
ByName = List ℕ → Option (List ℕ)

-- A file is read whole, a text that is its bytes where these are told, and the command is not refused for it; so much
-- holds of the bytes that are read by then.
pub record Passes (bytes : ByName) (command : Command) (before : List (List ℕ)) (f : Named)
    (Holding : List (List ℕ) → Type 0) : Type 0 where
  pub text : List ℕ
  pub read : IfSome (bytes f.name) (λ b. text ≡ b)
  pub free : refused_at command before f.file text ≡ None
  pub holds : Holding (before ++ (text ∷ []))

-- all files of a list are read so, one after another, and then this holds of the bytes of all
abbrev pub ReadsAll : ByName → Command → (List (List ℕ) → Type 0) → List (List ℕ) → List Named → Type 0
ReadsAll bytes command Holds before [] = Holds before
ReadsAll bytes command Holds before (f ∷ files) =
    Passes bytes command before f (λ texts. ReadsAll bytes command Holds texts files)

-- files of a list are read so, up to one of which this holds
abbrev pub ReadsUpTo : ByName → Command → (List (List ℕ) → Named → Type 0) → List (List ℕ) → List Named → Type 0
ReadsUpTo bytes command Holds before [] = ⊥
ReadsUpTo bytes command Holds before (f ∷ files) =
    Holds before f ⊎ Passes bytes command before f (λ texts. ReadsUpTo bytes command Holds texts files)

-- the task of a command that names its files, by the bytes under each name
abbrev pub IsTaskOf : ByName → Command → Task → Type 0
IsTaskOf bytes command task =
    ReadsAll bytes command (λ texts. comes_to command texts ≡ Some (Ok task)) [] (files_of command)

-- the two files that a generator makes of a number
pub record Generated : Type 0 where
  pub flash : List ℕ
  pub script : List ℕ

-- The task of the words, by what a generator makes of each number and by the bytes under each name. That of `soak` is
-- the run of the flash image under the script that are made of its number. Words that are no command give none.
abbrev pub IsTask : (ℕ → Generated) → ByName → Option Command → Task → Type 0
IsTask makes bytes None task = ⊥
IsTask makes bytes (Some (Soaks number turns)) task =
    run_under Soak turns (makes number).flash (reading (makes number).script) ≡ Ok task
IsTask makes bytes (Some command) task = IsTaskOf bytes command task
