-- The words of the command line. They are this tool's own.
use Rattle.std.specs.Prelude.{ℕ, ◌≤◌, nat_le, Bool, true, false, ◌&&◌, if◌then◌else◌, List, [], ◌∷◌, length, map, codes}
use Rattle.std.specs.Prelude.{String, string_bytes, Option, None, Some}
use Rattle.std.specs.Option.{option_map, option_and_then}
use Rattle.std.specs.Str.{bytes_eq}
use Rattle.decimal_number.specs.Number.{number_up_to}
use Rattle.run_text.specs.declared.mode.Mode.{Mode}
use Rattle.run_text.specs.declared.mode.Mode.TheVariants.{Boot, Trace}
use Rattle.tool_words.specs.declared.words.RunCommand.{RunCommand}
use Rattle.tool_words.specs.declared.words.Edit.{Edit as GivenEdit}
use Rattle.tool_words.specs.declared.words.Edit.TheVariants as edit
use Rattle.tool_words.specs.declared.words.EditCommand.{EditCommand}
use Rattle.tool_words.specs.declared.words.Command.{Command as Given}
use Rattle.tool_words.specs.declared.words.Command.TheVariants as given
use Rattle.tool_words.specs.declared.words.TheConstants.{MOST_FILES, MOST_NUMBER, MOST_TURNS}

-- what is done to an object of a flash image: it is enabled or disabled, or gets another package name
pub data Edit : Type 0 where
  Enables : Bool → Edit
  Renames : List ℕ → Edit

-- a command: `boot` or `trace`, by what it writes of the run, with its files and the number of turns; `list` with the
-- flash file; `soak` with its number and the number of turns; `pack` with the files; or an edit of the object at an
-- offset of a flash file
pub data Command : Type 0 where
  Runs : (mode : Mode) (flash script : List ℕ) (turns : ℕ) → Command
  Lists : List ℕ → Command
  Soaks : (number turns : ℕ) → Command
  Packs : List (List ℕ) → Command
  Edits : (flash : List ℕ) (offset : ℕ) (edit : Edit) → Command

-- what is written of the run of two files, by the name of the command
abbrev pub mode_named : List ℕ → Option Mode
mode_named name =
    if bytes_eq name (codes "boot") then Some Boot
    else (if bytes_eq name (codes "trace") then Some Trace else None)

-- `soak NUMBER --turns N`
unfoldable pub soak_of : List ℕ → List ℕ → List ℕ → List ℕ → Option Command
soak_of name number flag turns =
    if bytes_eq name (codes "soak") && bytes_eq flag (codes "--turns")
    then option_and_then (λ n. option_map (Soaks n) (number_up_to MOST_TURNS turns)) (number_up_to MOST_NUMBER number)
    else None

-- `boot FLASH SCRIPT --turns N` or `trace FLASH SCRIPT --turns N`
unfoldable pub run_of : List ℕ → List ℕ → List ℕ → List ℕ → List ℕ → Option Command
run_of name flash script flag turns =
    if bytes_eq flag (codes "--turns")
    then option_and_then (λ mode. option_map (Runs mode flash script) (number_up_to MOST_TURNS turns)) (mode_named name)
    else None

-- `pack FILE ..`, with 1 to 64 files
unfoldable pub pack_of : List (List ℕ) → Option Command
pack_of files =
    if nat_le 1 (length files) && nat_le (length files) MOST_FILES then Some (Packs files) else None

-- whether an object is to be enabled or disabled, by the name of the command
abbrev pub switch_named : List ℕ → Option Bool
switch_named name =
    if bytes_eq name (codes "enable") then Some true
    else (if bytes_eq name (codes "disable") then Some false else None)

-- `enable FLASH OFFSET` or `disable FLASH OFFSET`
unfoldable pub enable_of : List ℕ → List ℕ → List ℕ → Option Command
enable_of name flash offset =
    option_and_then (λ on. option_map (λ n. Edits flash n (Enables on)) (number_up_to MOST_NUMBER offset))
    (switch_named name)

-- `rename FLASH OFFSET NAME`
unfoldable pub rename_of : List ℕ → List ℕ → List ℕ → Option Command
rename_of flash offset name = option_map (λ n. Edits flash n (Renames name)) (number_up_to MOST_NUMBER offset)

-- The words after a command's name are a file for `list`; a file and an offset for `enable` and `disable`; a file, an
-- offset and a name for `rename`, or a number, `--turns` and a number for `soak`; two files, `--turns` and a number for
-- `boot` and `trace`; in this order. Nothing else is accepted.
abbrev pub of_few : List ℕ → List (List ℕ) → Option Command
of_few name (flash ∷ []) = if bytes_eq name (codes "list") then Some (Lists flash) else None
of_few name (flash ∷ offset ∷ []) = enable_of name flash offset
of_few name (first ∷ second ∷ third ∷ []) =
    if bytes_eq name (codes "rename") then rename_of first second third else soak_of name first second third
of_few name (flash ∷ script ∷ flag ∷ turns ∷ []) = run_of name flash script flag turns
of_few name words = None

-- and 1 to 64 files for `pack`; the first word is the program's name
abbrev pub accepted : List (List ℕ) → Option Command
accepted (program ∷ name ∷ words) = if bytes_eq name (codes "pack") then pack_of words else of_few name words
accepted words = None

-- the command that the words of the command line are
abbrev pub command_of : {Z : Type 0} → List (String Z) → Option Command
command_of words = accepted (map string_bytes words)

-- the command that the words of a run are
abbrev pub runs_of : RunCommand → Command
runs_of c = Runs c.mode c.flash.now c.script.now c.turns

-- the command that packs files, and what is done to an object
abbrev pub packs_of : {Z : Type 0} → List (String Z) → Command
packs_of files = Packs (map string_bytes files)

abbrev pub edit_given : GivenEdit → Edit
edit_given (edit.Enable on) = Enables on
edit_given (edit.Rename name) = Renames name.now

-- the command that the words of an edit are
abbrev pub edits_of : EditCommand → Command
edits_of c = Edits c.flash.now c.offset (edit_given c.edit)

abbrev pub shown_command : Given → Command
shown_command (given.Run words) = runs_of words
shown_command (given.List flash) = Lists flash.now
shown_command (given.Soak number turns) = Soaks number turns
shown_command (given.Pack files) = packs_of files.now
shown_command (given.Edit words) = edits_of words

abbrev pub command_shown : Option Given → Option Command
command_shown c = option_map shown_command c

-- the number of turns is within its limit
abbrev pub HasTurnsWithin : Given → Type 0
HasTurnsWithin (given.Run words) = words.turns ≤ MOST_TURNS
HasTurnsWithin (given.List flash) = Unit {0}
HasTurnsWithin (given.Soak number turns) = turns ≤ MOST_TURNS
HasTurnsWithin (given.Pack files) = Unit {0}
HasTurnsWithin (given.Edit words) = Unit {0}
