-- Only proofs use this: parts of the words by name, for the contracts of inner functions.
use Rattle.std.specs.Prelude.{ℕ, if◌then◌else◌, List, map, codes, String, string_bytes, Option, None, Some}
use Rattle.std.specs.Str.{bytes_eq}
use Rattle.decimal_number.specs.Number.{number_up_to}
use Rattle.run_text.specs.declared.mode.Mode.{Mode}
use Rattle.tool_words.specs.declared.words.RunCommand.{RunCommand}
use Rattle.tool_words.specs.declared.words.EditCommand.{EditCommand}
use Rattle.tool_words.specs.declared.words.TheConstants.{MOST_NUMBER, MOST_TURNS}
use Rattle.tool_words.specs.Words.{Command, Edit, Runs, Lists, Edits, edit_given, rename_of, soak_of}

-- `boot FLASH SCRIPT --turns N` or `trace FLASH SCRIPT --turns N`, by what it writes of the run
pub record RunWords : Type 0 where
  pub mode : Mode
  pub flash : List ℕ
  pub script : List ℕ
  pub turns : ℕ

-- `enable FLASH OFFSET`, `disable FLASH OFFSET` or `rename FLASH OFFSET NAME`
pub record EditWords : Type 0 where
  pub flash : List ℕ
  pub offset : ℕ
  pub edit : Edit

-- the command of such words
abbrev pub running : RunWords → Command
running words = Runs words.mode words.flash words.script words.turns

abbrev pub editing : EditWords → Command
editing words = Edits words.flash words.offset words.edit

-- the number of turns that a word gives
abbrev pub turns_given : List ℕ → Option ℕ
turns_given word = number_up_to MOST_TURNS word

-- the number of a soak run, or the offset of an object, that a word gives
abbrev pub number_in : List ℕ → Option ℕ
number_in word = number_up_to MOST_NUMBER word

-- `list FLASH`
abbrev pub list_command_of : List ℕ → List ℕ → Option Command
list_command_of name flash = if bytes_eq name (codes "list") then Some (Lists flash) else None

-- the command of a name and three words
abbrev pub of_three : List ℕ → List ℕ → List ℕ → List ℕ → Option Command
of_three name first second third =
    if bytes_eq name (codes "rename") then rename_of first second third else soak_of name first second third

-- words as lists of bytes
abbrev pub argument_bytes : {Z : Type 0} → List (String Z) → List (List ℕ)
argument_bytes words = map string_bytes words

-- the words of a run, and those of an edit
abbrev pub run_words : RunCommand → RunWords
run_words c = record { mode = c.mode; flash = c.flash.now; script = c.script.now; turns = c.turns }

abbrev pub edit_words : EditCommand → EditWords
edit_words c = record { flash = c.flash.now; offset = c.offset; edit = edit_given c.edit }
