-- Only proofs use this: parts of what a command comes to by name, for the contracts of inner functions.
use Rattle.std.specs.Prelude.{◌≡◌, ℕ, List, [], Option, option_and_then, IfSome, Result}
use Rattle.std.specs.Result.{result_err, result_map_both}
use Rattle.image_make.specs.declared.edits.EditFault.{EditFault}
use Rattle.image_make.specs.declared.packs.PackFault.{PackFault}
use Rattle.tool_words.specs.declared.refusal.File.{File}
use Rattle.tool_words.specs.declared.refusal.File.TheVariants.{Script as ScriptFile}
use Rattle.tool_words.specs.declared.refusal.Refusal.{Refusal}
use Rattle.tool_words.specs.declared.refusal.Refusal.TheVariants.{Image}
use Rattle.tool_words.specs.Refusals.{edit_refused, pack_refused}
use Rattle.tool_words.specs.Words.{Command}
use Rattle.tool_tasks.specs.Comes.{ByName, Named, ReadsUpTo, Task, Making, files_of}
use Rattle.tool_tasks.specs.Causes.{ShelfAccount}

-- a script of that name
abbrev pub script_named : List ℕ → Named
script_named name = record { file = ScriptFile; name = name }

-- the image of an edit is to be written, or the command is refused for the fault
abbrev pub edit_made : Result (List ℕ) EditFault → Result Task Refusal
edit_made image = result_map_both Making (λ fault. Image (edit_refused fault)) image

-- files one behind another, if they may be packed
abbrev pub pack_made : Result (List ℕ) PackFault → Result Task Refusal
pack_made image = result_map_both Making pack_refused image

-- the refusal, where it came to one
abbrev pub refusal_of_task : Option (Result Task Refusal) → Option Refusal
refusal_of_task come = option_and_then result_err come

-- a text is the whole of the file of that name, where its bytes are told
abbrev pub IsText : ByName → List ℕ → List ℕ → Type 0
IsText bytes name text = IfSome (bytes name) (λ b. text ≡ b)

-- a file that a line names, and that is not sound
abbrev pub IsUnsound : ShelfAccount → File → List (List ℕ) → Named → Type 0
IsUnsound told file before f = (f.file ≡ file) × ¬ told.before.is_sound f.name

-- The files are read one after another: those before the one that has this were read whole, and are no cause.
abbrev pub ReadingComesTo : ShelfAccount → Command → (List (List ℕ) → Named → Type 0) → Type 0
ReadingComesTo told command Holds = ReadsUpTo told.before.bytes command Holds [] (files_of command)
