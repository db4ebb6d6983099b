-- The refusals of a command: the answer and the line of each. They are this tool's own.
use Rattle.std.specs.Prelude.{ℕ, List, ◌++◌, codes, decimal}
use Rattle.tk_base.specs.declared.limits.TheConstants.{FLASH_LIMIT, SCRIPT_LIMIT}
use Rattle.script_text.specs.Rules.{name_of_rule}
use Rattle.image_make.specs.declared.edits.EditFault.{EditFault}
use Rattle.image_make.specs.declared.edits.EditFault.TheVariants as edits
use Rattle.image_make.specs.declared.packs.PackFault.{PackFault}
use Rattle.image_make.specs.declared.packs.PackFault.TheVariants as packs
use Rattle.tool_words.specs.declared.refusal.File.{File}
use Rattle.tool_words.specs.declared.refusal.File.TheVariants.{Flash, Script as ScriptFile}
use Rattle.tool_words.specs.declared.refusal.ImageFault.{ImageFault}
use Rattle.tool_words.specs.declared.refusal.ImageFault.TheVariants.{NoObject, BadName, NameLength, TooMany, Size}
use Rattle.tool_words.specs.declared.refusal.Refusal.{Refusal}
use Rattle.tool_words.specs.declared.refusal.Refusal.TheVariants.{Usage, Fault, TooLong, Script, Image, Memory}

-- the program's answer to a refusal
abbrev pub status_of : Refusal → ℕ
status_of Usage = 2
status_of (Fault file) = 3
status_of (TooLong file) = 4
status_of (Script line rule) = 5
status_of Memory = 7
status_of (Image fault) = 8

-- a file as a line names it
abbrev pub file_text : File → List ℕ
file_text Flash = codes "flash"
file_text ScriptFile = codes "script"

-- why no image is written, as a line names it
abbrev pub image_fault_text : ImageFault → List ℕ
image_fault_text NoObject = codes "no-object"
image_fault_text BadName = codes "bad-name"
image_fault_text NameLength = codes "name-length"
image_fault_text TooMany = codes "too-many"
image_fault_text Size = codes "too-long"

-- by why the object may not be edited
abbrev pub edit_refused : EditFault → ImageFault
edit_refused edits.NoObject = NoObject
edit_refused edits.Name = BadName
edit_refused edits.Length = NameLength

-- or the files not be packed
abbrev pub pack_refused : PackFault → Refusal
pack_refused packs.Objects = Image TooMany
pack_refused packs.Size = Image Size
pack_refused packs.Memory = Memory

-- the line of a refusal; that of words that are no command says which there are, and that of a script's names its bad
-- line, and the rule that it breaks
abbrev pub refusal_line : Refusal → List ℕ
refusal_line Usage =
    codes "usage: tock boot FLASH SCRIPT --turns N | trace FLASH SCRIPT --turns N | list FLASH | soak NUMBER --turns N | pack FILE .. | enable FLASH OFFSET | disable FLASH OFFSET | rename FLASH OFFSET NAME\n"
refusal_line (Fault file) = codes "file " ++ (file_text file ++ codes " fault\n")
refusal_line (TooLong file) = codes "file " ++ (file_text file ++ codes " too long\n")
refusal_line (Script line rule) = codes "script " ++ (decimal line ++ (codes " " ++ (name_of_rule rule ++ codes "\n")))
refusal_line (Image fault) = codes "image " ++ (image_fault_text fault ++ codes "\n")
refusal_line Memory = codes "memory\n"

-- the greatest number of bytes of a file
abbrev pub limit_of : File → ℕ
limit_of Flash = FLASH_LIMIT
limit_of ScriptFile = SCRIPT_LIMIT
