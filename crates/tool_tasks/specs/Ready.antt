-- What is left to do once the files are read.
use Rattle.std.specs.Prelude.{◌≡◌, ℕ, ◌<◌, ◌≤◌, List, length, Option, None, Some, unwrap_or}
use Rattle.std.specs.Prelude.{IfSome, Err, ◌⊎◌}
use Rattle.tk_base.specs.declared.limits.TheConstants.{FLASH_LIMIT, OBJECT_LIMIT}
use Rattle.script_text.specs.Reading.{reading}
use Rattle.tk_outside.specs.Shelf.{ShelfFacts}
use Rattle.tk_intake.specs.declared.IntakeError.{IntakeError}
use Rattle.tk_intake.specs.declared.IntakeError.TheVariants as intake
use Rattle.image_make.specs.declared.packs.PackFault.TheVariants as packs
use Rattle.image_make.specs.Packs.{IsPacked, pack_refusal}
use Rattle.board_opening.specs.Opening.{opening}
use Rattle.tool_words.specs.declared.refusal.File.{File}
use Rattle.tool_words.specs.declared.refusal.File.TheVariants.{Flash}
use Rattle.tool_words.specs.declared.refusal.Refusal.{Refusal}
use Rattle.tool_words.specs.declared.refusal.Refusal.TheVariants.{Usage, Fault, TooLong, Script as BadScript, Image}
use Rattle.tool_words.specs.declared.refusal.Refusal.TheVariants.{Memory}
use Rattle.tool_tasks.specs.declared.prepare.Ready.{Ready}
use Rattle.tool_tasks.specs.declared.prepare.Ready.TheVariants as ready
use Rattle.tool_words.specs.Refusals.{limit_of, pack_refused}
use Rattle.tool_words.specs.declared.words.TheConstants.{MOST_TURNS}
use Rattle.tool_words.specs.Words.{Command, Soaks}
use Rattle.tool_tasks.specs.Comes.{ByName, Generated, Task, Running, Listing, Making, IsTask, IsTaskOf}
use Rattle.tool_tasks.specs.Parts.{IsText}
use Rattle.tool_tasks.specs.Causes.{ShelfAccount}

abbrev pub refusal_of : IntakeError → File → Refusal
refusal_of intake.Failed file = Fault file
refusal_of intake.TooLong file = TooLong file
refusal_of intake.Memory file = Memory

-- the task of what is ready
abbrev pub task_of : Ready → Task
task_of (ready.Run flash script mode turns) = Running mode turns (opening script flash.items)
task_of (ready.List flash) = Listing flash.items
task_of (ready.Image flash) = Making flash.items

-- what is ready is the task that a command gives, by what the shelf tells
abbrev pub IsReadyFor : ShelfFacts → Command → Ready → Type 0
IsReadyFor shelf command ready = IsTaskOf shelf.bytes command (task_of ready)

-- what is ready is the task of words, by what a generator makes and what the shelf tells
abbrev pub IsReady : (ℕ → Generated) → ShelfFacts → Option Command → Ready → Type 0
IsReady makes shelf words ready = IsTask makes shelf.bytes words (task_of ready)

-- what is ready is the task of `soak`, which no file has to do with
abbrev pub IsSoak : (ℕ → Generated) → ℕ → ℕ → Ready → Type 0
IsSoak makes number turns ready = IsTask makes (λ name. None) (Some (Soaks number turns)) (task_of ready)

-- the image of a run or of a list is within its limit, and so are the steps to make
abbrev pub IsWithinLimits : Ready → Type 0
IsWithinLimits (ready.Run flash script mode turns) = (length flash.items ≤ FLASH_LIMIT) × (turns ≤ MOST_TURNS)
IsWithinLimits (ready.List flash) = length flash.items ≤ FLASH_LIMIT
IsWithinLimits (ready.Image flash) = Unit {0}

-- why nothing is said by a script: it has no reading, or there was no memory
abbrev pub HasNoReading : List ℕ → Refusal → Type 0
HasNoReading script Usage = ⊥
HasNoReading script (Fault file) = ⊥
HasNoReading script (TooLong file) = ⊥
HasNoReading script (BadScript line rule) = reading script ≡ Err (record { line = line; rule = rule })
HasNoReading script (Image fault) = ⊥
HasNoReading script Memory = Unit {0}

-- why a file was not read
abbrev pub IsUnread : ShelfAccount → File → List ℕ → Refusal → Type 0
IsUnread told file name Usage = ⊥
IsUnread told file name (Fault other) = (other ≡ file) × told.rose × ¬ told.before.is_sound name
IsUnread told file name (TooLong other) =
    (other ≡ file) × IfSome (told.before.bytes name) (λ b. limit_of file < length b)
IsUnread told file name (BadScript line rule) = ⊥
IsUnread told file name (Image fault) = ⊥
IsUnread told file name Memory = Unit {0}

-- a file was read, and packed behind so many objects and these bytes, which leads to so many and those
pub record IsPackedFile (shelf : ShelfFacts) (name : List ℕ) (n : ℕ) (xs : List ℕ) (m : ℕ) (ys : List ℕ) : Type 0 where
  pub text : List ℕ
  pub read : IsText shelf.bytes name text
  pub within : length text ≤ FLASH_LIMIT
  pub packed : IsPacked n xs text m ys
  pub few : m ≤ OBJECT_LIMIT
  pub short : length ys ≤ FLASH_LIMIT

-- a file was read, and is refused behind so many objects and these bytes
pub record IsUnpacked (bytes : ByName) (name : List ℕ) (n : ℕ) (xs : List ℕ) (refusal : Refusal) : Type 0 where
  pub text : List ℕ
  pub read : IsText bytes name text
  pub within : length text ≤ FLASH_LIMIT
  pub cause : refusal ≡ pack_refused (unwrap_or (pack_refusal n xs text) packs.Memory)

-- why a file was not packed: it was not read, or is refused
abbrev pub IsNotPacked : ShelfAccount → List ℕ → ℕ → List ℕ → Refusal → Type 0
IsNotPacked told name n xs refusal = IsUnread told Flash name refusal ⊎ IsUnpacked told.before.bytes name n xs refusal

-- what a shelf keeps over a call
pub record KeepsShelf {H : Type 0} (tells : H → ShelfFacts) (old new : H) : Type 0 where
  pub bytes : (tells new).bytes ≡ (tells old).bytes
  pub sound : (name : List ℕ) → (tells old).is_sound name → (tells new).is_sound name
  pub count : (tells old).faults ≤ (tells new).faults
