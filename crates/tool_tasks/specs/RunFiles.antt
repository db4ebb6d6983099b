-- The two files of a run, once they are read.
use Rattle.std.specs.Prelude.{◌≡◌, ◌≤◌, ℕ, List, length, Option, option_map, Some}
use Rattle.std.specs.Result.{result_ok}
use Rattle.tk_base.specs.declared.limits.TheConstants.{FLASH_LIMIT, SCRIPT_LIMIT}
use Rattle.tk_outside.specs.Shelf.{ShelfFacts}
use Rattle.script_text.specs.Reading.{reading}
use Rattle.kernel_model.specs.World.{World}
use Rattle.board_opening.specs.Opening.{opening}
use Rattle.tool_words.specs.declared.words.RunCommand.{RunCommand}
use Rattle.tool_words.specs.Words.{runs_of}
use Rattle.tool_tasks.specs.declared.prepare.RunFiles.{RunFiles}
use Rattle.tool_tasks.specs.Comes.{Running, IsTaskOf}

-- the opening world of a flash image under a script, if the script has a reading
abbrev pub opening_of_files : List ℕ → List ℕ → Option World
opening_of_files flash script = option_map (λ settings. opening settings flash) (result_ok (reading script))

-- files are those of a run, by what a shelf tells: the run is one of the world that they open
pub record AreFilesOf (shelf : ShelfFacts) (words : RunCommand) (files : RunFiles) : Type 0 where
  pub world : World
  pub opens : opening_of_files files.flash.items files.script.items ≡ Some world
  pub task : IsTaskOf shelf.bytes (runs_of words) (Running words.mode words.turns world)

-- each within its limit
pub record AreWithinLimits (files : RunFiles) : Type 0 where
  pub flash : length files.flash.items ≤ FLASH_LIMIT
  pub script : length files.script.items ≤ SCRIPT_LIMIT
