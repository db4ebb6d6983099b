-- Which two files the soak runs of the program have. They are this tool's own.
use Rattle.std.specs.Prelude.{◌≡◌, ℕ}
use Rattle.image_make.specs.Generator.{soak_flash, soak_script}
use Rattle.tool_tasks.specs.Comes.{Generated}

-- files are those of a number: eight applications, and a script of one line
pub record AreSoakFiles (number : ℕ) (made : Generated) : Type 0 where
  pub flash : made.flash ≡ soak_flash number
  pub script : made.script ≡ soak_script number

-- a generator makes these of each number
abbrev pub MakesSoakFiles : (ℕ → Generated) → Type 0
MakesSoakFiles makes = (number : ℕ) → AreSoakFiles number (makes number)
