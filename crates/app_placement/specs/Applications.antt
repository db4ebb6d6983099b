-- What the applications of a flash image ask for, by their headers (Tock Binary Format, "Main", "Program" and
-- "Fixed Addresses").
use Rattle.std.specs.Prelude.{ℕ, ◌+◌, ◌==◌, Bool, true, false, if◌then◌else◌, List, filter_map, Option, Some, None}
use Rattle.std.specs.Prelude.{option_and_then}
use Rattle.tk_base.specs.declared.access.TheConstants.{FLASH_START}
use Rattle.tbf_headers.specs.declared.program.Main.{Main}
use Rattle.tbf_headers.specs.Meaning.{Meaning, header_reading, of_app}
use Rattle.tbf_headers.specs.Addresses.{accessible_start, accessible_end_of}
use Rattle.tbf_headers.specs.Objects.{object_at}
use Rattle.flash_walk.specs.declared.found.Found.{Found}
use Rattle.flash_walk.specs.declared.found.Verdict.{Verdict}
use Rattle.flash_walk.specs.declared.found.Verdict.TheVariants.{App}
use Rattle.flash_walk.specs.Image.{objects}
use Rattle.app_placement.specs.declared.application.Application.{Application}

-- what the application asks for whose object stands at an offset; a RAM start of 0xFFFFFFFF is none
abbrev pub application : ℕ → Meaning → Main → Application
application offset h m = record {
  offset = offset;
  flash_from = accessible_start (FLASH_START + offset) h m;
  flash_to = accessible_end_of (FLASH_START + offset) h m;
  minimum_ram = m.minimum_ram;
  fixed_start = option_and_then (λ fixed. if fixed.0 == 4294967295 then None else Some fixed.0) h.fixed;
}

-- whether an object is an application that can start
abbrev pub is_app : Verdict → Bool
is_app App = true
is_app other = false

-- what an object that was found asks for, if it is an application
abbrev pub application_of : List ℕ → Found → Option Application
application_of flash f =
    if is_app f.verdict then of_app (application f.offset) (header_reading (object_at flash f.offset f.size)) else None

-- the applications of a flash image, in the order in which they stand there
abbrev pub applications : List ℕ → List Application
applications flash = filter_map (application_of flash) (objects flash)
