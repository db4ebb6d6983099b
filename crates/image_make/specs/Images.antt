-- What the walk over an image finds after an edit of one object, and after another image is appended. The walk is that
-- of the Tock Binary Format, "TBF Header Base"; the edits are this tool's own.
use Rattle.std.specs.Prelude.{ℕ, ◌+◌, ◌==◌, if◌then◌else◌, List, take, Result}
use Rattle.std.specs.List.{sum_by}
use Rattle.tk_base.specs.declared.access.TheConstants.{FLASH_START}
use Rattle.tbf_headers.specs.declared.fault.HeaderFault.{HeaderFault}
use Rattle.tbf_headers.specs.Meaning.{Meaning, header_reading}
use Rattle.tbf_headers.specs.Objects.{object_at}
use Rattle.flash_walk.specs.declared.found.Found.{Found}
use Rattle.flash_walk.specs.declared.found.Verdict.{Verdict}
use Rattle.flash_walk.specs.declared.found.Verdict.TheVariants.{Bad, Padding, Disabled, BadEntry, WrongFlash, App}
use Rattle.flash_walk.specs.Image.{verdict_of, objects}

-- what is found where the object at an offset has these bytes
abbrev pub found_with_bytes : ℕ → List ℕ → Found → Found
found_with_bytes at object f =
    if f.offset == at then record f { verdict = verdict_of (FLASH_START + at) (header_reading object) } else f

-- what is found where the header of the object at an offset is read as this
abbrev pub with_reading : ℕ → Result Meaning HeaderFault → Found → Found
with_reading at r f = if f.offset == at then record f { verdict = verdict_of (FLASH_START + at) r } else f

-- how many bytes objects have together
abbrev pub covered : List Found → ℕ
covered found = sum_by (λ f. f.size) found

-- the bytes of a file that its objects cover
unfoldable pub packed : List ℕ → List ℕ
packed file = take (covered (objects file)) file

-- an object of a file that stands so many bytes further on
abbrev pub moved : ℕ → List ℕ → Found → Found
moved distance file f = record f {
  offset = distance + f.offset;
  verdict = verdict_of (FLASH_START + (distance + f.offset)) (header_reading (object_at file f.offset f.size));
}

-- a verdict that takes no heed of the address that an application is linked for
abbrev pub but_link : Verdict → Verdict
but_link WrongFlash = App
but_link App = App
but_link (Bad fault) = Bad fault
but_link Padding = Padding
but_link Disabled = Disabled
but_link BadEntry = BadEntry
