-- The text of `tock list`: a line for each object of a flash image, and how many there are. Its form is this tool's
-- own.
use Rattle.std.specs.Prelude.{ℕ, List, ◌++◌, length, codes, decimal}
use Rattle.std.specs.List.{flat_map}
use Rattle.tbf_headers.specs.declared.fault.HeaderFault.{HeaderFault}
use Rattle.tbf_headers.specs.declared.fault.HeaderFault.TheVariants.{Short, Version, Sizes, Checksum, Tlv}
use Rattle.tbf_headers.specs.Objects.{object_at}
use Rattle.flash_walk.specs.declared.found.Found.{Found}
use Rattle.flash_walk.specs.declared.found.Verdict.{Verdict}
use Rattle.flash_walk.specs.declared.found.Verdict.TheVariants.{Bad, Padding, Disabled, BadEntry, WrongFlash, App}
use Rattle.flash_walk.specs.Image.{objects}
use Rattle.process_record.specs.Name.{name_of}
use Rattle.board_report.specs.Words.{newline}
use Rattle.process_record.specs.Lines.{name_text}

-- A walk lists no object that is too short or of another version: these two words stand nowhere in a list.
abbrev pub bad_text : HeaderFault → List ℕ
bad_text Short = codes "bad-short"
bad_text Version = codes "bad-version"
bad_text Sizes = codes "bad-sizes"
bad_text Checksum = codes "bad-checksum"
bad_text (Tlv at) = codes "bad-tlv"

-- the word of a verdict, with the fault of a header
abbrev pub verdict_text : Verdict → List ℕ
verdict_text (Bad fault) = bad_text fault
verdict_text Padding = codes "padding"
verdict_text Disabled = codes "disabled"
verdict_text BadEntry = codes "bad-entry"
verdict_text WrongFlash = codes "wrong-flash"
verdict_text App = codes "app"

-- the line of an object of a flash image
unfoldable pub object_text : List ℕ → Found → List ℕ
object_text flash f =
    codes "object " ++ (decimal f.offset
    ++ (codes " " ++ (decimal f.size
    ++ (codes " " ++ (verdict_text f.verdict
    ++ (codes " " ++ (name_text (name_of (object_at flash f.offset f.size)) ++ newline)))))))

-- the whole list, by the flash image alone: a line for each object, and the one of how many there are
unfoldable pub list_text : List ℕ → List ℕ
list_text flash =
    flat_map (object_text flash) (objects flash)
    ++ (codes "objects " ++ (decimal (length (objects flash)) ++ newline))
