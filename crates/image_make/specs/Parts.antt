-- Only proofs use this: parts of the definitions by name, for the contracts of inner functions.
use Rattle.std.specs.Prelude.{ℕ, ◌+◌, ◌/◌, ◌^◌, ◌==◌, ◌&&◌, nat_le, Bool, if◌then◌else◌, List, ◌++◌, codes, decimal}
use Rattle.std.specs.Prelude.{find, length, Option, Some, None, Result, Err}
use Rattle.std.specs.Option.{option_map_or}
use Rattle.tk_base.specs.Numbers.{rounded_up}
use Rattle.tbf_headers.specs.Meaning.{header_of}
use Rattle.tbf_headers.specs.Tlv.{first_of, length_at}
use Rattle.flash_walk.specs.declared.found.Found.{Found}
use Rattle.image_make.specs.declared.packs.PackFault.{PackFault}
use Rattle.image_make.specs.Generator.{next_draw}
use Rattle.image_make.specs.Outcomes.{has_fault}

-- the draw after four
abbrev pub fourth : ℕ → ℕ
fourth x = next_draw (next_draw (next_draw (next_draw x)))

-- the script that a draw gives
abbrev pub script_line : ℕ → List ℕ
script_line d = codes "slice " ++ decimal (1 + d / 2 ^ 26) ++ codes "\n"

-- the object at an offset
abbrev pub object_found : ℕ → List Found → Option Found
object_found offset found = find (λ f. f.offset == offset) found

-- an object whose header has no fault
abbrev pub unless_faulty : Found → Option Found
unless_faulty f = if has_fault f.verdict then None else Some f

-- a byte of a package name that may be given
abbrev pub is_name_byte : ℕ → Bool
is_name_byte byte = nat_le 0x21 byte && nat_le byte 0x7E

-- where the package name of an object stands: the place of its first element of that type
abbrev pub name_place : List ℕ → Option ℕ
name_place object = first_of 3 (header_of object)

-- where a name of this length stands, rounded up to 4
abbrev pub if_as_long : List ℕ → List ℕ → ℕ → Option ℕ
if_as_long name object at =
    if rounded_up (length name) == rounded_up (length_at (header_of object) at) then Some at else None

-- an image with a file packed behind it and then others, or refused for that file
abbrev pub pack_next : Option PackFault → Result (List ℕ) PackFault → Result (List ℕ) PackFault
pack_next refusal rest = option_map_or Err refusal rest
