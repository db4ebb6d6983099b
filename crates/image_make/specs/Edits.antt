-- What the image tool writes in place of an object of a flash image (Tock Binary Format, "TBF Header Base").
use Rattle.std.specs.Prelude.{ℕ, ◌+◌, ◌-◌, ◌*◌, ◌/◌, Bool, true, false, List, ◌++◌, length, take, drop, replicate}
use Rattle.tk_base.specs.declared.access.Width.TheVariants.{Half, Word}
use Rattle.tk_base.specs.Bus.{put}
use Rattle.tk_base.specs.Numbers.{rounded_up}
use Rattle.tbf_headers.specs.Numbers.{checksum}
use Rattle.tbf_headers.specs.Meaning.{header_of}

-- flags with bit 0 set or clear
abbrev pub with_enabled : Bool → ℕ → ℕ
with_enabled true flags = flags / 2 * 2 + 1
with_enabled false flags = flags / 2 * 2

-- an object with the checksum that its header's words have
unfoldable pub mended : List ℕ → List ℕ
mended object = put object 12 Word (checksum (header_of object))

-- an object with other flags
unfoldable pub with_flags : ℕ → List ℕ → List ℕ
with_flags flags object = mended (put object 8 Word flags)

-- an image with other bytes at a place
unfoldable pub replaced : List ℕ → ℕ → List ℕ → List ℕ
replaced flash at object = take at flash ++ (object ++ drop (at + length object) flash)

-- a name with zeros up to a multiple of 4
abbrev pub padded : List ℕ → List ℕ
padded name = name ++ replicate (rounded_up (length name) - length name) 0

-- an object with another package name in place of the one whose element stands at a place
unfoldable pub renamed : ℕ → List ℕ → List ℕ → List ℕ
renamed at name object = mended (replaced (put object (at + 2) Half (length name)) (at + 4) (padded name))
