-- What edits of an object leave of its reading, and of the walk over the image (Tock Binary Format, "TBF Header Base";
-- the edits are this tool's own).
use Rattle.std.specs.Prelude.{◌≡◌, ◌<◌, ◌≤◌, ◌^◌, ℕ, ◌+◌, ◌*◌, ◌%◌, bit_xor, List, ◌++◌, length, map, slice_index, Some}
use Rattle.std.specs.Prelude.{Result, Ok}
use Rattle.tk_base.specs.declared.limits.TheConstants.{OBJECT_LIMIT}
use Rattle.tbf_headers.specs.declared.fault.HeaderFault.{HeaderFault}
use Rattle.tk_base.specs.declared.access.Width.TheVariants.{Word}
use Rattle.tk_base.specs.Bus.{put}
use Rattle.tbf_headers.specs.Numbers.{half, word_at, checksum}
use Rattle.tk_base.specs.Numbers.{rounded_up}
use Rattle.tbf_headers.specs.Tlv.{length_at}
use Rattle.tbf_headers.specs.Meaning.{Meaning, header_reading, header_of}
use Rattle.flash_walk.specs.declared.found.Found.{Found}
use Rattle.flash_walk.specs.Image.{verdict_of, objects}
use Rattle.image_make.specs.Edits.{with_flags, replaced, renamed}
use Rattle.image_make.specs.Parts.{name_place}
use Rattle.image_make.specs.Images.{found_with_bytes, covered, packed, moved, but_link}
use Rattle.image_make.specs.Parts.{object_found}

-- the items of a list are bytes
abbrev pub AreBytes : List ℕ → Type 0
AreBytes xs = (k : ℕ) → slice_index xs k < 256

-- other flags leave the reading as it was, but for the flags
abbrev pub FlagsAreRead : Type 0
FlagsAreRead =
    (object : List ℕ) (flags : ℕ) (m : Meaning) → AreBytes object → flags < 2 ^ 32 → header_reading object ≡ Ok m →
    header_reading (with_flags flags object) ≡ Ok (record m { flags = flags })

-- where the object at an offset gets other bytes of its size, the walk is as before but for its verdict
abbrev pub OneObjectChanges : Type 0
OneObjectChanges =
    (flash object : List ℕ) (at : ℕ) (f : Found) → object_found at (objects flash) ≡ Some f → length object ≡ f.size →
    half object 0 ≡ 2 → word_at object 4 ≡ f.size →
    objects (replaced flash at object) ≡ map (found_with_bytes at object) (objects flash)

-- a file that is packed behind an image which its walk covers: the lists follow one another, and again all is covered
pub record PacksAt (image file : List ℕ) : Type 0 where
  pub walked : objects (image ++ packed file) ≡ objects image ++ map (moved (length image) file) (objects file)
  pub whole : covered (objects (image ++ packed file)) ≡ length (image ++ packed file)

abbrev pub PackedIsWalked : Type 0
PackedIsWalked =
    (image file : List ℕ) → covered (objects image) ≡ length image →
    length (objects image) + length (objects file) ≤ OBJECT_LIMIT →
    PacksAt image file

-- a distance that is a multiple of 4 changes a verdict only to or from WrongFlash
abbrev pub MovedVerdict : Type 0
MovedVerdict =
    (distance at : ℕ) (r : Result Meaning HeaderFault) → distance % 4 ≡ 0 →
    but_link (verdict_of (distance + at) r) ≡ but_link (verdict_of at r)

-- another package name of the same rounded length leaves the reading as it was, but for the name
abbrev pub NamesAreRead : Type 0
NamesAreRead =
    (object name : List ℕ) (at : ℕ) (m : Meaning) → AreBytes object → AreBytes name → length name < 65536 →
    header_reading object ≡ Ok m → name_place object ≡ Some at →
    rounded_up (length name) ≡ rounded_up (length_at (header_of object) at) →
    header_reading (renamed at name object) ≡ Ok (record m { name = Some name })

-- the checksum of a header with another word at a place that is not the checksum's
abbrev pub ChecksumOfPut : Type 0
ChecksumOfPut =
    (header : List ℕ) (i v : ℕ) → (i ≡ 3 → ⊥) → 4 * i + 4 ≤ length header → v < 2 ^ 32 →
    checksum (put header (4 * i) Word v) ≡ bit_xor (checksum header) (bit_xor (word_at header (4 * i)) v)
