-- What the calls that edit an image leave of it, and where each refuses. Flags and names are those of the Tock Binary
-- Format; the refusals are this tool's own.
use Rattle.std.specs.Prelude.{◌≡◌, ℕ, ◌%◌, ◌==◌, ◌&&◌, nat_le, Bool, true, false, if◌then◌else◌, List, length, Option}
use Rattle.std.specs.Prelude.{find, Some, None, Result, Ok, Err, option_and_then, MatchResult, ◌+◌, ◌≤◌}
use Rattle.std.specs.List.{list_all}
use Rattle.std.specs.Option.{option_map_or}
use Rattle.tk_base.specs.Numbers.{rounded_up}
use Rattle.tbf_headers.specs.Numbers.{half, word_at}
use Rattle.tbf_headers.specs.Objects.{object_at}
use Rattle.tbf_headers.specs.Tlv.{first_of, length_at}
use Rattle.tbf_headers.specs.Meaning.{header_of, meaning_of, header_reading}
use Rattle.flash_walk.specs.declared.found.Found.{Found}
use Rattle.flash_walk.specs.declared.found.Verdict.{Verdict}
use Rattle.flash_walk.specs.declared.found.Verdict.TheVariants.{Bad}
use Rattle.flash_walk.specs.Image.{objects}
use Rattle.image_make.specs.declared.edits.EditFault.{EditFault}
use Rattle.image_make.specs.declared.edits.EditFault.TheVariants.{NoObject, Name, Length}
use Rattle.image_make.specs.Edits.{with_enabled, with_flags, replaced, renamed}

-- whether an object has a bad header
abbrev pub has_fault : Verdict → Bool
has_fault (Bad fault) = true
has_fault other = false

-- the object at an offset, where there is one whose header has no fault
abbrev pub sound_found : ℕ → List Found → Option Found
sound_found offset found =
    option_and_then (λ f. if has_fault f.verdict then None else Some f) (find (λ f. f.offset == offset) found)

-- the bytes of an object that was found
abbrev pub found_bytes : Found → List ℕ → List ℕ
found_bytes f flash = object_at flash f.offset f.size

-- what is known of an object that is edited
pub record IsSoundObject (flash : List ℕ) (f : Found) : Type 0 where
  pub large : 16 ≤ f.size
  pub within : f.offset + f.size ≤ length flash
  pub long : length (found_bytes f flash) ≡ f.size
  pub version : half (found_bytes f flash) 0 ≡ 2
  pub total : word_at (found_bytes f flash) 4 ≡ f.size
  pub header : half (found_bytes f flash) 2 ≤ f.size
  pub aligned : half (found_bytes f flash) 2 % 4 ≡ 0
  pub read : header_reading (found_bytes f flash) ≡ Ok (meaning_of (found_bytes f flash))

-- an image in which an object that was found is enabled, or disabled
unfoldable pub enabled : Bool → List ℕ → Found → List ℕ
enabled on flash f =
    replaced flash f.offset (with_flags (with_enabled on (word_at (found_bytes f flash) 8)) (found_bytes f flash))

-- what comes of enabling or disabling the object at an offset, where there is one
abbrev pub enabling : Bool → ℕ → List ℕ → Result (List ℕ) EditFault
enabling on offset flash =
    option_map_or (λ f. Ok (enabled on flash f)) (sound_found offset (objects flash)) (Err NoObject)

-- whether a package name may be given: 1 to 32 bytes of visible ASCII
abbrev pub may_name : List ℕ → Bool
may_name name =
    nat_le 1 (length name) && nat_le (length name) 32 && list_all (λ byte. nat_le 0x21 byte && nat_le byte 0x7E) name

-- where the name of an object stands, if it is as long as this one; both lengths are rounded up to 4
abbrev pub place_for : List ℕ → List ℕ → Option ℕ
place_for name object =
    option_and_then
    (λ at. if rounded_up (length name) == rounded_up (length_at (header_of object) at) then Some at else None)
    (first_of 3 (header_of object))

-- an image in which an object that was found has another name
unfoldable pub with_name : List ℕ → List ℕ → Found → ℕ → List ℕ
with_name name flash f at = replaced flash f.offset (renamed at name (found_bytes f flash))

-- what comes of renaming the object at an offset: it gets the name, or is refused where its own has another length
abbrev pub renaming : List ℕ → ℕ → List ℕ → Result (List ℕ) EditFault
renaming name offset flash =
    option_map_or (λ f. if may_name name
    then option_map_or (λ at. Ok (with_name name flash f at)) (place_for name (found_bytes f flash)) (Err Length)
    else Err Name) (sound_found offset (objects flash)) (Err NoObject)

-- what is known of the place of a name in an object
pub record IsNamePlace (object name : List ℕ) (at : ℕ) : Type 0 where
  pub low : 16 ≤ at
  pub fits : at + 4 + rounded_up (length name) ≤ half object 2

-- an edit leaves what it is to leave, or is refused and leaves all as it was
abbrev pub Edits : Result (List ℕ) EditFault → List ℕ → List ℕ → Result (Unit {0}) EditFault → Type 0
Edits wanted old new result = MatchResult result (λ _. wanted ≡ Ok new) (λ fault. (wanted ≡ Err fault) × (new ≡ old))
