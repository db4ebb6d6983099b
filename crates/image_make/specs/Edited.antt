-- What an edit leaves of an image, in bytes and as it is walked (Tock Binary Format, "TBF Header Base"; the edits are
-- this tool's own).
use Rattle.std.specs.Prelude.{◌≡◌, ◌≢◌, IsSomeAnd, ◌<◌, ◌≤◌, ◌⊎◌, ℕ, ◌+◌, ◌/◌, ◌%◌, Bool, true, false}
use Rattle.std.specs.Prelude.{if◌then◌else◌, List}
use Rattle.std.specs.Prelude.{length, map, slice_index, is_some, Some, Ok}
use Rattle.tk_base.specs.Numbers.{rounded_up}
use Rattle.tbf_headers.specs.Numbers.{word_at}
use Rattle.tbf_headers.specs.Meaning.{meaning_of}
use Rattle.flash_walk.specs.declared.found.Found.{Found}
use Rattle.flash_walk.specs.declared.found.Verdict.TheVariants.{Disabled}
use Rattle.flash_walk.specs.Image.{objects}
use Rattle.image_make.specs.Edits.{with_enabled}
use Rattle.image_make.specs.Images.{with_reading}
use Rattle.image_make.specs.Outcomes.{sound_found, found_bytes, enabled, place_for, with_name}
use Rattle.image_make.specs.Laws.{AreBytes}
use Rattle.image_make.specs.Parts.{object_found}

-- a place outside of a range
abbrev pub IsOutside : ℕ → ℕ → ℕ → Type 0
IsOutside from to k = (k < from) ⊎ (to ≤ k)

-- An image, and what it is after its object was enabled or disabled: as long as before, other in the flags and the
-- checksum of that object alone. Of the flags bit 0 is set, or clear, and all others are as they were. It is walked as
-- before, but that the flags of that object are read so: one that has an entry is found disabled once it was, and none
-- is that was enabled.
pub record IsEnabledTo (on : Bool) (flash after : List ℕ) (f : Found) : Type 0 where
  pub size : length after ≡ length flash
  pub bytes : (k : ℕ) → IsOutside (f.offset + 8) (f.offset + 16) k → slice_index after k ≡ slice_index flash k
  pub bit : word_at (found_bytes f after) 8 % 2 ≡ (if on then 1 else 0)
  pub others : word_at (found_bytes f after) 8 / 2 ≡ word_at (found_bytes f flash) 8 / 2
  pub walked :
      let object = found_bytes f flash in
      let flags = with_enabled on (word_at object 8) in
      objects after ≡ map (with_reading f.offset (Ok (record (meaning_of object) { flags = flags }))) (objects flash)
  pub off : on ≡ false → is_some (meaning_of (found_bytes f flash)).main ≡ true →
      IsSomeAnd (object_found f.offset (objects after)) (λ g. g.verdict ≡ Disabled)
  pub on_again : on ≡ true → IsSomeAnd (object_found f.offset (objects after)) (λ g. g.verdict ≢ Disabled)

-- so it is with what enabling or disabling it leaves
abbrev pub IsEnabled : Bool → List ℕ → Found → Type 0
IsEnabled on flash f = IsEnabledTo on flash (enabled on flash f) f

-- so it is with each image and each object of it that has no fault
abbrev pub EnabledIsWalked : Type 0
EnabledIsWalked =
    (on : Bool) (flash : List ℕ) (at : ℕ) (f : Found) → AreBytes flash → sound_found at (objects flash) ≡ Some f
    → IsEnabled on flash f

-- the same of an image whose object gets another name
pub record IsGiven (name flash : List ℕ) (f : Found) (at : ℕ) : Type 0 where
  pub size : length (with_name name flash f at) ≡ length flash
  pub bytes : (k : ℕ) → IsOutside (f.offset + 12) (f.offset + 16) k
      → IsOutside (f.offset + at + 2) (f.offset + at + 4 + rounded_up (length name)) k
      → slice_index (with_name name flash f at) k ≡ slice_index flash k
  pub walked : objects (with_name name flash f at)
      ≡ map (with_reading f.offset (Ok (record (meaning_of (found_bytes f flash)) { name = Some name })))
      (objects flash)

-- so it is with each image, and a name that the object has the place for
abbrev pub GivenIsWalked : Type 0
GivenIsWalked =
    (name flash : List ℕ) (offset : ℕ) (f : Found) (at : ℕ) → AreBytes flash → AreBytes name → length name ≤ 32 →
    sound_found offset (objects flash) ≡ Some f → place_for name (found_bytes f flash) ≡ Some at
    → IsGiven name flash f at

-- what enabling or disabling the object at an offset leaves of an image: there is one, whose header has no fault, and
-- what is left is that image
abbrev pub LeavesEnabled : Bool → ℕ → List ℕ → List ℕ → Type 0
LeavesEnabled on offset flash after =
    IsSomeAnd (sound_found offset (objects flash)) (λ f. (after ≡ enabled on flash f) × IsEnabled on flash f)

-- and giving it another name: its own is as long
abbrev pub LeavesGiven : List ℕ → ℕ → List ℕ → List ℕ → Type 0
LeavesGiven name offset flash after =
    IsSomeAnd (sound_found offset (objects flash)) (λ f.
    IsSomeAnd (place_for name (found_bytes f flash)) (λ at.
    (after ≡ with_name name flash f at) × IsGiven name flash f at))
