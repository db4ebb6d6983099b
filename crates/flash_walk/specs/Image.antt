-- The objects of a flash image. Each begins with a header (Tock Binary Format, "TBF Header Base"), and the next one
-- stands where its total size ends. What an application must have beside is the board's own rule, after the formats
-- of "Main", "Program" and "Fixed Addresses". Places are counted from the start of flash.
use Rattle.std.specs.Prelude.{◌≡◌, ◌≤◌, ℕ, zero, suc, ◌+◌, ◌-◌, ◌%◌, ◌==◌, Bool, false, not, ◌||◌, ◌&&◌, nat_lt, nat_le}
use Rattle.std.specs.Prelude.{if◌then◌else◌, List, [], ◌∷◌, length, Result, Ok, Err}
use Rattle.std.specs.Option.{option_map_or}
use Rattle.tk_base.specs.declared.access.TheConstants.{FLASH_START}
use Rattle.tk_base.specs.declared.limits.TheConstants.{OBJECT_LIMIT}
use Rattle.tbf_headers.specs.declared.fault.HeaderFault.{HeaderFault}
use Rattle.tbf_headers.specs.declared.program.Main.{Main}
use Rattle.tbf_headers.specs.Numbers.{half, word_at}
use Rattle.tbf_headers.specs.Meaning.{Meaning, header_reading}
use Rattle.tbf_headers.specs.Addresses.{after_protected, entry_of, accessible_start, accessible_end_of}
use Rattle.tbf_headers.specs.Objects.{object_at}
use Rattle.flash_walk.specs.declared.found.Found.{Found}
use Rattle.flash_walk.specs.declared.found.Verdict.{Verdict}
use Rattle.flash_walk.specs.declared.found.Verdict.TheVariants.{Bad, Padding, Disabled, BadEntry, WrongFlash, App}

-- the header and the protected bytes pass the object, the binary's end passes the object or stands before the end of
-- the protected bytes, or the entry is odd or outside accessible flash
abbrev pub has_bad_entry : ℕ → Meaning → Main → Bool
has_bad_entry start h m =
    nat_lt h.total_size (h.header_size + m.protected)
    || option_map_or (λ e. nat_lt h.total_size e || nat_lt e (h.header_size + m.protected)) m.binary_end false
    || entry_of start h m % 2 == 1
    || (nat_lt (entry_of start h m) (accessible_start start h m)
    || nat_le (accessible_end_of start h m) (entry_of start h m))

-- the first verdict that fits an object with a Program or a Main TLV: it is disabled, its entry is bad, or the flash
-- start that it is linked for, where there is one, is not where it stands
abbrev pub app_verdict : ℕ → Meaning → Main → Verdict
app_verdict start h m =
    if h.flags % 2 == 0 then Disabled
    else (if has_bad_entry start h m then BadEntry
    else (if option_map_or (λ fixed. not (fixed.1 == 4294967295) && not (fixed.1 == after_protected start h m))
    h.fixed false then WrongFlash
    else App))

-- the verdict on an object at an address, by what its bytes mean: one with neither of these TLVs is padding
abbrev pub verdict_of : ℕ → Result Meaning HeaderFault → Verdict
verdict_of start (Err fault) = Bad fault
verdict_of start (Ok h) = option_map_or (app_verdict start h) h.main Padding

-- the total size in the header at a place
abbrev pub size_at : List ℕ → ℕ → ℕ
size_at flash at = word_at flash (at + 4)

-- the bytes of the object at a place
abbrev pub object_bytes : List ℕ → ℕ → List ℕ
object_bytes flash at = object_at flash at (size_at flash at)

-- no object stands at a place: fewer than 16 bytes are left, the version is not 2, or the total size is below
-- 16, no multiple of 4 or beyond what is left
abbrev pub ends_at : List ℕ → ℕ → Bool
ends_at flash at =
    nat_lt (length flash - at) 16 || not (half flash at == 2) || nat_lt (size_at flash at) 16
    || not (size_at flash at % 4 == 0) || nat_lt (length flash - at) (size_at flash at)

-- the object at a place
unfoldable pub found_at : List ℕ → ℕ → Found
found_at flash at = record {
  offset = at;
  size = size_at flash at;
  verdict = verdict_of (FLASH_START + at) (header_reading (object_bytes flash at));
}

-- at most n objects from a place on
unfoldable pub objects_from : ℕ → List ℕ → ℕ → List Found
objects_from zero flash at = []
objects_from (suc n) flash at =
    if ends_at flash at then [] else found_at flash at ∷ objects_from n flash (at + size_at flash at)

-- the objects of a flash image, of which so many are found at most
abbrev pub objects : List ℕ → List Found
objects flash = objects_from OBJECT_LIMIT flash 0

-- what is known of each object that is found
pub record IsObject (flash : List ℕ) (f : Found) : Type 0 where
  pub large : 16 ≤ f.size
  pub within : f.offset + f.size ≤ length flash
  pub aligned : f.offset % 4 ≡ 0
  pub judged : f.verdict ≡ verdict_of (FLASH_START + f.offset) (header_reading (object_at flash f.offset f.size))
