-- What the bytes of an object's header mean, or the first fault in them (Tock Binary Format, "TBF Header Base").
use Rattle.std.specs.Prelude.{ℕ, ◌+◌, ◌*◌, ◌/◌, ◌%◌, ◌==◌, Bool, not, ◌||◌, nat_lt, if◌then◌else◌, List, length, take}
use Rattle.std.specs.Prelude.{find, Option, Some, None, option_and_then, option_map, Result, Ok, Err}
use Rattle.std.specs.Result.{result_ok}
use Rattle.std.specs.Option.{option_map_or}
use Rattle.tbf_headers.specs.declared.fault.HeaderFault.{HeaderFault}
use Rattle.tbf_headers.specs.declared.fault.HeaderFault.TheVariants.{Short, Version, Sizes, Checksum, Tlv}
use Rattle.tbf_headers.specs.declared.program.Main.{Main}
use Rattle.tbf_headers.specs.Numbers.{half, word_at, checksum}
use Rattle.tbf_headers.specs.Tlv.{content, is_bad, tlv_places}

-- what a header says: its size and the object's, its flags, and of each TLV that it has the content
pub record Meaning : Type 0 where
  pub header_size : ℕ
  pub total_size : ℕ
  pub flags : ℕ
  -- Program, or else Main
  pub main : Option Main
  -- the RAM start and the flash start; 0xFFFFFFFF for none
  pub fixed : Option (ℕ × ℕ)
  -- the contents of the first TLV of these types
  pub name : Option (List ℕ)
  pub regions : Option (List ℕ)
  pub permissions : Option (List ℕ)

-- the content of Main
abbrev pub main_of : List ℕ → Main
main_of c = record { init = word_at c 0; protected = word_at c 4; minimum_ram = word_at c 8; binary_end = None }

-- Program takes precedence over Main: its content is the same, and then the binary's end
abbrev pub program_or_main : Option (List ℕ) → Option (List ℕ) → Option Main
program_or_main (Some program) main = Some (record (main_of program) { binary_end = Some (word_at program 12) })
program_or_main None main = option_map main_of main

-- the total size is 0, beyond the bytes or no multiple of 4, or the header size is below 16, above the total
-- or no multiple of 4
abbrev pub has_bad_sizes : List ℕ → Bool
has_bad_sizes bytes =
    word_at bytes 4 == 0 || nat_lt (length bytes) (word_at bytes 4) || not (word_at bytes 4 % 4 == 0)
    || nat_lt (half bytes 2) 16
    || nat_lt (word_at bytes 4) (half bytes 2) || not (half bytes 2 % 4 == 0)

-- the bytes of the header
abbrev pub header_of : List ℕ → List ℕ
header_of bytes = take (half bytes 2) bytes

-- the meaning of bytes that have no fault
unfoldable pub meaning_of : List ℕ → Meaning
meaning_of bytes = record {
  header_size = half bytes 2;
  total_size = word_at bytes 4;
  flags = word_at bytes 8;
  main = program_or_main (content 9 (header_of bytes)) (content 1 (header_of bytes));
  fixed = option_map (λ c. (word_at c 0, word_at c 4)) (content 5 (header_of bytes));
  name = content 3 (header_of bytes);
  regions = content 2 (header_of bytes);
  permissions = content 6 (header_of bytes);
}

-- the meaning of an object's bytes, or the first fault, in this order
unfoldable pub header_reading : List ℕ → Result Meaning HeaderFault
header_reading bytes =
    if nat_lt (length bytes) 16 then Err Short
    else (if not (half bytes 0 == 2) then Err Version
    else (if has_bad_sizes bytes then Err Sizes
    else (if not (word_at bytes 12 == checksum (header_of bytes)) then Err Checksum
    else option_map_or (λ at. Err (Tlv at)) (find (is_bad (header_of bytes)) (tlv_places (header_of bytes)))
    (Ok (meaning_of bytes)))))

-- writeable flash region n (Tock Binary Format, "Writeable Flash Regions"): pairs of offset and size
abbrev pub region_in : ℕ → List ℕ → Option (ℕ × ℕ)
region_in n c = if nat_lt n (length c / 8) then Some (word_at c (8 * n), word_at c (8 * n + 4)) else None

-- how many regions there are
abbrev pub region_count : Option (List ℕ) → ℕ
region_count None = 0
region_count (Some c) = length c / 8

-- what follows from a header that can be read and says where its application starts
abbrev pub of_app : {A : Type 0} → (Meaning → Main → A) → Result Meaning HeaderFault → Option A
of_app f (Ok h) = option_map (f h) h.main
of_app f (Err fault) = None

-- where an application starts, as its header says, if it can be read and says so
abbrev pub main_by : Result Meaning HeaderFault → Option Main
main_by (Ok h) = h.main
main_by (Err fault) = None

-- the entries of the Permissions TLV, if the header can be read and has one
abbrev pub permissions_by : Result Meaning HeaderFault → Option (List ℕ)
permissions_by read = option_and_then (λ h. h.permissions) (result_ok read)
