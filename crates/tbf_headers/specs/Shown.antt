-- What a header that was read shows.
use Rattle.std.specs.Prelude.{◌≡◌, ℕ, ◌%◌, ◌<◌, ◌≤◌, List, length, option_map, Result, Ok, Err}
use Rattle.std.specs.Option.{option_copied}
use Rattle.tbf_headers.specs.declared.fault.HeaderFault.{HeaderFault}
use Rattle.tbf_headers.specs.declared.header.Header.{Header}
use Rattle.tbf_headers.specs.declared.perms.Perms.{Perms}
use Rattle.tbf_headers.specs.declared.regions.Regions.{Regions}
use Rattle.tbf_headers.specs.Numbers.{half, word_at}
use Rattle.tbf_headers.specs.Parts.{first_bad}
use Rattle.tbf_headers.specs.Meaning.{Meaning, header_reading, header_of, meaning_of}
use Rattle.tbf_headers.specs.Parts.{unless_bad}

-- the content of the Permissions TLV
abbrev pub permissions_shown : Perms → List ℕ
permissions_shown p = p.content.now

-- the content of the TLV of writeable flash regions
abbrev pub regions_of : Regions → List ℕ
regions_of r = r.content.now

-- the meaning that a header shows
abbrev pub shown : Header → Meaning
shown h = record {
  header_size = h.header_size;
  total_size = h.total_size;
  flags = h.flags;
  main = h.main;
  fixed = h.fixed;
  name = option_copied h.name;
  regions = option_map regions_of h.regions;
  permissions = option_map permissions_shown h.perms;
}

-- the meaning that was read, or the fault
abbrev pub shown_result : Result Header HeaderFault → Result Meaning HeaderFault
shown_result (Ok h) = Ok (shown h)
shown_result (Err fault) = Err fault

-- these are the header's bytes, and only a bad TLV may be wrong with them
pub record IsChecked (bytes header : List ℕ) : Type 0 where
  pub long : 16 ≤ half bytes 2
  pub within : half bytes 2 ≤ word_at bytes 4
  pub total : word_at bytes 4 ≤ length bytes
  pub total_aligned : word_at bytes 4 % 4 ≡ 0
  pub whole : header ≡ header_of bytes
  pub aligned : length header % 4 ≡ 0
  pub short : length header < 65536
  pub read : header_reading bytes ≡ unless_bad (first_bad header) (meaning_of bytes)

-- the sizes of a header that was read from these bytes
pub record IsSized (bytes : List ℕ) (h : Header) : Type 0 where
  pub long : 16 ≤ h.header_size
  pub within : h.header_size ≤ h.total_size
  pub whole : h.total_size ≤ length bytes
  pub header_aligned : h.header_size % 4 ≡ 0
  pub total_aligned : h.total_size % 4 ≡ 0
