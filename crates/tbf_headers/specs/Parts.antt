-- Only proofs use this: parts of the definitions by name, for the contracts of inner functions.
use Rattle.std.specs.Prelude.{ℕ, ◌+◌, ◌==◌, Bool, List, find, Option, Some, Result, Ok, Err}
use Rattle.std.specs.Option.{option_map_or}
use Rattle.tk_base.specs.Numbers.{rounded_up}
use Rattle.tbf_headers.specs.declared.fault.HeaderFault.{HeaderFault}
use Rattle.tbf_headers.specs.declared.fault.HeaderFault.TheVariants.{Tlv}
use Rattle.tbf_headers.specs.declared.program.Main.{Main}
use Rattle.tbf_headers.specs.Meaning.{Meaning, main_of}
use Rattle.tbf_headers.specs.Numbers.{half, word_at}
use Rattle.tbf_headers.specs.Tlv.{is_bad, length_at, tlv_places}

-- the content of Program: that of Main, and then the binary's end
abbrev pub program_of : List ℕ → Main
program_of c = record (main_of c) { binary_end = Some (word_at c 12) }

-- the content of Fixed Addresses: where its RAM begins, and where its flash does
abbrev pub fixed_of : List ℕ → ℕ × ℕ
fixed_of c = (word_at c 0, word_at c 4)

-- the meaning, or that a TLV is bad
abbrev pub unless_bad : Option ℕ → Meaning → Result Meaning HeaderFault
unless_bad bad meaning = option_map_or (λ at. Err (Tlv at)) bad (Ok meaning)

-- the type of the TLV at a place
abbrev pub type_at : List ℕ → ℕ → ℕ
type_at header at = half header at

-- the TLV at a place is of a type
abbrev pub is_of_type : ℕ → List ℕ → ℕ → Bool
is_of_type kind header at = half header at == kind

-- where the TLV after the one at a place stands
abbrev pub place_after : List ℕ → ℕ → ℕ
place_after header at = at + 4 + rounded_up (length_at header at)

-- the first TLV that is bad
abbrev pub first_bad : List ℕ → Option ℕ
first_bad header = find (is_bad header) (tlv_places header)

-- the end of accessible flash: the object's, or with a Program header the binary's rounded up to 4
abbrev pub accessible_end : ℕ → ℕ → Option ℕ → ℕ
accessible_end start total binary = option_map_or (λ binary_end. rounded_up (start + binary_end)) binary (start + total)
