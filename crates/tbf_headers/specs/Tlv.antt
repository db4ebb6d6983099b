-- The TLVs of a header (Tock Binary Format, "TLV Elements"): type u16, length u16, content padded to a
-- multiple of 4. They stand from place 16 to the header's end. Places are counted from the header's start.
use Rattle.std.specs.Prelude.{ℕ, zero, suc, ◌+◌, ◌-◌, ◌*◌, ◌==◌, Bool, ◌||◌, ◌&&◌, nat_lt, nat_le, if◌then◌else◌, List}
use Rattle.std.specs.Prelude.{[], ◌∷◌, length, find, slice_range, Option, option_map}
use Rattle.tk_base.specs.Numbers.{rounded_up}
use Rattle.tbf_headers.specs.Numbers.{half}

-- the length of the content of the TLV at a place, which stands after its type
abbrev pub length_at : List ℕ → ℕ → ℕ
length_at header at = half header (at + 2)

-- the places of the TLVs from a place on, no more than the number: none at the header's end, and each next one behind
-- the padded content
unfoldable pub tlv_places_from : ℕ → List ℕ → ℕ → List ℕ
tlv_places_from zero header at = []
tlv_places_from (suc n) header at =
    if nat_le (length header) at then [] else at ∷ tlv_places_from n header (at + 4 + rounded_up (length_at header at))

-- the places of all TLVs of a header
abbrev pub tlv_places : List ℕ → List ℕ
tlv_places header = tlv_places_from (length header - 16) header 16

-- the shortest content of a TLV of each type: Main, Fixed addresses, Program, Permissions
abbrev pub least_length : ℕ → ℕ
least_length kind =
    if kind == 1 then 12 else (if kind == 5 then 8 else (if kind == 9 then 20 else (if kind == 6 then 2 else 0)))

-- a TLV is bad where its content passes the header's end, where it is too short for its type, or where it
-- is too short for the entries of Permissions that it counts
abbrev pub is_bad : List ℕ → ℕ → Bool
is_bad header at =
    nat_lt (length header) (at + 4 + length_at header at)
    || nat_lt (length_at header at) (least_length (half header at))
    || (half header at == 6 && nat_lt (length_at header at) (2 + 16 * half header (at + 4)))

-- the place of the first TLV of a type
abbrev pub first_of : ℕ → List ℕ → Option ℕ
first_of kind header = find (λ at. half header at == kind) (tlv_places header)

-- the content of the first TLV of a type, a slice of the header's bytes
abbrev pub content : ℕ → List ℕ → Option (List ℕ)
content kind header =
    option_map (λ at. slice_range header (at + 4) (at + 4 + length_at header at)) (first_of kind header)
