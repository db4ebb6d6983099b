use Rattle.std.specs.Prelude.{ℕ, ◌+◌, Bool, ◌&&◌, nat_le, nat_lt, if◌then◌else◌, List, [], ◌∷◌, Option, None, Some}
use Rattle.std.specs.List.{find, list_any, list_all}
use Rattle.tk_base.specs.declared.access.Access.{Access}
use Rattle.tk_base.specs.declared.access.Access.TheVariants.{Fetch, Load, Store}
use Rattle.tk_base.specs.declared.access.Rule.{Rule}
use Rattle.tk_base.specs.declared.access.Rule.TheVariants.{NoRegion, NoExecute, NoRead, NoWrite}
use Rattle.tk_base.specs.declared.access.Width.{Width}
use Rattle.tk_base.specs.declared.access.Width.TheVariants.{Byte, Half, Word}
use Rattle.pmp_regions.specs.declared.Entry.{Entry}
use Rattle.pmp_regions.specs.Entries.{pmp_entry, is_tor, bottom_of, top_of}

-- The privileged RISC-V manual, "Physical Memory Protection".

-- the addresses of the bytes of an access
abbrev pub addresses_of : ℕ → Width → List ℕ
addresses_of at Byte = at ∷ []
addresses_of at Half = at ∷ (at + 1) ∷ []
addresses_of at Word = at ∷ (at + 1) ∷ (at + 2) ∷ (at + 3) ∷ []

-- "Address Matching": an entry that is OFF matches no address. A TOR entry matches the addresses
-- from the address register below it, or 0, up to but not including its own.
abbrev pub matches : List Entry → ℕ → ℕ → Bool
matches pmp i address =
    is_tor (pmp_entry pmp i).mode && nat_le (bottom_of pmp i) address && nat_lt address (top_of pmp i)

unfoldable pub matches_any : List Entry → ℕ → ℕ → Width → Bool
matches_any pmp i at width = list_any (matches pmp i) (addresses_of at width)

unfoldable pub matches_all : List Entry → ℕ → ℕ → Width → Bool
matches_all pmp i at width = list_all (matches pmp i) (addresses_of at width)

-- the numbers of the entries
abbrev pub numbers : List ℕ
numbers = 0 ∷ 1 ∷ 2 ∷ 3 ∷ 4 ∷ 5 ∷ 6 ∷ 7 ∷ []

-- "Priority and Matching Logic": the lowest-numbered entry that matches any byte of an access
-- decides whether it succeeds
unfoldable pub deciding : List Entry → ℕ → Width → Option ℕ
deciding pmp at width = find (λ i. matches_any pmp i at width) numbers

-- the rule of the permission bit that an entry lacks
abbrev pub lacking : Entry → Access → Option Rule
lacking entry Fetch = if entry.execute then None else Some NoExecute
lacking entry Load = if entry.read then None else Some NoRead
lacking entry Store = if entry.write then None else Some NoWrite

-- that entry must match all bytes, and its permission bit for the access must be set. With no such
-- entry an access from user mode fails.
abbrev pub denied_by_entry : List Entry → Access → ℕ → Width → Option ℕ → Option Rule
denied_by_entry pmp access at width None = Some NoRegion
denied_by_entry pmp access at width (Some i) =
    if matches_all pmp i at width then lacking (pmp_entry pmp i) access else Some NoRegion

-- why the registers deny an access from user mode, if they do
abbrev pub denied_by_registers : List Entry → Access → ℕ → Width → Option Rule
denied_by_registers pmp access at width = denied_by_entry pmp access at width (deciding pmp at width)
