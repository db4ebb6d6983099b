-- An access meets a range exactly where their intervals meet, and lies in it exactly where its
-- interval does.
use Rattle.std.proofs.Common.{◌≡◌, ℕ, List, ◌+◌, Bool, true, false, ◌&&◌, nat_le, nat_lt, refl, arith}
use Rattle.std.specs.List.{list_any, list_all}
use Rattle.std.proofs.lemmas.Bool.Decides.{nat_tests}
use Rattle.tk_base.specs.declared.access.Width.{Width}
use Rattle.tk_base.specs.declared.access.Width.TheVariants.{Byte, Half, Word}
use Rattle.tk_base.specs.Access.{width_bytes}
use Rattle.pmp_regions.specs.declared.Entry.{Entry}
use Rattle.pmp_regions.specs.Entries.{pmp_entry, is_tor, bottom_of, top_of}
use Rattle.pmp_regions.specs.Check.{addresses_of, matches_any, matches_all}

pub any_within : (tor : Bool) (bottom top at : ℕ) (width : Width)
    → list_any (λ b. tor && nat_le bottom b && nat_lt b top) (addresses_of at width)
    ≡ (tor && nat_lt bottom top && nat_lt bottom (at + width_bytes width) && nat_lt at top)
any_within false bottom top at Byte = refl
any_within false bottom top at Half = refl
any_within false bottom top at Word = refl
any_within true bottom top at Byte = grind (arith, nat_tests)
any_within true bottom top at Half = grind (arith, nat_tests)
any_within true bottom top at Word = grind (arith, nat_tests)

pub all_within : (tor : Bool) (bottom top at : ℕ) (width : Width)
    → list_all (λ b. tor && nat_le bottom b && nat_lt b top) (addresses_of at width)
    ≡ (tor && nat_le bottom at && nat_le (at + width_bytes width) top)
all_within false bottom top at Byte = refl
all_within false bottom top at Half = refl
all_within false bottom top at Word = refl
all_within true bottom top at Byte = grind (arith, nat_tests)
all_within true bottom top at Half = grind (arith, nat_tests)
all_within true bottom top at Word = grind (arith, nat_tests)

pub matches_any_within : (pmp : List Entry) (i at : ℕ) (width : Width)
    → matches_any pmp i at width
    ≡ (is_tor (pmp_entry pmp i).mode && nat_lt (bottom_of pmp i) (top_of pmp i)
    && nat_lt (bottom_of pmp i) (at + width_bytes width) && nat_lt at (top_of pmp i))
unfolding matches_any
matches_any_within pmp i at width = any_within _ _ _ at width

pub matches_all_within : (pmp : List Entry) (i at : ℕ) (width : Width)
    → matches_all pmp i at width
    ≡ (is_tor (pmp_entry pmp i).mode && nat_le (bottom_of pmp i) at && nat_le (at + width_bytes width) (top_of pmp i))
unfolding matches_all
matches_all_within pmp i at width = all_within _ _ _ at width
