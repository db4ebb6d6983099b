-- An access meets a range, and lies in it, by the words that it touches.
use Rattle.std.proofs.Common.{◌≡◌, ℕ, ◌+◌, ◌-◌, ◌*◌, ◌/◌, ◌<◌, List, ◌&&◌, nat_le, nat_lt, refl, ◌∙◌, arith}
use Rattle.std.proofs.lemmas.Bool.Decides.{nat_tests}
use Rattle.tk_base.specs.declared.access.Width.{Width}
use Rattle.tk_base.specs.declared.access.Width.TheVariants.{Byte, Half, Word}
use Rattle.tk_base.specs.Access.{width_bytes}
use Rattle.pmp_regions.specs.declared.Entry.{Entry}
use Rattle.pmp_regions.specs.declared.Span.TheInside.{Inside}
use Rattle.pmp_regions.specs.Entries.{pmp_entry, is_tor, bottom_word}
use Rattle.pmp_regions.specs.Check.{matches_any, matches_all}
use Rattle.pmp_regions.specs.Spans.{IsSpan}
use Rattle.pmp_regions.proofs.Intervals.{matches_any_within, matches_all_within}

pub some_bytes : (width : Width) → 0 < width_bytes width
some_bytes Byte = omega arith
some_bytes Half = omega arith
some_bytes Word = omega arith

-- the tests on addresses are tests on words
below : (b t : ℕ) → nat_lt (4 * b) (4 * t) ≡ nat_lt b t
below b t = grind (arith, nat_tests)

meets_last : (b at size last : ℕ) → 0 < size → last ≡ (at + size - 1) / 4 → nat_lt (4 * b) (at + size) ≡ nat_le b last
meets_last b at size last some e =
    let q : 4 * b < at + size → b * 4 < at + size = λ h. omega arith in grind (arith, nat_tests)

meets_first : (t at first : ℕ) → first ≡ at / 4 → nat_lt at (4 * t) ≡ nat_lt first t
meets_first t at first e = grind (arith, nat_tests)

holds_first : (b at first : ℕ) → first ≡ at / 4 → nat_le (4 * b) at ≡ nat_le b first
holds_first b at first e = grind (arith, nat_tests)

holds_last : (t at size last : ℕ) → 0 < size → last ≡ (at + size - 1) / 4 → nat_le (at + size) (4 * t) ≡ nat_lt last t
holds_last t at size last some e = grind (arith, nat_tests)

pub any_of_words : (pmp : List Entry) (i : ℕ) (s : Inside) → IsSpan s
    → matches_any pmp i s.at s.width
    ≡ (is_tor (pmp_entry pmp i).mode && nat_lt (bottom_word pmp i) (pmp_entry pmp i).address
    && nat_le (bottom_word pmp i) s.last && nat_lt s.first (pmp_entry pmp i).address)
any_of_words pmp i s h =
    matches_any_within pmp i s.at s.width
    ∙ rw (
      below (bottom_word pmp i) (pmp_entry pmp i).address,
      meets_last (bottom_word pmp i) s.at (width_bytes s.width) s.last (some_bytes s.width) h.last,
      meets_first (pmp_entry pmp i).address s.at s.first h.first,
    ) refl

pub all_of_words : (pmp : List Entry) (i : ℕ) (s : Inside) → IsSpan s
    → matches_all pmp i s.at s.width
    ≡ (is_tor (pmp_entry pmp i).mode && nat_le (bottom_word pmp i) s.first && nat_lt s.last (pmp_entry pmp i).address)
all_of_words pmp i s h =
    matches_all_within pmp i s.at s.width
    ∙ rw (
      holds_first (bottom_word pmp i) s.at s.first h.first,
      holds_last (pmp_entry pmp i).address s.at (width_bytes s.width) s.last (some_bytes s.width) h.last,
    ) refl
