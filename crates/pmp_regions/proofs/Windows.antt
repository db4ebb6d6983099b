-- An entry decides every access in its range, where no range below it reaches past its bottom.
use Rattle.std.proofs.Common.{◌≡◌, ℕ, ◌+◌, ◌-◌, ◌*◌, ◌%◌, ◌^◌, ◌<◌, ◌≤◌, List, Bool, true, false, ◌&&◌, nat_le, nat_lt}
use Rattle.std.proofs.Common.{IsTrue, None, refl, sym, subst, ◌∙◌, arith}
use Rattle.std.proofs.lemmas.Bool.Decides.{nat_tests}
use Rattle.tk_base.specs.declared.access.Access.{Access}
use Rattle.tk_base.specs.declared.access.Width.{Width}
use Rattle.tk_base.specs.Access.{width_bytes}
use Rattle.pmp_regions.specs.declared.Entry.{Entry}
use Rattle.pmp_regions.specs.Entries.{pmp_entry, is_tor, bottom_word, bottom_of, top_of}
use Rattle.pmp_regions.specs.Check.{lacking}
use Rattle.pmp_regions.specs.Windows.{Ends, window_holds, Permits, Decides, EndBy}
use Rattle.pmp_regions.proofs.Intervals.{matches_any_within, matches_all_within}
use Rattle.pmp_regions.proofs.Lowest.{NoneBelow, deciding_first}
use Rattle.pmp_regions.proofs.Words.{some_bytes}

meets_own : (b t at size : ℕ) → 0 < size → IsTrue (nat_le (4 * b) at && nat_le (at + size) (4 * t))
    → nat_lt (4 * b) (4 * t) && nat_lt (4 * b) (at + size) && nat_lt at (4 * t) ≡ true
meets_own b t at size some held = grind (arith, nat_tests)

past_end : (tor : Bool) (bottom top b t at size : ℕ) → (IsTrue tor → top ≤ b)
    → IsTrue (nat_le (4 * b) at && nat_le (at + size) (4 * t))
    → (tor && nat_lt (4 * bottom) (4 * top) && nat_lt (4 * bottom) (at + size) && nat_lt at (4 * top)) ≡ false
past_end false bottom top b t at size ends held = refl
past_end true bottom top b t at size ends held = let e : top ≤ b = ends refl in grind (arith, nat_tests)

none_below : (pmp : List Entry) (i at : ℕ) (width : Width) → EndBy pmp i (bottom_word pmp i)
    → IsTrue (nat_le (bottom_of pmp i) at && nat_le (at + width_bytes width) (top_of pmp i)) → NoneBelow pmp at width i
none_below pmp i at width ends held k below =
    matches_any_within pmp k at width
    ∙ past_end _ (bottom_word pmp k) (pmp_entry pmp k).address (bottom_word pmp i)
    (pmp_entry pmp i).address at (width_bytes width) (ends k below) held

pub decides_range : (pmp : List Entry) (i : ℕ) (w : Ends) → i < 8 → IsTrue (is_tor (pmp_entry pmp i).mode)
    → EndBy pmp i (bottom_word pmp i) → w ≡ record { from = bottom_of pmp i; to = top_of pmp i } → Decides pmp i w
decides_range pmp i w few tor ends window = subst (Decides pmp i) (sym window) record {
  decides = λ at width held.
      deciding_first pmp at width i few (none_below pmp i at width ends held)
      (matches_any_within pmp i at width
      ∙ rw tor (meets_own (bottom_word pmp i) (pmp_entry pmp i).address at (width_bytes width) (some_bytes width)
      held));
  matches = λ at width held. matches_all_within pmp i at width ∙ rw tor held;
}

-- one comparison of the place in a window, modulo 2^32, tells both bounds
place : (from length at size : ℕ) → from + length ≤ 2 ^ 32 → from < 2 ^ 32 → at < 2 ^ 32 → 0 < size
    → nat_le ((at + (2 ^ 32 - from)) % 2 ^ 32 + size) length ≡ nat_le from at && nat_le (at + size) (from + length)
place from length at size fits f a some = grind (arith, nat_tests)

pub place_tells : (from length at : ℕ) (width : Width) → from + length ≤ 2 ^ 32 → from < 2 ^ 32 → at < 2 ^ 32
    → nat_le ((at + (2 ^ 32 - from)) % 2 ^ 32 + width_bytes width) length
    ≡ window_holds (record { from = from; to = from + length }) at width
place_tells from length at width fits f a = place from length at (width_bytes width) fits f a (some_bytes width)

-- nothing lies in an empty window
none_held : (w : Ends) (at : ℕ) (width : Width) → w.to ≡ w.from → IsTrue (window_holds w at width) → ⊥
none_held w at width empty held = let some : 0 < width_bytes width = some_bytes width in grind (arith, nat_tests)

pub decides_none : (pmp : List Entry) (i : ℕ) (w : Ends) → w.to ≡ w.from → Decides pmp i w
decides_none pmp i w empty = record {
  decides = λ at width held. absurd (none_held w at width empty held);
  matches = λ at width held. absurd (none_held w at width empty held);
}

pub permits_by : (pmp : List Entry) (access : Access) (i : ℕ) (w : Ends) → Decides pmp i w
    → lacking (pmp_entry pmp i) access ≡ None → Permits pmp access w
permits_by pmp access i w d bit at width held = rw (d.decides at width held, d.matches at width held, bit) refl
