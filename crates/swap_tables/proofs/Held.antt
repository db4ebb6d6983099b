-- The pair of a driver that has been entered.
use Rattle.std.proofs.Common.{arith, ap, sym, subst, ◌∙◌, ◌≡◌, ◌<◌, ◌^◌, ◌≤◌, ℕ, ◌+◌, ◌*◌, ◌/◌, List, length, get_or}
use Rattle.std.proofs.Common.{set, Some}
use Rattle.tk_base.specs.declared.upcall.Counts.{Counts}
use Rattle.grant_values.specs.Words.{WordsInBytes, bytes_of_words, words_of}
use Rattle.grant_values.specs.Drivers.{counts_of}
use Rattle.tk_base.specs.declared.kinds.PairKind.{PairKind}
use Rattle.grant_model.specs.declared.places.Area.{Area}
use Rattle.tk_base.specs.Kinds.{count_of}
use Rattle.tk_base.specs.Places.{pair_place}
use Rattle.grant_model.specs.Grants.{shape_of, with_grant, with_pair}
use Rattle.grant_values.specs.ByNumber.{counts_or_none}
use Rattle.grant_model.specs.Encoding.{EncodesGrants, Tells, area_of, decode_grants}
use Rattle.grant_model.specs.Laws.{ArePair, PairsAreFound}
use Rattle.swap_tables.specs.Swaps.{IsPair, held_pair}

pub shape-is : (driver : ℕ) (counts : Counts) → counts_of driver ≡ Some counts → shape_of driver ≡ counts
unfolding shape_of
shape-is driver counts is = ap counts_or_none is

-- the pair that two words of the kernel's bytes are
pub record HeldAt (at : ℕ) (kind : PairKind) (driver number : ℕ) (kernel : List ℕ) : Type 0 where
  pub within : 4 * at + 8 ≤ length kernel
  pub read : (get_or (words_of kernel) at 0, get_or (words_of kernel) (at + 1) 0) ≡ held_pair kind driver number kernel
  pub put : (pair : ℕ × ℕ) (kernel' : List ℕ) → pair.0 < 2 ^ 32 → pair.1 < 2 ^ 32
      → ((ws : List ℕ) → kernel ≡ bytes_of_words ws → kernel' ≡ bytes_of_words (set (set ws at pair.0) (at + 1) pair.1))
      → Tells kernel' (with_grant driver (with_pair kind number pair) (decode_grants kernel))

pub held : WordsInBytes → PairsAreFound
    → (at : ℕ) (kind : PairKind) (driver number : ℕ) (counts : Counts) (kernel : List ℕ) (area : Area)
    → EncodesGrants kernel → Some area ≡ area_of driver (decode_grants kernel) → IsPair kind driver counts number
    → at ≡ area.offset / 4 + 2 + 2 * pair_place kind number counts → HeldAt at kind driver number kernel
held words law at kind driver number counts kernel area is found pair e =
    let k = shape-is driver counts pair.counts_are in
    let h = law.at kind driver number kernel area is found (subst (λ c. number < count_of kind c) (sym k) pair.below) in
    let there : at ≡ area.offset / 4 + 2 + 2 * pair_place kind number (shape_of driver) =
    e ∙ ap (λ c. area.offset / 4 + 2 + 2 * pair_place kind number c) (sym k) in
    let g = subst (λ i. ArePair kernel i kind driver number) (sym there) h in
    record {
      within = inside at (length (words_of kernel)) (length kernel) g.within (words.count kernel);
      read = both _ _ (held_pair kind driver number kernel) g.first g.second;
      put = λ p kernel' a b new.
          subst (λ bytes. Tells bytes (with_grant driver (with_pair kind number p) (decode_grants kernel)))
          (sym (new (words_of kernel) g.bytes)) (g.put p a b);
    }
  where
    inside : (at w l : ℕ) → at + 1 < w → w ≡ l / 4 → 4 * at + 8 ≤ l
    inside at w l h e = omega arith

    both : (a b : ℕ) (p : ℕ × ℕ) → a ≡ p.0 → b ≡ p.1 → (a, b) ≡ p
    both a b p e f = ap (λ z. (z, b)) e ∙ ap (λ z. (p.0, z)) f
