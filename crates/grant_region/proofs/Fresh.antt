-- A fresh area.
use Rattle.std.proofs.Common.{arith, refl, ap, sym, subst, ◌∙◌, ◌≡◌, ◌<◌, ◌^◌, ℕ, zero, suc, ◌+◌, ◌*◌, ◌/◌, List, []}
use Rattle.std.proofs.Common.{◌∷◌, ◌++◌, length, set, replicate, Option, None, Some}
use Rattle.std.specs.Prelude.{option_map}
use Rattle.std.specs.List.{AllByRecursion}
use Rattle.std.proofs.lemmas.List.{replicate-append-replicate, length-replicate, append-nil}
use Rattle.tk_base.specs.Kinds.{pair_count}
use Rattle.grant_values.specs.declared.drivers.Driver.{Driver}
use Rattle.grant_values.specs.declared.drivers.Driver.TheVariants as of
use Rattle.grant_values.specs.Words.{IsWord, bytes_of_words}
use Rattle.grant_values.specs.Drivers.{cost_of, counts_by, counts_of, driver_of}
use Rattle.grant_values.specs.Values.{fresh_by, fresh_value, value_by, value_words}
use Rattle.grant_model.specs.Grants.{shape_of, fresh}
use Rattle.grant_values.specs.ByNumber.{counts_or_none, value_or_none}
use Rattle.grant_model.specs.Encoding.{CanBeKept, body_size, padding_of, pair_words, padded_words, body_words, IsSound}
use Rattle.grant_model.specs.Encoding.{Tells}
use Rattle.grant_model.specs.Laws.{IsReadBack}
use Rattle.grant_region.specs.Region.{Costs}
use Rattle.grant_region.proofs.Costs.{known}
use Rattle.grant_region.proofs.Walk.{cost-words}

zero_pairs : (n : ℕ) → pair_words (replicate n (0, 0)) ≡ replicate (2 * n) 0
zero_pairs zero = refl
zero_pairs (suc n) =
    let e : 2 * suc n ≡ suc (suc (2 * n)) = omega arith in
    ap (λ z. 0 ∷ 0 ∷ z) (zero_pairs n) ∙ ap (λ m. replicate m 0) (sym e)

zero_words : (n : ℕ) → AllByRecursion IsWord (replicate n 0)
zero_words zero = tt
zero_words (suc n) = (omega arith, zero_words n)

-- what a driver keeps at first has words of zeros, and can be kept
zero_value : (driver : ℕ) → value_words (fresh_value driver) ≡ replicate ((shape_of driver).value / 4) 0
unfolding shape_of counts_of
zero_value driver = by_driver (driver_of driver)
  where
    by_driver : (found : Option Driver)
        → value_words (value_or_none fresh_by found)
        ≡ replicate ((counts_or_none (option_map counts_by found)).value / 4) 0
    by_driver None = refl
    by_driver (Some of.Alarm) = refl
    by_driver (Some other) = refl

value_back : (found : Option Driver)
    → value_or_none (value_by (value_words (value_or_none fresh_by found))) found ≡ value_or_none fresh_by found
value_back None = refl
value_back (Some of.Alarm) = refl
value_back (Some other) = refl

fresh_kept : (driver : ℕ) → CanBeKept driver (fresh_value driver)
fresh_kept driver = record {
  count = ap length (zero_value driver) ∙ length-replicate ((shape_of driver).value / 4) 0;
  words = subst (AllByRecursion IsWord) (sym (zero_value driver)) (zero_words ((shape_of driver).value / 4));
  told = value_back (driver_of driver);
}

fresh_body : (driver : ℕ) → body_words (fresh driver) ≡ replicate (body_size (shape_of driver)) 0
fresh_body driver =
    let k = shape_of driver in
    let n = 2 * pair_count k in
    let v = k.value / 4 in
    let e : n + (v + padding_of k) ≡ body_size k = omega arith in
    ap (λ z. z ++ padded_words (fresh driver)) (zero_pairs (pair_count k))
    ∙ ap (λ z. replicate n 0 ++ (z ++ replicate (padding_of k) 0)) (zero_value driver)
    ∙ ap (λ z. replicate n 0 ++ z) (replicate-append-replicate v (padding_of k) 0)
    ∙ replicate-append-replicate n (v + padding_of k) 0 ∙ ap (λ m. replicate m 0) e

zero_bytes : (n : ℕ) → replicate (4 * n) 0 ≡ bytes_of_words (replicate n 0)
zero_bytes zero = refl
zero_bytes (suc n) =
    let e : 4 * suc n ≡ suc (suc (suc (suc (4 * n)))) = omega arith in
    ap (λ m. replicate m 0) e ∙ ap (λ z. 0 ∷ 0 ∷ 0 ∷ 0 ∷ z) (zero_bytes n)

fresh_sound : (driver cost : ℕ) → Costs driver cost → driver < 2 ^ 32 → cost < 2 ^ 32 → IsSound (fresh driver)
fresh_sound driver cost is small fit =
    let k = known driver cost is in
    let n = pair_count (shape_of driver) in
    record {
      known = k.known;
      driver = small;
      pairs = length-replicate n (0, 0);
      words = subst (AllByRecursion IsWord) (sym (zero_pairs n)) (zero_words (2 * n));
      value = fresh_kept driver;
      cost = subst (λ c. c < 2 ^ 32) k.cost_is fit;
    }

-- zero bytes with driver and cost put in front are a fresh area
pub fresh_tells : IsReadBack → (driver cost : ℕ) (zeros one two : List ℕ) → Costs driver cost → driver < 2 ^ 32
    → cost < 2 ^ 32 → zeros ≡ replicate cost 0
    → ((ws : List ℕ) → zeros ≡ bytes_of_words ws → one ≡ bytes_of_words (set ws 0 driver))
    → ((ws : List ℕ) → one ≡ bytes_of_words ws → two ≡ bytes_of_words (set ws 1 cost)) → Tells two (fresh driver ∷ [])
fresh_tells law driver cost zeros one two costs small fit is first second =
    let k = known driver cost costs in
    let b = body_size (shape_of driver) in
    let n : cost ≡ 4 * suc (suc b) = k.cost_is ∙ cost-words (shape_of driver) ∙ omega arith in
    let words : zeros ≡ bytes_of_words (replicate (suc (suc b)) 0) =
    is ∙ ap (λ m. replicate m 0) n ∙ zero_bytes (suc (suc b)) in
    let put : two ≡ bytes_of_words (driver ∷ cost ∷ replicate b 0) =
    second (set (replicate (suc (suc b)) 0) 0 driver) (first (replicate (suc (suc b)) 0) words) in
    let body : body_words (fresh driver) ++ [] ≡ replicate b 0 =
    append-nil (body_words (fresh driver)) ∙ fresh_body driver in
    let bytes : two ≡ bytes_of_words (driver ∷ cost_of (shape_of driver) ∷ (body_words (fresh driver) ++ [])) =
    put ∙ ap (λ c. bytes_of_words (driver ∷ c ∷ replicate b 0)) k.cost_is
    ∙ ap (λ z. bytes_of_words (driver ∷ cost_of (shape_of driver) ∷ z)) (sym body) in
    subst (λ bytes. Tells bytes (fresh driver ∷ [])) (sym bytes)
    (law.back (fresh driver ∷ []) (fresh_sound driver cost costs small fit, tt))
