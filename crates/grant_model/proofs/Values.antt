-- A grant's value in the kernel's bytes.
use Rattle.std.proofs.Common.{arith, refl, ap, sym, subst, ◌∙◌, ◌≡◌, ◌≤◌, ℕ, ◌+◌, ◌*◌, ◌/◌, List, [], ◌∷◌, ◌++◌, length}
use Rattle.std.proofs.Common.{take, drop, replicate, length-append, append_assoc, Some}
use Rattle.std.specs.Int.{w32, to_le_bytes}
use Rattle.std.proofs.lemmas.List.{take_at, drop_at}
use Rattle.tk_base.specs.Kinds.{pair_count}
use Rattle.grant_values.specs.Words.{WordsInBytes, bytes_of_words, words_of}
use Rattle.grant_values.specs.Values.{value_words}
use Rattle.grant_model.specs.declared.places.Area.{Area}
use Rattle.grant_model.specs.Grants.{Grant, shape_of, with_grant, with_value}
use Rattle.grant_model.specs.Encoding.{CanBeKept, padding_of, pair_words, areas, IsSound, EncodesGrants}
use Rattle.grant_model.specs.Encoding.{Tells, area_of, decode_grants}
use Rattle.grant_model.specs.Laws.{IsValue, ValuesAreFound, value_offset, value_bytes}
use Rattle.grant_model.proofs.Back.{length-pairs, tells}
use Rattle.grant_model.proofs.Spots.{Spot, spot, placed}

bytes-append : (xs ys : List ℕ) → bytes_of_words (xs ++ ys) ≡ bytes_of_words xs ++ bytes_of_words ys
bytes-append [] ys = refl
bytes-append (x ∷ xs) ys = ap (λ z. to_le_bytes w32 x ++ z) (bytes-append xs ys)

abbrev padding : Grant → List ℕ
padding g = replicate (padding_of (shape_of g.driver)) 0

apart : (b p v r a : List ℕ)
    → bytes_of_words (b ++ ((p ++ (v ++ r)) ++ a))
    ≡ bytes_of_words (b ++ p) ++ (bytes_of_words v ++ bytes_of_words (r ++ a))
apart b p v r a =
    ap (λ z. bytes_of_words (b ++ z)) (append_assoc p (v ++ r) a ∙ ap (λ z. p ++ z) (append_assoc v r a))
    ∙ ap bytes_of_words (sym (append_assoc b p (v ++ (r ++ a)))) ∙ bytes-append (b ++ p) (v ++ (r ++ a))
    ∙ ap (λ z. bytes_of_words (b ++ p) ++ z) (bytes-append v (r ++ a))

at_spot : WordsInBytes → (place driver at size : ℕ) (kernel : List ℕ) → EncodesGrants kernel
    → Spot 0 place driver (decode_grants kernel) → at ≡ 4 * place + 8 + 8 * pair_count (shape_of driver)
    → size ≡ 4 * ((shape_of driver).value / 4) → IsValue kernel at size driver
at_spot law place driver at size kernel is s e n =
    let g = s.grant in
    let gs = decode_grants kernel in
    let pairs = pair_words g.pairs in
    let kept = value_words g.value in
    let fits : CanBeKept driver g.value = subst (λ d. CanBeKept d g.value) s.driver_is s.sound.value in
    let pl : length pairs ≡ 2 * pair_count (shape_of driver) =
    length-pairs g.pairs ∙ ap (λ k. 2 * k) s.sound.pairs ∙ ap (λ d. 2 * pair_count (shape_of d)) s.driver_is in
    let before = bytes_of_words (s.before ++ pairs) in
    let after = bytes_of_words (padding g ++ s.after) in
    let place_is : length s.before + 0 ≡ place + 2 = s.place_is in
    let long : length before ≡ at =
    law.size (s.before ++ pairs) ∙ ap (λ k. 4 * k) (length-append s.before pairs)
    ∙ count (length s.before) (length pairs) _ place at place_is pl e in
    let vlong : length (bytes_of_words kept) ≡ size = law.size kept ∙ ap (λ k. 4 * k) fits.count ∙ sym n in
    let bytes : kernel ≡ before ++ (bytes_of_words kept ++ after) =
    is.bytes ∙ ap bytes_of_words s.words ∙ apart s.before pairs kept (padding g) s.after in
    let front : take at kernel ≡ before =
    ap (take at) bytes ∙ take_at before (bytes_of_words kept ++ after) at long in
    let tail : drop at kernel ≡ bytes_of_words kept ++ after =
    ap (drop at) bytes ∙ drop_at before (bytes_of_words kept ++ after) at long in
    let rest : drop size (drop at kernel) ≡ after =
    ap (drop size) tail ∙ drop_at (bytes_of_words kept) after size vlong in
    record {
      grant = g;
      is = s.is;
      fits = fits;
      within = inside (length before) (length (bytes_of_words kept)) (length after) (length kernel) at size
          (ap length bytes ∙ length-append before (bytes_of_words kept ++ after)
          ∙ ap (λ m. length before + m) (length-append (bytes_of_words kept) after)) long vlong;
      taken = ap words_of (ap (take size) tail ∙ take_at (bytes_of_words kept) after size vlong)
          ∙ law.back kept fits.words;
      put = λ value can.
          let ws = value_words value in
          let changed = with_grant driver (with_value value) gs in
          let sound : IsSound (with_value value g) =
          record {
            known = s.sound.known;
            driver = s.sound.driver;
            pairs = s.sound.pairs;
            words = s.sound.words;
            value = subst (λ d. CanBeKept d value) (sym s.driver_is) can;
            cost = s.sound.cost;
          } in
          let made : bytes_of_words (areas changed)
          ≡ take at kernel ++ (bytes_of_words ws ++ drop size (drop at kernel)) =
          ap bytes_of_words (s.changed (with_value value) refl) ∙ apart s.before pairs ws (padding g) s.after
          ∙ ap (λ z. z ++ (bytes_of_words ws ++ after)) (sym front)
          ∙ ap (λ z. take at kernel ++ (bytes_of_words ws ++ z)) (sym rest) in
          subst (λ bytes. Tells bytes changed) made (tells law changed (s.kept (with_value value) sound));
    }
  where
    count : (b p n place at : ℕ) → b + 0 ≡ place + 2 → p ≡ 2 * n → at ≡ 4 * place + 8 + 8 * n → 4 * (b + p) ≡ at
    count b p n place at e f g = omega arith

    inside : (b v a l at size : ℕ) → l ≡ b + (v + a) → b ≡ at → v ≡ size → at + size ≤ l
    inside b v a l at size e f g = omega arith

at_area : WordsInBytes → (driver : ℕ) (kernel : List ℕ) (area : Area) → EncodesGrants kernel
    → Some area ≡ area_of driver (decode_grants kernel)
    → IsValue kernel (value_offset driver area) (value_bytes driver) driver
at_area law driver kernel area is e =
    let p = placed driver (decode_grants kernel) area e in
    at_spot law p.place driver (value_offset driver area) (value_bytes driver) kernel is
    (spot 0 p.place driver (decode_grants kernel) is.sound p.at)
    (ap (λ o. o + 8 + 8 * pair_count (shape_of driver)) p.offset) refl

pub values-are-found : WordsInBytes → ValuesAreFound
values-are-found law = record { at = at_area law }
