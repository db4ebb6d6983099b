-- A driver's area among the others: what the walk over the areas finds is the place of the words of that driver's grant
-- (`Spot`), with words before and after it, which stay as the grant changes. By induction on the grants, each as long
-- as its shape says; so offset and size of the area are those in bytes, and no place means no grant.
use Rattle.std.proofs.Common.{arith, refl, ap, sym, ◌∙◌, ◌≡◌, ◌≤◌, ℕ, ◌+◌, ◌-◌, ◌*◌, ◌/◌, ◌==◌, List, []}
use Rattle.std.proofs.Common.{◌∷◌, ◌++◌, length, get_or, length-append, append_assoc, Option}
use Rattle.std.proofs.Common.{None, Some, inl, inr}
use Rattle.std.specs.Prelude.{option_map}
use Rattle.std.specs.List.{AllByRecursion}
use Rattle.std.proofs.lemmas.Bool.{eqb-true, cases_Bool}
use Rattle.std.proofs.lemmas.List.{get_or-append_right}
use Rattle.grant_values.specs.Words.{WordsInBytes, words_of}
use Rattle.grant_values.specs.Drivers.{cost_of}
use Rattle.grant_model.specs.declared.places.Area.{Area}
use Rattle.grant_model.specs.Grants.{Grant, shape_of, grant_of, with_grant}
use Rattle.grant_model.specs.Encoding.{body_size, body_words, area_words, areas, IsSound, EncodesGrants, area_place}
use Rattle.grant_model.specs.Encoding.{area_at, area_of, decode_grants}
use Rattle.grant_model.specs.Laws.{IsAreaOf, AreasAreFound}
use Rattle.grant_model.proofs.Back.{cost-words, length-body, words-laid}

-- the words of a driver's grant, which stand at a place
pub record Spot (offset place driver : ℕ) (gs : List Grant) : Type 0 where
  pub before : List ℕ
  pub after : List ℕ
  pub grant : Grant
  pub is : grant_of driver gs ≡ Some grant
  pub driver_is : grant.driver ≡ driver
  pub sound : IsSound grant
  pub place_is : length before + offset ≡ place + 2
  pub front : 2 ≤ length before
  pub words : areas gs ≡ before ++ (body_words grant ++ after)
  pub changed : (change : Grant → Grant) → (change grant).driver ≡ grant.driver
      → areas (with_grant driver change gs) ≡ before ++ (body_words (change grant) ++ after)
  pub cost_at : (n : ℕ) → n + offset ≡ place + 1 → get_or (areas gs) n 0 ≡ cost_of (shape_of driver)
  pub kept : (change : Grant → Grant) → IsSound (change grant) → AllByRecursion IsSound (with_grant driver change gs)

pub spot : (offset place driver : ℕ) (gs : List Grant) → AllByRecursion IsSound gs
    → area_place driver offset gs ≡ Some place → Spot offset place driver gs
spot offset place driver [] all found = absurd (cc)
spot offset place driver (g ∷ gs) all found = elim (cases_Bool (g.driver == driver)) [
  | inl e ↦
      let now = rw e at found in
      let here : offset ≡ place = cc in
      record {
        before = g.driver ∷ cost_of (shape_of g.driver) ∷ [];
        after = areas gs;
        grant = g;
        is = rw e;
        driver_is = eqb-true g.driver driver e;
        sound = all.0;
        place_is = omega arith;
        front = omega arith;
        words = refl;
        changed = λ change same. rw (e, same) refl;
        kept = λ change sound. rw e (sound, all.1);
        cost_at = λ n is. let one : n ≡ 1 = omega arith in rw (one, eqb-true g.driver driver e) refl;
      }
  | inr e ↦
      let n = body_size (shape_of g.driver) in
      let h = spot (offset + (2 + n)) place driver gs all.1 (rw e at found) in
      let size : length (body_words g) ≡ n = length-body g all.0 in
      let area : length (area_words g) ≡ 2 + n = omega (arith, size) in
      let long = length-append (area_words g) h.before in
      record {
        before = area_words g ++ h.before;
        after = h.after;
        grant = h.grant;
        is = rw e h.is;
        driver_is = h.driver_is;
        sound = h.sound;
        place_is = omega (arith, long, area, h.place_is);
        front = omega (arith, long, h.front);
        words = rw h.words (sym (append_assoc (area_words g) h.before (body_words h.grant ++ h.after)));
        changed = λ change same. rw (e, h.changed change same)
            (sym (append_assoc (area_words g) h.before (body_words (change h.grant) ++ h.after)));
        kept = λ change sound. rw e (all.0, h.kept change sound);
        cost_at = λ m is. get_or-append_right (area_words g) (areas gs) (2 + n) m 0 area
            (omega (arith, h.front, h.place_is)) ∙ h.cost_at (m - (2 + n)) (omega (arith, h.front, h.place_is));
      }
]

-- an area has a place
pub record Placed (driver : ℕ) (gs : List Grant) (area : Area) : Type 0 where
  pub place : ℕ
  pub at : area_place driver 0 gs ≡ Some place
  pub offset : area.offset ≡ 4 * place
  pub cost : area.cost ≡ cost_of (shape_of driver)

placed_by : (driver : ℕ) (gs : List Grant) (area : Area) (o : Option ℕ) → area_place driver 0 gs ≡ o
    → Some area ≡ option_map (area_at driver) o → Placed driver gs area
placed_by driver gs area (Some place) at is = record { place = place; at = at; offset = cc; cost = cc }
placed_by driver gs area None at is = absurd (cc)

pub placed : (driver : ℕ) (gs : List Grant) (area : Area) → Some area ≡ area_of driver gs → Placed driver gs area
placed driver gs area is = placed_by driver gs area (area_place driver 0 gs) refl is

-- where there is no place there is no grant
absent_at : (offset driver : ℕ) (gs : List Grant) → area_place driver offset gs ≡ None → grant_of driver gs ≡ None
absent_at offset driver [] none = refl
absent_at offset driver (g ∷ gs) none = elim (cases_Bool (g.driver == driver)) [
  | inl e ↦ let now = rw e at none in absurd (cc)
  | inr e ↦ rw e (absent_at (offset + (2 + body_size (shape_of g.driver))) driver gs (rw e at none))
]

unplaced : (driver : ℕ) (gs : List Grant) (o : Option ℕ) → area_place driver 0 gs ≡ o
    → None ≡ option_map (area_at driver) o → grant_of driver gs ≡ None
unplaced driver gs (Some place) at is = absurd (cc)
unplaced driver gs None at is = absent_at 0 driver gs at

absent : (driver : ℕ) (gs : List Grant) → None ≡ area_of driver gs → grant_of driver gs ≡ None
absent driver gs is = unplaced driver gs (area_place driver 0 gs) refl is

-- how many words the kernel's bytes have, by a spot in them
pub long-at : WordsInBytes → (place driver : ℕ) (kernel : List ℕ) → EncodesGrants kernel
    → (s : Spot 0 place driver (decode_grants kernel))
    → length (words_of kernel) ≡ place + 2 + (body_size (shape_of driver) + length s.after)
long-at law place driver kernel is s =
    let words : words_of kernel ≡ s.before ++ (body_words s.grant ++ s.after) =
    ap words_of is.bytes ∙ words-laid law (decode_grants kernel) is.sound ∙ s.words in
    let size : length (body_words s.grant) ≡ body_size (shape_of driver) =
    length-body s.grant s.sound ∙ ap (λ d. body_size (shape_of d)) s.driver_is in
    omega (
      arith,
      size,
      s.place_is,
      ap length words,
      length-append s.before (body_words s.grant ++ s.after),
      length-append (body_words s.grant) s.after,
    )

found : WordsInBytes → (driver : ℕ) (kernel : List ℕ) (area : Area) → EncodesGrants kernel
    → Some area ≡ area_of driver (decode_grants kernel) → IsAreaOf driver kernel area
found law driver kernel area is e =
    let p = placed driver (decode_grants kernel) area e in
    let s = spot 0 p.place driver (decode_grants kernel) is.sound p.at in
    let words : words_of kernel ≡ areas (decode_grants kernel) =
    ap words_of is.bytes ∙ words-laid law (decode_grants kernel) is.sound in
    let one : area.offset / 4 + 1 ≡ p.place + 1 = omega (arith, p.offset) in
    record {
      grant = s.grant;
      is = s.is;
      within = omega (
        arith,
        p.offset,
        p.cost,
        cost-words (shape_of driver),
        law.count kernel,
        long-at law p.place driver kernel is s,
      );
      second = rw (one, words, s.cost_at (p.place + 1) (omega arith)) (sym p.cost);
    }

pub areas-are-found : WordsInBytes → AreasAreFound
areas-are-found law = record { found = found law; absent = absent }
