-- A walk over areas.
use Rattle.std.proofs.Common.{arith, refl, ap, sym, ◌∙◌, ◌≡◌, ◌<◌, ◌≤◌, ℕ, suc, ◌+◌, ◌*◌, ◌==◌, List, [], ◌∷◌}
use Rattle.std.proofs.Common.{◌++◌, length, drop, get_or, cond, length-drop, length-append, false, true, None, Some}
use Rattle.std.specs.List.{AllByRecursion}
use Rattle.std.proofs.lemmas.List.{drop_at, drop-drop, get_or-drop}
use Rattle.tk_base.specs.declared.upcall.Counts.{Counts}
use Rattle.grant_values.specs.Words.{words_of}
use Rattle.grant_values.specs.Drivers.{cost_of}
use Rattle.grant_model.specs.Grants.{Grant, shape_of}
use Rattle.grant_model.specs.Encoding.{body_size, body_words, area_words, areas, IsSound, EncodesGrants, area_place}
use Rattle.grant_model.specs.Encoding.{decode_grants}
use Rattle.grant_model.specs.Laws.{IsReadBack}

-- a cost is whole words, the first two of them driver and cost
pub cost-words : (c : Counts) → cost_of c ≡ 4 * (2 + body_size c)
cost-words c = omega arith

-- from an offset on the words are areas, and the search goes on there
pub record Ahead (ws : List ℕ) (driver offset : ℕ) (all : List Grant) : Type 0 where
  pub rest : List Grant
  pub sound : AllByRecursion IsSound rest
  pub words : drop offset ws ≡ areas rest
  pub same : area_place driver offset rest ≡ area_place driver 0 all
  pub within : offset ≤ length ws

-- what stands at the offset
pub record Here (ws : List ℕ) (driver offset : ℕ) (all : List Grant) : Type 0 where
  pub head : ℕ
  pub size : ℕ
  pub driver_is : get_or ws offset 0 ≡ head
  pub cost_is : get_or ws (offset + 1) 0 ≡ 4 * (2 + size)
  pub fits : offset + (2 + size) ≤ length ws
  pub found : (head == driver) ≡ true → Some offset ≡ area_place driver 0 all
  pub onward : (head == driver) ≡ false → Ahead ws driver (offset + (2 + size)) all

pub begin : IsReadBack → (kernel : List ℕ) (driver : ℕ) → EncodesGrants kernel
    → Ahead (words_of kernel) driver 0 (decode_grants kernel)
begin law kernel driver laid = record {
  rest = decode_grants kernel;
  sound = laid.sound;
  words = ap words_of laid.bytes ∙ law.words (decode_grants kernel) laid.sound;
  same = refl;
  within = omega arith;
}

here_at : IsReadBack → (ws : List ℕ) (driver offset : ℕ) (all : List Grant) (g : Grant) (gs : List Grant) → IsSound g
    → AllByRecursion IsSound gs → drop offset ws ≡ areas (g ∷ gs) → offset ≤ length ws
    → area_place driver offset (g ∷ gs) ≡ area_place driver 0 all → Here ws driver offset all
here_at law ws driver offset all g gs s sound words within same =
    let n = body_size (shape_of g.driver) in
    let area : length (area_words g) ≡ 2 + n = omega (arith, law.size g s) in
    let first : get_or (drop offset ws) 0 0 ≡ g.driver = ap (λ z. get_or z 0 0) words in
    let second : get_or (drop offset ws) 1 0 ≡ cost_of (shape_of g.driver) = ap (λ z. get_or z 1 0) words in
    let zero_on : offset + 0 ≡ offset = omega arith in
    let long : length (drop offset ws) ≡ 2 + n + length (areas gs) =
    ap length words ∙ length-append (area_words g) (areas gs) ∙ ap (λ k. k + length (areas gs)) area in
    let far : drop (offset + (2 + n)) ws ≡ areas gs =
    sym (drop-drop (2 + n) offset ws) ∙ ap (drop (2 + n)) words ∙ drop_at (area_words g) (areas gs) (2 + n) area in
    let fits : offset + (2 + n) ≤ length ws = omega (arith, length-drop offset ws, long) in
    record {
      head = g.driver;
      size = n;
      driver_is = ap (λ n. get_or ws n 0) (sym zero_on) ∙ sym (get_or-drop offset ws 0 0) ∙ first;
      cost_is = sym (get_or-drop offset ws 1 0) ∙ second ∙ cost-words (shape_of g.driver);
      fits = fits;
      found = λ e. ap (λ b. cond b (Some offset) (area_place driver (offset + (2 + n)) gs)) (sym e) ∙ same;
      onward = λ e. record {
        rest = gs;
        sound = sound;
        words = far;
        same = ap (λ b. cond b (Some offset) (area_place driver (offset + (2 + n)) gs)) (sym e) ∙ same;
        within = fits;
      };
    }

here_rest : IsReadBack → (ws : List ℕ) (driver offset : ℕ) (all rest : List Grant) → AllByRecursion IsSound rest
    → drop offset ws ≡ areas rest → offset < length ws → area_place driver offset rest ≡ area_place driver 0 all
    → Here ws driver offset all
here_rest law ws driver offset all [] sound words h same =
    let none : length (drop offset ws) ≡ 0 = ap length words in
    absurd (omega (arith, length-drop offset ws))
here_rest law ws driver offset all (g ∷ gs) sound words h same =
    here_at law ws driver offset all g gs sound.0 sound.1 words (omega arith) same

pub here : IsReadBack → (ws : List ℕ) (driver offset : ℕ) (all : List Grant) → Ahead ws driver offset all
    → offset < length ws → Here ws driver offset all
here law ws driver offset all ahead h =
    here_rest law ws driver offset all ahead.rest ahead.sound ahead.words h ahead.same

ended_rest : (ws : List ℕ) (driver offset : ℕ) (all rest : List Grant) → drop offset ws ≡ areas rest
    → length ws ≤ offset → area_place driver offset rest ≡ area_place driver 0 all → None ≡ area_place driver 0 all
ended_rest ws driver offset all [] words h same = same
ended_rest ws driver offset all (g ∷ gs) words h same =
    let l : length (drop offset ws) ≡ suc (suc (length (body_words g ++ areas gs))) = ap length words in
    absurd (omega (arith, l, length-drop offset ws, h))

pub ended : (ws : List ℕ) (driver offset : ℕ) (all : List Grant) → Ahead ws driver offset all → length ws ≤ offset
    → None ≡ area_place driver 0 all
ended ws driver offset all ahead h = ended_rest ws driver offset all ahead.rest ahead.words h ahead.same
