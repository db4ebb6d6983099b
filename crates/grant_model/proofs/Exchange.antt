-- Two words of the kernel's bytes are a pair of a grant.
use Rattle.std.proofs.Common.{arith, refl, ap, sym, subst, ◌∙◌, ◌≡◌, ◌<◌, ℕ, suc, ◌+◌, ◌*◌, ◌/◌, List, ◌++◌, length}
use Rattle.std.proofs.Common.{get_or, set, length-append, Some}
use Rattle.grant_values.specs.Words.{WordsInBytes, bytes_of_words, words_of}
use Rattle.tk_base.specs.declared.kinds.PairKind.{PairKind}
use Rattle.grant_model.specs.declared.places.Area.{Area}
use Rattle.tk_base.specs.Kinds.{count_of}
use Rattle.tk_base.specs.Places.{pair_place}
use Rattle.grant_model.specs.Grants.{shape_of, grant_of, with_grant, pairs_of, pair_of, with_pair}
use Rattle.grant_model.specs.Encoding.{body_words, areas, EncodesGrants, Tells, area_of, decode_grants}
use Rattle.grant_model.specs.Laws.{ArePair, PairsAreFound, word_of_pair}
use Rattle.grant_model.proofs.Back.{words-laid, tells}
use Rattle.grant_model.proofs.Spots.{Spot, spot, placed}
use Rattle.grant_model.proofs.Pairs.{put2, get2, put2-left, put2-right, get2-left, get2-right, Stands, stands}

at_spot : WordsInBytes → (kind : PairKind) (place driver n i j : ℕ) (kernel : List ℕ) → EncodesGrants kernel
    → (s : Spot 0 place driver (decode_grants kernel)) → Stands kind n j s.grant → i ≡ place + 2 + j
    → ArePair kernel i kind driver n
at_spot law kind place driver n i j kernel is s st e =
    let gs = decode_grants kernel in
    let body = body_words s.grant in
    let whole : words_of kernel ≡ areas gs = ap words_of is.bytes ∙ words-laid law gs is.sound in
    let words : words_of kernel ≡ s.before ++ (body ++ s.after) = whole ∙ s.words in
    let here : i ≡ length s.before + j = plain i place j (length s.before) e s.place_is in
    let long : length (words_of kernel) ≡ length s.before + (length body + length s.after) =
    ap length words ∙ length-append s.before (body ++ s.after)
    ∙ ap (λ n. length s.before + n) (length-append body s.after) in
    let one : i + 1 ≡ suc i = omega arith in
    let pair : get_or (pairs_of kind s.grant) n (0, 0) ≡ pair_of kind n (grant_of driver gs) =
    sym (ap (pair_of kind n) s.is) in
    let read : get2 (words_of kernel) i ≡ pair_of kind n (grant_of driver gs) =
    ap (λ ws. get2 ws i) words ∙ get2-right s.before (body ++ s.after) (length s.before) i j refl here
    ∙ get2-left body s.after j st.within ∙ st.read ∙ pair in
    record {
      bytes = is.bytes ∙ ap bytes_of_words (sym whole);
      within = deep i j (length s.before) (length body) (length s.after) (length (words_of kernel)) here long st.within;
      first = ap (λ (q : ℕ × ℕ). q.0) read;
      second = ap (λ k. get_or (words_of kernel) k 0) one ∙ ap (λ (q : ℕ × ℕ). q.1) read;
      put = λ p a b.
          let gs' = with_grant driver (with_pair kind n p) gs in
          let put : set (set (words_of kernel) i p.0) (i + 1) p.1 ≡ areas gs' =
          ap (λ k. set (set (words_of kernel) i p.0) k p.1) one ∙ ap (λ ws. put2 ws i p) words
          ∙ put2-right s.before (body ++ s.after) (length s.before) i j p refl here
          ∙ ap (λ z. s.before ++ z) (put2-left body s.after j p st.within ∙ ap (λ z. z ++ s.after) (st.put p))
          ∙ sym (s.changed (with_pair kind n p) refl) in
          subst (λ ws. Tells (bytes_of_words ws) gs') (sym put)
          (tells law gs' (s.kept (with_pair kind n p) (st.sound p a b)));
    }
  where
    plain : (i place j b : ℕ) → i ≡ place + 2 + j → b + 0 ≡ place + 2 → i ≡ b + j
    plain i place j b e f = omega arith

    deep : (i j b w a l : ℕ) → i ≡ b + j → l ≡ b + (w + a) → suc j < w → i + 1 < l
    deep i j b w a l e f g = omega arith

at_area : WordsInBytes → (kind : PairKind) (driver n : ℕ) (kernel : List ℕ) (area : Area) → EncodesGrants kernel
    → Some area ≡ area_of driver (decode_grants kernel) → n < count_of kind (shape_of driver)
    → ArePair kernel (word_of_pair kind driver n area) kind driver n
at_area law kind driver n kernel area is e small =
    let p = placed driver (decode_grants kernel) area e in
    let s = spot 0 p.place driver (decode_grants kernel) is.sound p.at in
    let k : shape_of s.grant.driver ≡ shape_of driver = ap shape_of s.driver_is in
    let st = stands kind n s.grant s.sound (subst (λ c. n < count_of kind c) (sym k) small) in
    let j = 2 * pair_place kind n (shape_of s.grant.driver) in
    let at : word_of_pair kind driver n area ≡ p.place + 2 + j =
    ap (λ o. o / 4 + 2 + 2 * pair_place kind n (shape_of driver)) p.offset
    ∙ ap (λ c. 4 * p.place / 4 + 2 + 2 * pair_place kind n c) (sym k) ∙ quarter p.place j in
    at_spot law kind p.place driver n (word_of_pair kind driver n area) j kernel is s st at
  where
    quarter : (place j : ℕ) → 4 * place / 4 + 2 + j ≡ place + 2 + j
    quarter place j = omega arith

pub pairs-are-found : WordsInBytes → PairsAreFound
pairs-are-found law = record { at = at_area law }
