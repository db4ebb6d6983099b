-- A pair put into the words of a grant.
use Rattle.std.proofs.Common.{arith, refl, ap, sym, subst, ◌∙◌, ◌≡◌, ◌<◌, ◌^◌, ℕ, zero, suc, ◌+◌, ◌-◌, ◌*◌, List, []}
use Rattle.std.proofs.Common.{◌∷◌, ◌++◌, length, get_or, set, length-append}
use Rattle.std.specs.List.{AllByRecursion}
use Rattle.std.proofs.lemmas.List.{set-append_left, set-append_right, get_or_append_left, get_or-append_right}
use Rattle.std.proofs.lemmas.List.{length-set}
use Rattle.grant_values.specs.Words.{IsWord}
use Rattle.tk_base.specs.declared.kinds.PairKind.{PairKind}
use Rattle.tk_base.specs.Kinds.{count_of, pair_count, pairs_before}
use Rattle.tk_base.specs.Places.{pair_place}
use Rattle.grant_model.specs.Grants.{Grant, shape_of, pairs_of, with_pair}
use Rattle.grant_model.specs.Encoding.{pair_words, padded_words, body_words, IsSound}
use Rattle.grant_model.proofs.Back.{length-pairs}
use Rattle.grant_model.proofs.Windows.{get-window, place-within}

-- two words put side by side, and two read
abbrev pub put2 : List ℕ → ℕ → ℕ × ℕ → List ℕ
put2 xs j p = set (set xs j p.0) (suc j) p.1

abbrev pub get2 : List ℕ → ℕ → ℕ × ℕ
get2 xs j = (get_or xs j 0, get_or xs (suc j) 0)

pub put2-left : (xs ys : List ℕ) (j : ℕ) (p : ℕ × ℕ) → suc j < length xs → put2 (xs ++ ys) j p ≡ put2 xs j p ++ ys
put2-left xs ys j p h =
    let n : length (set xs j p.0) ≡ length xs = length-set xs j p.0 in
    ap (λ z. set z (suc j) p.1) (set-append_left xs ys j p.0 (omega arith))
    ∙ set-append_left (set xs j p.0) ys (suc j) p.1 (omega arith)

pub put2-right : (xs ys : List ℕ) (n i j : ℕ) (p : ℕ × ℕ) → length xs ≡ n → i ≡ n + j
    → put2 (xs ++ ys) i p ≡ xs ++ put2 ys j p
put2-right xs ys n i j p e is =
    let a : i - n ≡ j = omega arith in
    let b : suc i - n ≡ suc j = omega arith in
    ap (λ z. set z (suc i) p.1) (set-append_right xs ys n i p.0 e (omega arith) ∙ ap (λ k. xs ++ set ys k p.0) a)
    ∙ set-append_right xs (set ys j p.0) n (suc i) p.1 e (omega arith) ∙ ap (λ k. xs ++ set (set ys j p.0) k p.1) b

pub get2-left : (xs ys : List ℕ) (j : ℕ) → suc j < length xs → get2 (xs ++ ys) j ≡ get2 xs j
get2-left xs ys j h =
    let a : get_or (xs ++ ys) j 0 ≡ get_or xs j 0 = get_or_append_left xs ys 0 j (omega arith) in
    let b : get_or (xs ++ ys) (suc j) 0 ≡ get_or xs (suc j) 0 = get_or_append_left xs ys 0 (suc j) h in
    cc

pub get2-right : (xs ys : List ℕ) (n i j : ℕ) → length xs ≡ n → i ≡ n + j → get2 (xs ++ ys) i ≡ get2 ys j
get2-right xs ys n i j e is =
    let a : i - n ≡ j = omega arith in
    let b : suc i - n ≡ suc j = omega arith in
    let c : get_or (xs ++ ys) i 0 ≡ get_or ys j 0 =
    get_or-append_right xs ys n i 0 e (omega arith) ∙ ap (λ k. get_or ys k 0) a in
    let d : get_or (xs ++ ys) (suc i) 0 ≡ get_or ys (suc j) 0 =
    get_or-append_right xs ys n (suc i) 0 e (omega arith) ∙ ap (λ k. get_or ys k 0) b in
    cc

abbrev double : ℕ → ℕ
double zero = zero
double (suc n) = suc (suc (double n))

double-is : (n : ℕ) → double n ≡ 2 * n
double-is zero = refl
double-is (suc n) = let h = double-is n in omega arith

put_double : (ps : List (ℕ × ℕ)) (n : ℕ) (p : ℕ × ℕ) → put2 (pair_words ps) (double n) p ≡ pair_words (set ps n p)
put_double [] n p = refl
put_double (q ∷ ps) zero p = refl
put_double (q ∷ ps) (suc n) p = ap (λ z. q.0 ∷ q.1 ∷ z) (put_double ps n p)

put2-pairs : (ps : List (ℕ × ℕ)) (n : ℕ) (p : ℕ × ℕ) → put2 (pair_words ps) (2 * n) p ≡ pair_words (set ps n p)
put2-pairs ps n p = ap (λ k. put2 (pair_words ps) k p) (sym (double-is n)) ∙ put_double ps n p

get_double : (ps : List (ℕ × ℕ)) (n : ℕ) → get2 (pair_words ps) (double n) ≡ get_or ps n (0, 0)
get_double [] n = refl
get_double (q ∷ ps) zero = refl
get_double (q ∷ ps) (suc n) = get_double ps n

get2-pairs : (ps : List (ℕ × ℕ)) (n : ℕ) → get2 (pair_words ps) (2 * n) ≡ get_or ps n (0, 0)
get2-pairs ps n = ap (get2 (pair_words ps)) (sym (double-is n)) ∙ get_double ps n

all_set : (ws : List ℕ) (i v : ℕ) → AllByRecursion IsWord ws → v < 2 ^ 32 → AllByRecursion IsWord (set ws i v)
all_set [] i v all h = tt
all_set (w ∷ ws) zero v all h = (h, all.1)
all_set (w ∷ ws) (suc i) v all h = (all.0, all_set ws i v all.1 h)

-- pair n of a kind stands in the grant's words at place j, and put there another is the pair of the grant
pub record Stands (kind : PairKind) (n j : ℕ) (g : Grant) : Type 0 where
  pub within : suc j < length (body_words g)
  pub read : get2 (body_words g) j ≡ get_or (pairs_of kind g) n (0, 0)
  pub put : (p : ℕ × ℕ) → put2 (body_words g) j p ≡ body_words (with_pair kind n p g)
  pub sound : (p : ℕ × ℕ) → p.0 < 2 ^ 32 → p.1 < 2 ^ 32 → IsSound (with_pair kind n p g)

pub stands : (kind : PairKind) (n : ℕ) (g : Grant) → IsSound g → n < count_of kind (shape_of g.driver)
    → Stands kind n (2 * pair_place kind n (shape_of g.driver)) g
stands kind n g s small =
    let counts = shape_of g.driver in
    let place = pair_place kind n counts in
    let j = 2 * place in
    let inside : suc j < length (pair_words g.pairs) =
    room place (pair_count counts) (length g.pairs) (length (pair_words g.pairs)) (place-within kind n counts small)
    s.pairs (length-pairs g.pairs) in
    let put : (p : ℕ × ℕ) → put2 (pair_words g.pairs) j p ≡ pair_words (set g.pairs place p) =
    λ p. put2-pairs g.pairs place p in
    record {
      within = deep j (length (pair_words g.pairs)) (length (padded_words g)) (length (body_words g)) inside
          (length-append (pair_words g.pairs) (padded_words g));
      read = get2-left (pair_words g.pairs) (padded_words g) j inside ∙ get2-pairs g.pairs place
          ∙ sym (get-window g.pairs (pairs_before kind counts) (count_of kind counts) n small);
      put = λ p. put2-left (pair_words g.pairs) (padded_words g) j p inside ∙ ap (λ z. z ++ padded_words g) (put p);
      sound = λ p a c. record {
        known = s.known;
        driver = s.driver;
        pairs = length-set g.pairs place p ∙ s.pairs;
        words =
            subst (AllByRecursion IsWord) (put p)
            (all_set (set (pair_words g.pairs) j p.0) (suc j) p.1 (all_set (pair_words g.pairs) j p.0 s.words a) c);
        value = s.value;
        cost = s.cost;
      };
    }
  where
    room : (place count l w : ℕ) → place < count → l ≡ count → w ≡ 2 * l → suc (2 * place) < w
    room place count l w h e f = omega arith

    deep : (j w r l : ℕ) → suc j < w → l ≡ w + r → suc j < l
    deep j w r l h e = omega arith
