-- Pairs of one kind among all pairs of a grant: each kind has a window of its own. Windows follow one another by rank,
-- so a place in one lies in no other (by induction on the sizes), and a pair that is put is read in its window and
-- changes no other. Kinds are compared by rank, and not two by two.
use Rattle.std.proofs.Common.{arith, refl, ap, sym, subst, ◌∙◌, ◌≡◌, ◌≢◌, ◌⊎◌, inl, inr, ◌<◌, ◌≤◌, ℕ, zero, suc, ◌+◌}
use Rattle.std.proofs.Common.{◌-◌}
use Rattle.std.proofs.Common.{List, [], ◌∷◌, length, take, drop, get_or, set, replicate, Some}
use Rattle.std.specs.List.{sum}
use Rattle.std.proofs.lemmas.Bool.{cases_eq, cases_lt}
use Rattle.std.proofs.lemmas.List.{get_or-take, get_or-drop, get_or-set_same, get_or-set_other, drop-set-lt}
use Rattle.std.proofs.lemmas.List.{drop-set-add, take-set-le, length-set, length-take-le, length-drop, length-replicate}
use Rattle.std.proofs.lemmas.List.Sums.{sum_by-cons}
use Rattle.std.proofs.Math.Seq.{take-set-lt}
use Rattle.tk_base.specs.declared.kinds.PairKind.{PairKind}
use Rattle.tk_base.specs.declared.upcall.Counts.{Counts}
use Rattle.tk_base.proofs.Ranks.{same_rank}
use Rattle.tk_base.specs.Kinds.{count_of, pair_count, pair_counts, pairs_before, rank_of}
use Rattle.tk_base.specs.Places.{pair_place}
use Rattle.grant_model.specs.Grants.{Grant, HasPairs, shape_of, pair_of, pairs_of, with_pair}
use Rattle.grant_model.specs.Laws.{PairsStandByKind}

-- of windows one after another each ends before the whole does, and before the next begins
sum-cons : (size : ℕ) (sizes : List ℕ) → sum (size ∷ sizes) ≡ size + sum sizes
sum-cons size sizes = sum_by-cons (λ n. n) size sizes

sum-within : (sizes : List ℕ) (i : ℕ) → sum (take i sizes) + get_or sizes i 0 ≤ sum sizes
sum-within [] zero = omega arith
sum-within [] (suc i) = omega arith
sum-within (size ∷ sizes) zero = let all = sum-cons size sizes in omega arith
sum-within (size ∷ sizes) (suc i) =
    let h = sum-within sizes i in
    let all = sum-cons size sizes in
    let front = sum-cons size (take i sizes) in
    omega arith

sum-apart : (sizes : List ℕ) (i j : ℕ) → i < j → sum (take i sizes) + get_or sizes i 0 ≤ sum (take j sizes)
sum-apart sizes i zero less = absurd (omega arith)
sum-apart [] zero (suc j) less = omega arith
sum-apart [] (suc i) (suc j) less = omega arith
sum-apart (size ∷ sizes) zero (suc j) less = let later = sum-cons size (take j sizes) in omega arith
sum-apart (size ∷ sizes) (suc i) (suc j) less =
    let h = sum-apart sizes i j (omega arith) in
    let front = sum-cons size (take i sizes) in
    let later = sum-cons size (take j sizes) in
    omega arith

pub place-within : (kind : PairKind) (n : ℕ) (counts : Counts) → n < count_of kind counts
    → pair_place kind n counts < pair_count counts
place-within kind n counts small =
    omega (arith, sum-within (pair_counts counts) (rank_of kind), small)

-- a place in a window is one in the whole
pub get-window : (xs : List (ℕ × ℕ)) (before count n : ℕ) → n < count
    → get_or (take count (drop before xs)) n (0, 0) ≡ get_or xs (before + n) (0, 0)
get-window xs before count n small =
    get_or-take count (drop before xs) n (0, 0) small ∙ get_or-drop before xs n (0, 0)

-- what is put in a window is put there, and not in one after it or before it
set-window : (xs : List (ℕ × ℕ)) (before count n : ℕ) (x : ℕ × ℕ) → n < count
    → take count (drop before (set xs (before + n) x)) ≡ set (take count (drop before xs)) n x
set-window xs before count n x small =
    ap (take count) (drop-set-add before xs n x) ∙ take-set-lt count (drop before xs) n x small

set-window-below : (xs : List (ℕ × ℕ)) (before count i : ℕ) (x : ℕ × ℕ) → i < before
    → take count (drop before (set xs i x)) ≡ take count (drop before xs)
set-window-below xs before count i x below = ap (take count) (drop-set-lt before xs i x below)

set-window-past : (xs : List (ℕ × ℕ)) (before count i : ℕ) (x : ℕ × ℕ) → before + count ≤ i
    → take count (drop before (set xs i x)) ≡ take count (drop before xs)
set-window-past xs before count i x past =
    let at : i ≡ before + (i - before) = omega arith in
    ap (λ k. take count (drop before (set xs k x))) at
    ∙ ap (take count) (drop-set-add before xs (i - before) x)
    ∙ take-set-le count (drop before xs) (i - before) x (omega arith)

count-window : (kind : PairKind) (g : Grant) → HasPairs g → length (pairs_of kind g) ≡ count_of kind (shape_of g.driver)
count-window kind g has =
    let counts = shape_of g.driver in
    let before = pairs_before kind counts in
    length-take-le (count_of kind counts) (drop before g.pairs)
    (omega (arith, sum-within (pair_counts counts) (rank_of kind), has, length-drop before g.pairs))

this-window : (kind : PairKind) (n : ℕ) (pair : ℕ × ℕ) (g : Grant) → HasPairs g → n < count_of kind (shape_of g.driver)
    → pair_of kind n (Some (with_pair kind n pair g)) ≡ pair
this-window kind n pair g has small =
    let counts = shape_of g.driver in
    ap (λ ps. get_or ps n (0, 0)) (set-window g.pairs (pairs_before kind counts) (count_of kind counts) n pair small)
    ∙ get_or-set_same (pairs_of kind g) n pair (0, 0) (subst (λ m. n < m) (sym (count-window kind g has)) small)

-- the windows of two kinds lie apart
others-window : (kind other : PairKind) (n m : ℕ) (pair : ℕ × ℕ) (g : Grant) → n < count_of kind (shape_of g.driver)
    → (other ≡ kind → m ≢ n) → pair_of other m (Some (with_pair kind n pair g)) ≡ pair_of other m (Some g)
others-window kind other n m pair g small apart = by_rank (cases_lt (rank_of kind) (rank_of other))
  where
    counts : Counts
    counts = shape_of g.driver

    at : List (ℕ × ℕ) → ℕ × ℕ
    at ps = get_or ps m (0, 0)

    alike : other ≡ kind → m ≢ n → pair_of other m (Some (with_pair kind n pair g)) ≡ pair_of other m (Some g)
    alike same differs = rw same (ap at (set-window g.pairs (pairs_before kind counts) (count_of kind counts) n pair
        small) ∙ get_or-set_other (pairs_of kind g) n m pair (0, 0) differs)

    by_order : (rank_of other < rank_of kind) ⊎ (rank_of kind ≤ rank_of other) → rank_of other ≤ rank_of kind
        → pair_of other m (Some (with_pair kind n pair g)) ≡ pair_of other m (Some g)
    by_order (inl less) most =
        ap at (set-window-past g.pairs (pairs_before other counts) (count_of other counts) (pair_place kind n counts)
        pair (omega (arith, sum-apart (pair_counts counts) (rank_of other) (rank_of kind) less)))
    by_order (inr least) most = let same = same_rank kind other (omega arith) in alike same (apart same)

    by_rank : (rank_of kind < rank_of other) ⊎ (rank_of other ≤ rank_of kind)
        → pair_of other m (Some (with_pair kind n pair g)) ≡ pair_of other m (Some g)
    by_rank (inl less) =
        ap at (set-window-below g.pairs (pairs_before other counts) (count_of other counts) (pair_place kind n counts)
        pair (omega (arith, sum-apart (pair_counts counts) (rank_of kind) (rank_of other) less, small)))
    by_rank (inr most) = by_order (cases_lt (rank_of other) (rank_of kind)) most

-- so each pair is the one that was put, or what it was
either-window : (kind other : PairKind) (n m : ℕ) (pair : ℕ × ℕ) (g : Grant) → HasPairs g
    → n < count_of kind (shape_of g.driver)
    → ((other ≡ kind) × (pair_of other m (Some (with_pair kind n pair g)) ≡ pair))
    ⊎ (pair_of other m (Some (with_pair kind n pair g)) ≡ pair_of other m (Some g))
either-window kind other n m pair g has small = by_place (cases_eq (rank_of other) (rank_of kind)) (cases_eq m n)
  where
    after : PairKind → ℕ → ℕ × ℕ
    after k i = pair_of k i (Some (with_pair kind n pair g))

    by_place : (rank_of other ≡ rank_of kind) ⊎ (rank_of other ≢ rank_of kind) → (m ≡ n) ⊎ (m ≢ n)
        → ((other ≡ kind) × (after other m ≡ pair)) ⊎ (after other m ≡ pair_of other m (Some g))
    by_place (inl same) (inl at) =
        let kind_is : other ≡ kind = same_rank kind other same in
        inl (kind_is, ap (λ k. after k m) kind_is ∙ ap (after kind) at ∙ this-window kind n pair g has small)
    by_place (inr differs) (inl at) =
        inr (others-window kind other n m pair g small (λ same. absurd (differs (ap rank_of same))))
    by_place rank (inr differs) = inr (others-window kind other n m pair g small (λ same. differs))

-- all pairs of a list of zeros are zeros, in any window of it
zeros-dropped : (before n i : ℕ) → ◌≡◌ {A = ℕ × ℕ} (get_or (drop before (replicate n (0, 0))) i (0, 0)) (0, 0)
zeros-dropped zero zero i = refl
zeros-dropped zero (suc n) zero = refl
zeros-dropped zero (suc n) (suc i) = zeros-dropped zero n i
zeros-dropped (suc before) zero i = refl
zeros-dropped (suc before) (suc n) i = zeros-dropped before n i

zeros-taken : (count i : ℕ) (ps : List (ℕ × ℕ)) → ((i : ℕ) → get_or ps i (0, 0) ≡ (0, 0))
    → get_or (take count ps) i (0, 0) ≡ (0, 0)
zeros-taken zero i ps zeros = refl
zeros-taken (suc count) i [] zeros = refl
zeros-taken (suc count) zero (p ∷ ps) zeros = zeros 0
zeros-taken (suc count) (suc i) (p ∷ ps) zeros = zeros-taken count i ps (λ i. zeros (suc i))

pub pairs-stand-by-kind : PairsStandByKind
pairs-stand-by-kind = record {
  count = count-window;
  this = this-window;
  others = others-window;
  either = either-window;
  keeps = λ kind n pair g has. length-set g.pairs (pair_place kind n (shape_of g.driver)) pair ∙ has;
  made = λ driver. length-replicate (pair_count (shape_of driver)) (0, 0);
  none =
      λ kind driver n. zeros-taken (count_of kind (shape_of driver)) n _
      (zeros-dropped (pairs_before kind (shape_of driver)) (pair_count (shape_of driver)));
}
