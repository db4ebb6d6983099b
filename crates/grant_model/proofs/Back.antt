-- What was laid is read back.
use Rattle.std.proofs.Common.{arith, refl, ap, sym, subst, ◌∙◌, ◌≡◌, ◌≤◌, ℕ, zero, suc, ◌+◌, ◌*◌, ◌/◌, List, [], ◌∷◌}
use Rattle.std.proofs.Common.{◌++◌, length, take, drop, replicate, length-append, append_assoc}
use Rattle.std.specs.List.{AllByRecursion}
use Rattle.std.proofs.lemmas.List.{take_at, drop_at, length-replicate}
use Rattle.tk_base.specs.declared.upcall.Counts.{Counts}
use Rattle.tk_base.specs.Kinds.{pair_count}
use Rattle.grant_values.specs.Words.{IsWord, WordsInBytes, words_of}
use Rattle.grant_values.specs.Drivers.{cost_of}
use Rattle.grant_values.specs.Values.{KeptValue, value_told, value_words}
use Rattle.grant_model.specs.Grants.{Grant, shape_of}
use Rattle.grant_model.specs.Encoding.{body_size, padding_of, pair_words, padded_words, body_words, areas}
use Rattle.grant_model.specs.Encoding.{encode_grants}
use Rattle.grant_model.specs.Encoding.{pairs_at_front, grant_in, grants_in, decode_grants, IsSound, EncodesGrants}
use Rattle.grant_model.specs.Encoding.{Tells}
use Rattle.grant_model.specs.Laws.{IsReadBack}

-- a cost is whole words, the first two of them driver and cost, and has room for pairs and value
pub cost-words : (c : Counts) → cost_of c ≡ 4 * (2 + body_size c)
cost-words c = omega arith

pub body-parts : (c : Counts) → body_size c ≡ 2 * pair_count c + (c.value / 4 + padding_of c)
body-parts c = omega arith

pub length-pairs : (ps : List (ℕ × ℕ)) → length (pair_words ps) ≡ 2 * length ps
length-pairs [] = refl
length-pairs (p ∷ ps) = let h = length-pairs ps in omega arith

pub pairs-back : (ps : List (ℕ × ℕ)) (ws : List ℕ) → pairs_at_front (length ps) (pair_words ps ++ ws) ≡ ps
pairs-back [] ws = refl
pairs-back (p ∷ ps) ws = ap (λ z. p ∷ z) (pairs-back ps ws)

pub drop-pairs : (ps : List (ℕ × ℕ)) (ws : List ℕ) (n : ℕ) → length ps ≡ n → drop (2 * n) (pair_words ps ++ ws) ≡ ws
drop-pairs ps ws n e = drop_at (pair_words ps) ws (2 * n) (let h = length-pairs ps in omega arith)

grant_back : (g : Grant) (rest : List ℕ) → IsSound g → grant_in g.driver (shape_of g.driver) (body_words g ++ rest) ≡ g
grant_back g rest s =
    let k = shape_of g.driver in
    let n = pair_count k in
    let pad = replicate (padding_of k) 0 in
    let words = body_words g ++ rest in
    let kept = take (k.value / 4) (drop (2 * n) words) in
    let whole : words ≡ pair_words g.pairs ++ (padded_words g ++ rest) =
    append_assoc (pair_words g.pairs) (padded_words g) rest in
    let pairs : pairs_at_front n words ≡ g.pairs =
    ap (pairs_at_front n) whole ∙ ap (λ m. pairs_at_front m (pair_words g.pairs ++ (padded_words g ++ rest))) (sym
    s.pairs)
    ∙ pairs-back g.pairs (padded_words g ++ rest) in
    let last : drop (2 * n) words ≡ value_words g.value ++ (pad ++ rest) =
    ap (drop (2 * n)) whole ∙ drop-pairs g.pairs (padded_words g ++ rest) n s.pairs
    ∙ append_assoc (value_words g.value) pad rest in
    let value : value_told g.driver kept ≡ g.value =
    ap (λ ws. value_told g.driver (take (k.value / 4) ws)) last
    ∙ ap (value_told g.driver) (take_at (value_words g.value) (pad ++ rest) (k.value / 4) s.value.count)
    ∙ s.value.told in
    let made : List (ℕ × ℕ) → KeptValue → Grant = λ ps v. record { driver = g.driver; pairs = ps; value = v } in
    ap (λ ps. made ps (value_told g.driver kept)) pairs ∙ ap (made g.pairs) value

length_padded : (g : Grant) → IsSound g
    → length (padded_words g) ≡ (shape_of g.driver).value / 4 + padding_of (shape_of g.driver)
length_padded g s =
    let n = padding_of (shape_of g.driver) in
    let zeros : List ℕ = replicate n 0 in
    length-append (value_words g.value) zeros ∙ ap (λ k. k + length zeros) s.value.count
    ∙ ap (λ k. (shape_of g.driver).value / 4 + k) (length-replicate n 0)

pub length-body : (g : Grant) → IsSound g → length (body_words g) ≡ body_size (shape_of g.driver)
length-body g s =
    let k = shape_of g.driver in
    let parts : length (body_words g) ≡ 2 * length g.pairs + length (padded_words g) =
    length-append (pair_words g.pairs) (padded_words g)
    ∙ ap (λ n. n + length (padded_words g)) (length-pairs g.pairs) in
    parts ∙ ap (λ n. 2 * n + length (padded_words g)) s.pairs
    ∙ ap (λ n. 2 * pair_count k + n) (length_padded g s) ∙ sym (body-parts k)

grants_back : (gs : List Grant) (n : ℕ) → AllByRecursion IsSound gs → length gs ≤ n → grants_in n (areas gs) ≡ gs
grants_back [] zero all h = refl
grants_back [] (suc n) all h = refl
grants_back (g ∷ gs) zero all h = absurd (omega arith)
grants_back (g ∷ gs) (suc n) all h =
    let s = all.0 in
    let k = shape_of g.driver in
    let first : grant_in g.driver k (body_words g ++ areas gs) ≡ g =
    grant_back g (areas gs) s in
    let rest : drop (body_size k) (body_words g ++ areas gs) ≡ areas gs =
    drop_at (body_words g) (areas gs) (body_size k) (length-body g s) in
    let back : grants_in n (areas gs) ≡ gs = grants_back gs n all.1 (omega arith) in
    ap (λ z. z ∷ grants_in n (drop (body_size k) (body_words g ++ areas gs))) first ∙ ap (λ z. g ∷ grants_in n z) rest
    ∙ ap (λ z. g ∷ z) back

pub all-append : (xs ys : List ℕ) → AllByRecursion IsWord xs → AllByRecursion IsWord ys → AllByRecursion IsWord (xs ++
    ys)
all-append [] ys a b = b
all-append (x ∷ xs) ys a b = (a.0, all-append xs ys a.1 b)

pub zero-words : (n : ℕ) → AllByRecursion IsWord (replicate n 0)
zero-words zero = tt
zero-words (suc n) = (omega arith, zero-words n)

pub words-body : (g : Grant) → IsSound g → AllByRecursion IsWord (body_words g)
words-body g s =
    let n = padding_of (shape_of g.driver) in
    all-append (pair_words g.pairs) (padded_words g) s.words
    (all-append (value_words g.value) (replicate n 0) s.value.words (zero-words n))

areas_words : (gs : List Grant) → AllByRecursion IsSound gs → AllByRecursion IsWord (areas gs)
areas_words [] all = tt
areas_words (g ∷ gs) all =
    (all.0.driver, (all.0.cost, all-append (body_words g) (areas gs) (words-body g all.0) (areas_words gs all.1)))

length_areas : (gs : List Grant) → length gs ≤ length (areas gs)
length_areas [] = omega arith
length_areas (g ∷ gs) = let h = length_areas gs in omega (arith, length-append (body_words g) (areas gs))

pub words-laid : WordsInBytes → (gs : List Grant) → AllByRecursion IsSound gs → words_of (encode_grants gs) ≡ areas gs
words-laid law gs all = law.back (areas gs) (areas_words gs all)

pub laid-back : WordsInBytes → (gs : List Grant) → AllByRecursion IsSound gs → decode_grants (encode_grants gs) ≡ gs
unfolding decode_grants
laid-back law gs all =
    let words : words_of (encode_grants gs) ≡ areas gs = words-laid law gs all in
    ap (λ ws. grants_in (length ws) ws) words ∙ grants_back gs (length (areas gs)) all (length_areas gs)

pub tells : WordsInBytes → (gs : List Grant) → AllByRecursion IsSound gs → Tells (encode_grants gs) gs
tells law gs all =
    let back : decode_grants (encode_grants gs) ≡ gs = laid-back law gs all in
    let is : EncodesGrants (encode_grants gs) =
    record { bytes = ap encode_grants (sym back); sound = subst (AllByRecursion IsSound) (sym back) all } in
    record { laid = is; grants = back }

pub is-read-back : WordsInBytes → IsReadBack
is-read-back law = record { back = tells law; words = words-laid law; size = length-body }
