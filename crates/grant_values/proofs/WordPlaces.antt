-- Words in bytes.
use Rattle.std.proofs.Common.{arith, refl, ap, sym, subst, ◌∙◌, ◌≡◌, ◌<◌, ◌^◌, ℕ, zero, suc, ◌*◌, ◌/◌, List, [], ◌∷◌}
use Rattle.std.proofs.Common.{◌++◌, length, take, drop, get_or, set}
use Rattle.std.specs.Int.{w32, to_le_bytes, from_le_bytes}
use Rattle.std.specs.List.{AllByRecursion}
use Rattle.std.proofs.lemmas.List.{take_at}
use Rattle.std.proofs.lemmas.Nat.{from_le_bytes-to_le_bytes_4}
use Rattle.grant_values.specs.Words.{IsWord, bytes_of_words, words_of}

pub words-bytes : (ws : List ℕ) → AllByRecursion IsWord ws → words_of (bytes_of_words ws) ≡ ws
unfolding words_of
words-bytes [] all = refl
words-bytes (w ∷ ws) all =
    let front : from_le_bytes w32 (to_le_bytes w32 w) ≡ w = from_le_bytes-to_le_bytes_4 w all.0 in
    let back : words_of (bytes_of_words ws) ≡ ws = words-bytes ws all.1 in
    ap (λ n. n ∷ words_of (bytes_of_words ws)) front ∙ ap (λ z. w ∷ z) back

-- four times a number, in single steps
abbrev pub quad : ℕ → ℕ
quad zero = zero
quad (suc n) = suc (suc (suc (suc (quad n))))

pub quad-is : (n : ℕ) → quad n ≡ 4 * n
quad-is zero = refl
quad-is (suc n) = let h = quad-is n in omega arith

pub length-bytes : (ws : List ℕ) → length (bytes_of_words ws) ≡ 4 * length ws
length-bytes [] = refl
length-bytes (w ∷ ws) = let h = length-bytes ws in omega arith

pub length-words : (bytes : List ℕ) → length (words_of bytes) ≡ length bytes / 4
unfolding words_of
length-words (a ∷ b ∷ c ∷ d ∷ rest) = let h = length-words rest in omega arith
length-words (a ∷ b ∷ c ∷ []) = omega arith
length-words (a ∷ b ∷ []) = omega arith
length-words (a ∷ []) = omega arith
length-words [] = refl

-- a word written over bytes
abbrev over : List ℕ → ℕ → ℕ → List ℕ
over bytes at w = take at bytes ++ (to_le_bytes w32 w ++ drop 4 (drop at bytes))

set_quad : (bytes : List ℕ) (i w : ℕ) → i < length (words_of bytes) → w < 2 ^ 32
    → words_of (over bytes (quad i) w) ≡ set (words_of bytes) i w
unfolding words_of
set_quad (a ∷ b ∷ c ∷ d ∷ rest) zero w h small = ap (λ n. n ∷ words_of rest) (from_le_bytes-to_le_bytes_4 w small)
set_quad (a ∷ b ∷ c ∷ d ∷ rest) (suc i) w h small =
    ap (λ z. from_le_bytes w32 (a ∷ b ∷ c ∷ d ∷ []) ∷ z) (set_quad rest i w (omega arith) small)
set_quad (a ∷ b ∷ c ∷ []) i w h small = absurd (omega arith)
set_quad (a ∷ b ∷ []) i w h small = absurd (omega arith)
set_quad (a ∷ []) i w h small = absurd (omega arith)
set_quad [] i w h small = absurd (omega arith)

pub words-over : (bytes : List ℕ) (i at w : ℕ) → at ≡ 4 * i → i < length (words_of bytes) → w < 2 ^ 32
    → words_of (over bytes at w) ≡ set (words_of bytes) i w
words-over bytes i at w e h small =
    subst (λ n. words_of (over bytes n w) ≡ set (words_of bytes) i w) (quad-is i ∙ sym e) (set_quad bytes i w h small)

get_quad : (bytes : List ℕ) (i : ℕ) → i < length (words_of bytes)
    → from_le_bytes w32 (take 4 (drop (quad i) bytes)) ≡ get_or (words_of bytes) i 0
unfolding words_of
get_quad (a ∷ b ∷ c ∷ d ∷ rest) zero h = refl
get_quad (a ∷ b ∷ c ∷ d ∷ rest) (suc i) h = get_quad rest i (omega arith)
get_quad (a ∷ b ∷ c ∷ []) i h = absurd (omega arith)
get_quad (a ∷ b ∷ []) i h = absurd (omega arith)
get_quad (a ∷ []) i h = absurd (omega arith)
get_quad [] i h = absurd (omega arith)

pub words-at : (bytes : List ℕ) (i at : ℕ) → at ≡ 4 * i → i < length (words_of bytes)
    → from_le_bytes w32 (take 4 (drop at bytes)) ≡ get_or (words_of bytes) i 0
words-at bytes i at e h =
    subst (λ n. from_le_bytes w32 (take 4 (drop n bytes)) ≡ get_or (words_of bytes) i 0) (quad-is i ∙ sym e)
    (get_quad bytes i h)

pub all-words : (ws : List ℕ) → ((i : ℕ) → get_or ws i 0 < 2 ^ 32) → AllByRecursion IsWord ws
all-words [] h = tt
all-words (w ∷ ws) h = (h 0, all-words ws (λ i. h (suc i)))

bytes_quad : (ws : List ℕ) (i w : ℕ) → i < length ws → over (bytes_of_words ws) (quad i) w ≡ bytes_of_words (set ws i w)
bytes_quad (v ∷ ws) zero w h = refl
bytes_quad (v ∷ ws) (suc i) w h = ap (λ z. to_le_bytes w32 v ++ z) (bytes_quad ws i w (omega arith))
bytes_quad [] i w h = absurd (omega arith)

pub bytes-over : (bytes ws : List ℕ) (i at w : ℕ) → bytes ≡ bytes_of_words ws → at ≡ 4 * i → i < length ws
    → over bytes at w ≡ bytes_of_words (set ws i w)
bytes-over bytes ws i at w is e h =
    ap (λ z. over z at w) is
    ∙ subst (λ n. over (bytes_of_words ws) n w ≡ bytes_of_words (set ws i w)) (quad-is i ∙ sym e) (bytes_quad ws i w h)

pub ruleset word_places = (length-words, words-over, words-at, bytes-over, length-bytes)

-- words written before other bytes are the first words of both
pub words-front : (bytes ws rest : List ℕ) (n : ℕ) → bytes ≡ bytes_of_words ws ++ rest → n ≡ 4 * length ws
    → AllByRecursion IsWord ws → words_of (take n bytes) ≡ ws
words-front bytes ws rest n e size all =
    let front : take n bytes ≡ bytes_of_words ws =
    ap (take n) e ∙ take_at (bytes_of_words ws) rest n (let h = length-bytes ws in omega arith) in
    ap words_of front ∙ words-bytes ws all
