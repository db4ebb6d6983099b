-- How the first line and the first word are cut off: lines and words are the pieces between separators, so the first
-- ends at the first separator that is found, or is the last one. Blanks in front are passed by induction on the text.
-- These are what the loops over lines and words cite (`first_lines`, `first_words`).
use Rattle.std.proofs.Common.{◌≡◌, ◌≢◌, ◌+◌, ◌<◌, nat_lt, ℕ, zero, suc, Bool, true, false, cond, not, List, [], ◌∷◌}
use Rattle.std.proofs.Common.{map, filter, length, take, drop, get_or, refl, sym, ap, ◌∙◌, add-zero, subst, arith, Some}
use Rattle.std.proofs.Common.{None, position}
use Rattle.std.proofs.lemmas.Bool.{ltb-true, ltb-false, ne_eqb}
use Rattle.std.proofs.lemmas.List.{drop_more, length-take-le, length-drop, get_or-drop, drop-drop, drop_all}
use Rattle.std.proofs.lemmas.List.Quantifiers.{position-Some}
use Rattle.std.proofs.lemmas.List.Splits.{slice_split_none, slice_split_first, slice_split-cons_yes, length-slice_split}
use Rattle.std.proofs.lemmas.List.Sums.{fails_before_first, passes_at_first}
use Rattle.std.proofs.lemmas.Option.{cond_some}
use Rattle.std.specs.List.{slice_split, position_or_len, before_first, after_first, All}
use Rattle.script_text.specs.Text.{lines, words, without_return, without_empty_last}
use Rattle.script_text.specs.Parts.{is_line_feed, is_blank, is_empty}

-- the first place that passes
place_is : {X : Type 0} (p : X → Bool) (xs : List X) (i : ℕ) → position p xs ≡ Some i
    → (position_or_len p xs ≡ i) × (i < length xs)
place_is p xs i h =
    let found = cond_some (nat_lt (position_or_len p xs) (length xs)) (position_or_len p xs) i h in
    (found.1, subst (λ n. n < length xs) found.1 (ltb-true _ _ found.0))

-- there is none
none_after : (b : Bool) (n : ℕ) → cond b (Some n) None ≡ None → b ≡ false
none_after true n h = cc
none_after false n h = refl

pub none_passes : {X : Type 0} (p : X → Bool) (xs : List X) → position p xs ≡ None → All (λ x. p x ≡ false) xs
none_passes p xs h =
    let past = ltb-false (position_or_len p xs) (length xs) (none_after _ _ h) in
    λ k d l. fails_before_first p xs k d (omega (arith, past, l))

-- where pieces follow, the first one is no last piece
keeps_first : (piece : List ℕ) (pieces : List (List ℕ)) → 0 < length pieces
    → without_empty_last (piece ∷ pieces) ≡ piece ∷ without_empty_last pieces
keeps_first piece [] h = absurd (omega (arith, h))
keeps_first piece (next ∷ more) h = refl

some_piece : (bytes : List ℕ) → 0 < length (slice_split is_line_feed bytes)
some_piece bytes = omega (arith, length-slice_split is_line_feed bytes)

pub no_lines : (bytes : List ℕ) → length bytes ≡ 0 → lines bytes ≡ []
unfolding lines
no_lines [] h = refl
no_lines (byte ∷ bytes) h = absurd (omega (arith, h))

-- the first line ends at the first line feed
pub line_then_lines : (bytes : List ℕ) (at : ℕ) → position is_line_feed bytes ≡ Some at
    → lines bytes ≡ without_return (take at bytes) ∷ lines (drop (at + 1) bytes)
unfolding lines
line_then_lines bytes at h =
    let place = place_is is_line_feed bytes at h in
    let rest = after_first is_line_feed bytes in
    let cut : lines bytes ≡ without_return (before_first is_line_feed bytes) ∷ lines rest =
    ap (λ pieces. map without_return (without_empty_last pieces))
    (slice_split_first is_line_feed bytes 0 (subst (λ n. n < length bytes) (sym place.0) place.1))
    ∙ ap (map without_return) (keeps_first (before_first is_line_feed bytes) (slice_split is_line_feed rest)
    (some_piece rest)) in
    subst (λ n. lines bytes ≡ without_return (take n bytes) ∷ lines (drop (n + 1) bytes)) place.0 cut

-- or it is the last one
pub last_line : (bytes : List ℕ) → position is_line_feed bytes ≡ None → length bytes ≢ 0
    → lines bytes ≡ without_return bytes ∷ lines []
unfolding lines
last_line bytes h some =
    ap (λ pieces. map without_return (without_empty_last pieces))
    (slice_split_none is_line_feed bytes (none_passes is_line_feed bytes h))
    ∙ ap (λ (b : Bool). map without_return (cond b [] (bytes ∷ []))) (ne_eqb (length bytes) 0 some)

-- a blank in front is no part of a word
blank_first : (b : ℕ) (bytes : List ℕ) → is_blank b ≡ true → words (b ∷ bytes) ≡ words bytes
unfolding words
blank_first b bytes h = ap (filter (λ word. not (is_empty word))) (slice_split-cons_yes is_blank b bytes h)

no_words : words [] ≡ []
unfolding words
no_words = refl

skip_one : (b : ℕ) (bytes : List ℕ) (n : ℕ) (blank : Bool) → is_blank b ≡ blank → words bytes ≡ words (drop n bytes)
    → words (b ∷ bytes) ≡ words (drop (cond (not (not blank)) (1 + n) 0) (b ∷ bytes))
skip_one b bytes n true h rest = blank_first b bytes h ∙ (rest ∙ ap words (drop-drop n 1 (b ∷ bytes)))
skip_one b bytes n false h rest = refl

-- nor are several
skip_blanks : (bytes : List ℕ) → words bytes ≡ words (drop (position_or_len (λ byte. not (is_blank byte)) bytes) bytes)
skip_blanks [] = refl
skip_blanks (b ∷ bytes) =
    skip_one b bytes (position_or_len (λ byte. not (is_blank byte)) bytes) (is_blank b) refl (skip_blanks bytes)

blanks_then_words : (bytes : List ℕ) (at : ℕ) → position (λ byte. not (is_blank byte)) bytes ≡ Some at
    → words bytes ≡ words (drop at bytes)
blanks_then_words bytes at h =
    subst (λ n. words bytes ≡ words (drop n bytes)) (place_is _ bytes at h).0 (skip_blanks bytes)

pub blanks_alone : (bytes : List ℕ) → position (λ byte. not (is_blank byte)) bytes ≡ None → words bytes ≡ []
blanks_alone bytes h =
    let past = ltb-false _ (length bytes) (none_after _ _ h) in
    skip_blanks bytes ∙ ap words (drop_all _ bytes past) ∙ no_words

-- a piece that is not empty is a word
keeps_word : (word : List ℕ) (pieces : List (List ℕ)) → length word ≢ 0
    → filter (λ w. not (is_empty w)) (word ∷ pieces) ≡ word ∷ filter (λ w. not (is_empty w)) pieces
keeps_word word pieces some =
    ap (λ (b : Bool). cond (not b) (word ∷ filter (λ w. not (is_empty w)) pieces)
    (filter (λ w. not (is_empty w)) pieces)) (ne_eqb (length word) 0 some)

-- the first word ends at the first blank
word_then_words : (text : List ℕ) (at : ℕ) → position is_blank text ≡ Some at → 0 < at
    → words text ≡ take at text ∷ words (drop at text)
unfolding words
word_then_words text at h some =
    let place = place_is is_blank text at h in
    let within = subst (λ n. n < length text) (sym place.0) place.1 in
    let word = length-take-le at text (omega (arith, place.1)) in
    let cut : words text ≡ filter (λ w. not (is_empty w)) (take at text ∷ slice_split is_blank (drop (at + 1) text)) =
    ap (filter (λ w. not (is_empty w))) (subst
    (λ n. slice_split is_blank text ≡ take n text ∷ slice_split is_blank (drop (n + 1) text)) place.0
    (slice_split_first is_blank text 0 within)) in
    let blank = subst (λ n. is_blank (get_or text n 0) ≡ true) place.0 (passes_at_first is_blank text 0 within) in
    let rest : words (drop at text) ≡ words (drop (at + 1) text) =
    ap words (drop_more text at 0 place.1) ∙ blank_first (get_or text at 0) (drop (at + 1) text) blank in
    cut ∙ keeps_word (take at text) (slice_split is_blank (drop (at + 1) text)) (λ e. absurd (omega (arith, word, e)))
    ∙ ap (λ ws. take at text ∷ ws) (sym rest)

-- or it is the last one
last_word : (text : List ℕ) → position is_blank text ≡ None → length text ≢ 0 → words text ≡ text ∷ words []
unfolding words
last_word text h some =
    ap (filter (λ w. not (is_empty w))) (slice_split_none is_blank text (none_passes is_blank text h))
    ∙ keeps_word text [] some

not_both : (blank : Bool) → not blank ≡ true → blank ≡ true → ⊥
not_both true h e = cc
not_both false h e = cc

-- what begins at the first byte of a word is not empty, and has no blank in front
word_begins : (line : List ℕ) (at : ℕ) → position (λ byte. not (is_blank byte)) line ≡ Some at
    → 0 < length (drop at line)
word_begins line at h = omega (arith, (place_is (λ byte. not (is_blank byte)) line at h).1, length-drop at line)

word_goes_on : (line : List ℕ) (at end : ℕ) → position (λ byte. not (is_blank byte)) line ≡ Some at
    → position is_blank (drop at line) ≡ Some end → 0 < end
word_goes_on line at zero h e =
    let letter : not (is_blank (get_or line at 0)) ≡ true =
    (position-Some (λ byte. not (is_blank byte)) line at 0 h).1 in
    let blank : is_blank (get_or (drop at line) 0 0) ≡ true = (position-Some is_blank (drop at line) zero 0 e).1 in
    let same : get_or (drop at line) 0 0 ≡ get_or line at 0 =
    get_or-drop at line 0 0 ∙ ap (λ n. get_or line n 0) (add-zero at) in
    absurd (not_both (is_blank (get_or line at 0)) letter (ap is_blank (sym same) ∙ blank))
word_goes_on line at (suc n) h e = omega arith

-- the first word, behind the blanks in front
pub word_then_words_of : (line : List ℕ) (at end : ℕ) → position (λ byte. not (is_blank byte)) line ≡ Some at
    → position is_blank (drop at line) ≡ Some end
    → words line ≡ take end (drop at line) ∷ words (drop end (drop at line))
word_then_words_of line at end h e =
    blanks_then_words line at h ∙ word_then_words (drop at line) end e (word_goes_on line at end h e)

pub last_word_of : (line : List ℕ) (at : ℕ) → position (λ byte. not (is_blank byte)) line ≡ Some at
    → position is_blank (drop at line) ≡ None → words line ≡ drop at line ∷ words []
last_word_of line at h e =
    blanks_then_words line at h
    ∙ last_word (drop at line) e (λ none. absurd (omega (arith, word_begins line at h, none)))

pub ruleset first_lines = (no_lines, line_then_lines, last_line)

pub ruleset first_words = (blanks_alone, word_then_words_of, last_word_of)
