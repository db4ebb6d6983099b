-- What one more line says. Settings are a function of lists of lines by name (`lines_of`), and a line more makes the
-- list of its own name one longer, and no other (`lines_with`); so for each line of the table the settings compute.
-- Where a list had no line its first is the new one; lines that share a name share a list.
use Rattle.std.proofs.Common.{◌≡◌, ◌==◌, ◌&&◌, nat_lt, ℕ, Bool, true, false, cond, List, [], ◌∷◌, ◌++◌, length}
use Rattle.std.proofs.Common.{filter, find, slice_index, Some, refl, sym, ap, subst}
use Rattle.std.proofs.Common.{◌∙◌, arith, length-append}
use Rattle.std.proofs.lemmas.Bool.{eqb-true, and_parts, ltb-false, lt-ltb}
use Rattle.std.proofs.lemmas.List.{map-append, append-nil}
use Rattle.std.proofs.lemmas.List.Folds.{find_at}
use Rattle.std.proofs.lemmas.List.Sums.{passes_at_first}
use Rattle.std.proofs.lemmas.Option.{get_or_from_slice_get, slice_get_within}
use Rattle.std.specs.List.{position_or_len}
use Rattle.std.proofs.lemmas.List.Elements.{filter-append}
use Rattle.std.proofs.lemmas.Grind.{flat_map-append}
use Rattle.std.proofs.lemmas.Slice.Eq.{bytes_eq-Decides}
use Rattle.std.specs.Option.{option_map_or}
use Rattle.std.specs.Str.{bytes_eq}
use Rattle.script_text.specs.declared.table.Line.{Line}
use Rattle.script_text.specs.declared.table.Line.TheVariants.{Ram}
use Rattle.script_text.specs.declared.table.Line.TheVariants.{Stop, Restart, Threshold, FilterOpen}
use Rattle.script_text.specs.declared.table.Line.TheVariants.{FilterStrict, StorageFault, Random, Input}
use Rattle.script_text.specs.declared.table.Line.TheVariants.{Press, Release, Act}
use Rattle.script_text.specs.Progress.{with_line, stood_in}
use Rattle.script_text.specs.Rules.{is_single, skips}
use Rattle.script_text.specs.Said.{lines_of, settings}
use Rattle.script_text.specs.Parts.{stands}
use Rattle.script_text.specs.Seats.{stood_at, stood_after}
use Rattle.script_text.specs.Table.{row, line_table, has_verb, line_fits, line_of}
use Rattle.script_text.specs.Parts.{is_key}
use Rattle.script_text.specs.Text.{words, word}

-- some lines, and one more where it is one of them
abbrev more : List ℕ → List ℕ → Line → List (List ℕ) → List (List ℕ)
more text first line xs = cond (bytes_eq first (row line).name) (xs ++ text ∷ []) xs

one_more : (b : Bool) (text : List ℕ) (xs : List (List ℕ)) → xs ++ cond b (text ∷ []) [] ≡ cond b (xs ++ text ∷ []) xs
one_more true text xs = refl
one_more false text xs = append-nil xs

lines_more : (line : Line) (before : List (List ℕ)) (text : List ℕ)
    → lines_of line (before ++ text ∷ []) ≡ more text (word (words text) 0) line (lines_of line before)
unfolding lines_of
lines_more line before text =
    filter-append (λ t. bytes_eq (word (words t) 0) (row line).name) before (text ∷ [])
    ∙ one_more (bytes_eq (word (words text) 0) (row line).name) text
    (filter (λ t. bytes_eq (word (words t) 0) (row line).name) before)

-- the three lines of the policy have one name, and so have the two of the filter
one_name : (line other : Line) → (row line).name ≡ (row other).name → (before : List (List ℕ))
    → lines_of line before ≡ lines_of other before
unfolding lines_of
one_name line other h before = ap (λ name. filter (λ text. bytes_eq (word (words text) 0) name) before) h

abbrev some : List (List ℕ) → Bool
some xs = nat_lt 0 (length xs)

pub stood_is : (line : Line) (before : List (List ℕ))
    → stood_at line (stood_in before) ≡ (is_single line && stands line before)
stood_is Restart before = ap some (one_name Stop Restart refl before)
stood_is Threshold before = ap some (one_name Stop Threshold refl before)
stood_is FilterStrict before = ap some (one_name FilterOpen FilterStrict refl before)
stood_is line before = refl

-- where a list had no line, the first is the one more
none_yet : (xs : List (List ℕ)) → some xs ≡ false → xs ≡ []
none_yet [] h = refl
none_yet (x ∷ xs) h = absurd (omega (arith, ltb-false 0 (length (x ∷ xs)) h))

none_of_name : (line other : Line) → (row line).name ≡ (row other).name → (before : List (List ℕ))
    → stands line before ≡ false → lines_of other before ≡ []
none_of_name line other name before h = sym (one_name line other name before) ∙ none_yet (lines_of line before) h

stands_now : (xs : List (List ℕ)) (text : List ℕ) → some (xs ++ text ∷ []) ≡ true
stands_now xs text = lt-ltb 0 (length (xs ++ text ∷ [])) (omega (arith, length-append xs (text ∷ [])))

-- what `find` finds passes
find_passes : {X : Type 0} (p : X → Bool) (xs : List X) (x : X) → find p xs ≡ Some x → p x ≡ true
find_passes p xs x h =
    let there = sym (find_at p xs) ∙ h in
    subst (λ y. p y ≡ true) (get_or_from_slice_get xs (position_or_len p xs) x x there)
    (passes_at_first p xs x (slice_get_within xs (position_or_len p xs) x there))

-- a line of the table begins with its name
pub named : (ws : List (List ℕ)) (line : Line) → line_of ws ≡ Some line → word ws 0 ≡ (row line).name
unfolding line_of
named ws line h =
    (bytes_eq-Decides (word ws 0) (row line).name).0
    (and_parts (bytes_eq (word ws 0) (row line).name) (option_map_or (is_key ws) (row line).key true)
    (and_parts (has_verb ws (row line).verb)
    (bytes_eq (word ws 0) (row line).name && option_map_or (is_key ws) (row line).key true)
    (find_passes (line_fits ws) line_table line h)).1).0

-- the lines of each name with a line of the table more
lines_with : (line : Line) (before : List (List ℕ)) (text : List ℕ) → line_of (words text) ≡ Some line → (other : Line)
    → lines_of other (before ++ text ∷ []) ≡ more text (row line).name other (lines_of other before)
lines_with line before text l other =
    lines_more other before text ∙ ap (λ name. more text name other (lines_of other before)) (named (words text) line l)

-- what one more says
pub settings_with : (line : Line) (before : List (List ℕ)) (text : List ℕ) → line_of (words text) ≡ Some line
    → (is_single line && stands line before) ≡ false
    → settings (before ++ text ∷ []) ≡ with_line line (words text) (settings before)
settings_with Restart before text l s =
    simp (lines_with Restart before text l, none_of_name Restart Stop refl before s, l)
settings_with Threshold before text l s =
    simp (lines_with Threshold before text l, none_of_name Threshold Stop refl before s, l)
settings_with FilterStrict before text l s =
    simp (lines_with FilterStrict before text l, none_of_name FilterStrict FilterOpen refl before s, l)
settings_with StorageFault before text l s = simp (lines_with StorageFault before text l, map-append)
settings_with Random before text l s = simp (lines_with Random before text l, flat_map-append, append-nil)
settings_with Input before text l s = simp (lines_with Input before text l, map-append, l)
settings_with Press before text l s = simp (lines_with Press before text l, map-append, l)
settings_with Release before text l s = simp (lines_with Release before text l, map-append, l)
settings_with Act before text l s = simp (lines_with Act before text l, map-append, l)
settings_with line before text l s = simp (lines_with line before text l, none_of_name line line refl before s, l)

pub stood_with : (line : Line) (before : List (List ℕ)) (text : List ℕ) → line_of (words text) ≡ Some line
    → stood_in (before ++ text ∷ []) ≡ stood_after line (stood_in before)
stood_with Ram before text l = simp (lines_with Ram before text l, stands_now)
stood_with line before text l = simp (lines_with line before text l, stands_now)

-- a line that is skipped begins with no name
begins_not : (w name : List ℕ) → ((bytes : List ℕ) → bytes_eq (35 ∷ bytes) name ≡ false)
    → (slice_index w 0 == 35) ≡ true → bytes_eq w name ≡ false
begins_not [] name other h = cc
begins_not (b ∷ bytes) name other h =
    subst (λ n. bytes_eq (n ∷ bytes) name ≡ false) (sym (eqb-true b 35 h)) (other bytes)

not_named : (ws : List (List ℕ)) (line : Line) → ((bytes : List ℕ) → bytes_eq (35 ∷ bytes) (row line).name ≡ false)
    → bytes_eq [] (row line).name ≡ false → skips ws ≡ true → bytes_eq (word ws 0) (row line).name ≡ false
not_named [] line other none h = none
not_named (w ∷ ws) line other none h = begins_not w (row line).name other h

lines_skipped : (before : List (List ℕ)) (text : List ℕ) → skips (words text) ≡ true → (line : Line)
    → lines_of line (before ++ text ∷ []) ≡ lines_of line before
lines_skipped before text h Ram = lines_more Ram before text ∙ rw (not_named (words text) Ram (λ b. refl) refl h)
lines_skipped before text h line = lines_more line before text ∙ rw (not_named (words text) line (λ b. refl) refl h)

pub settings_skipped : (before : List (List ℕ)) (text : List ℕ) → skips (words text) ≡ true
    → settings (before ++ text ∷ []) ≡ settings before
settings_skipped before text h = simp (lines_skipped before text h)

pub stood_skipped : (before : List (List ℕ)) (text : List ℕ) → skips (words text) ≡ true
    → stood_in (before ++ text ∷ []) ≡ stood_in before
stood_skipped before text h = simp (lines_skipped before text h)
