-- How the lines are gone through.
use Rattle.std.proofs.Common.{◌≡◌, ◌+◌, ◌-◌, ◌≤◌, ℕ, Bool, true, false, not, cond, List, [], ◌∷◌, ◌++◌, length, take}
use Rattle.std.proofs.Common.{drop, get_or, filter_map, option_map, Option, Some, None, Ok, Err, refl, sym, ap, ◌∙◌}
use Rattle.std.proofs.Common.{arith}
use Rattle.std.proofs.lemmas.List.{drop-drop, length-drop, get_or-drop, take_more, length-map, take_all}
use Rattle.std.proofs.lemmas.List.Splits.{length-slice_split}
use Rattle.std.proofs.lemmas.List.Sums.{count_by-le-length, length-filter}
use Rattle.std.specs.List.{enumerate_from, slice_split, cons_option}
use Rattle.script_text.specs.Settings.{ScriptSettings}
use Rattle.script_text.specs.declared.rule.ScriptRule.{ScriptRule}
use Rattle.script_text.specs.Text.{lines, words, without_return, without_empty_last}
use Rattle.script_text.specs.Parts.{is_line_feed, is_blank, is_empty}
use Rattle.script_text.specs.Rules.{broken}
use Rattle.script_text.specs.Reading.{fault_of, faults, unless_fault, reading}
use Rattle.script_text.specs.Said.{settings}

-- the line after the first n
line_is : (all : List (List ℕ)) (n : ℕ) (line : List ℕ) (rest : List (List ℕ)) → drop n all ≡ line ∷ rest
    → get_or all n [] ≡ line
line_is all n line rest h =
    let at : n + 0 ≡ n = omega arith in
    ap (λ k. get_or all k []) (sym at) ∙ sym (get_or-drop n all 0 []) ∙ ap (λ ls. get_or ls 0 []) h

pub one_passed : (all : List (List ℕ)) (n : ℕ) (line : List ℕ) (rest : List (List ℕ)) → drop n all ≡ line ∷ rest
    → n + 1 ≤ length all
one_passed all n line rest h = omega (arith, length-drop n all, ap length h)

pub one_less : (all : List (List ℕ)) (n : ℕ) (line : List ℕ) (rest : List (List ℕ)) → drop n all ≡ line ∷ rest
    → rest ≡ drop (n + 1) all
one_less all n line rest h = sym (ap (drop 1) h) ∙ drop-drop 1 n all

pub one_more : (all : List (List ℕ)) (n : ℕ) (line : List ℕ) (rest : List (List ℕ)) → drop n all ≡ line ∷ rest
    → take (n + 1) all ≡ take n all ++ line ∷ []
one_more all n line rest h =
    take_more all n [] (omega (arith, one_passed all n line rest h))
    ∙ ap (λ l. take n all ++ l ∷ []) (line_is all n line rest h)

-- the fault of the line after the first n
fault_is : (all : List (List ℕ)) (n : ℕ) (line : List ℕ)
    → fault_of all (n + 1, line) ≡ option_map (λ rule. record { line = n + 1; rule = rule }) (broken (take n all) line)
fault_is all n line =
    let before : n + 1 - 1 ≡ n = omega arith in
    ap (λ k. option_map (λ rule. record { line = n + 1; rule = rule }) (broken (take k all) line)) before

left : (all : List (List ℕ)) (n : ℕ) (line : List ℕ) (rest : List (List ℕ)) (o : Option ScriptRule)
    → drop n all ≡ line ∷ rest → broken (take n all) line ≡ o
    → filter_map (fault_of all) (enumerate_from (n + 1) (drop n all))
    ≡ cons_option (option_map (λ rule. record { line = n + 1; rule = rule }) o)
    (filter_map (fault_of all) (enumerate_from (n + 1 + 1) (drop (n + 1) all)))
left all n line rest o h b =
    ap (λ ls. filter_map (fault_of all) (enumerate_from (n + 1) ls))
    (h ∙ ap (λ ls. line ∷ ls) (one_less all n line rest h))
    ∙ ap (λ f. cons_option f (filter_map (fault_of all) (enumerate_from (n + 1 + 1) (drop (n + 1) all))))
    (fault_is all n line ∙ ap (option_map (λ rule. record { line = n + 1; rule = rule })) b)

-- a line without a fault leaves the faults to those after it
pub unbroken_more : (all : List (List ℕ)) (n : ℕ) (line : List ℕ) (rest : List (List ℕ)) → drop n all ≡ line ∷ rest
    → broken (take n all) line ≡ None
    → filter_map (fault_of all) (enumerate_from (n + 1) (drop n all)) ≡ faults all
    → filter_map (fault_of all) (enumerate_from (n + 1 + 1) (drop (n + 1) all)) ≡ faults all
unbroken_more all n line rest h b e = sym (left all n line rest None h b) ∙ e

-- one with a fault is the first
pub broken_first : (script : List ℕ) (n : ℕ) (line : List ℕ) (rest : List (List ℕ)) (rule : ScriptRule)
    → drop n (lines script) ≡ line ∷ rest → broken (take n (lines script)) line ≡ Some rule
    → filter_map (fault_of (lines script)) (enumerate_from (n + 1) (drop n (lines script))) ≡ faults (lines script)
    → reading script ≡ Err (record { line = n + 1; rule = rule })
unfolding reading
broken_first script n line rest rule h b e =
    ap (λ fs. unless_fault fs (settings (lines script))) (sym e ∙ left (lines script) n line rest (Some rule) h b)

pub no_faults_before : (all : List (List ℕ)) → filter_map (fault_of all) (enumerate_from 1 all) ≡ faults all
unfolding faults
no_faults_before all = refl

-- where no line is left there is no fault
pub settings_read : (script : List ℕ) (n : ℕ) (settled : ScriptSettings) → drop n (lines script) ≡ []
    → filter_map (fault_of (lines script)) (enumerate_from (n + 1) (drop n (lines script))) ≡ faults (lines script)
    → settled ≡ settings (lines script) → reading script ≡ Ok settled
unfolding reading
settings_read script n settled h e s =
    ap (λ fs. unless_fault fs (settings (lines script)))
    (sym e ∙ ap (λ ls. filter_map (fault_of (lines script)) (enumerate_from (n + 1) ls)) h) ∙ ap Ok (sym s)

pub all_passed : (all : List (List ℕ)) (n : ℕ) → drop n all ≡ [] → take n all ≡ all
all_passed all n h = take_all n all (omega (arith, length-drop n all, ap length h))

-- no script has many more lines than bytes
shorter_by : (piece : List ℕ) (last : Bool) → length (cond last [] (piece ∷ [])) ≤ 1
shorter_by piece true = omega arith
shorter_by piece false = omega arith

shorter : (pieces : List (List ℕ)) → length (without_empty_last pieces) ≤ length pieces
shorter [] = omega arith
shorter (piece ∷ []) = shorter_by piece (is_empty piece)
shorter (piece ∷ next ∷ more) = omega (arith, shorter (next ∷ more))

pub few_lines : (script : List ℕ) → length (lines script) ≤ length script + 1
unfolding lines
few_lines script =
    let pieces = slice_split is_line_feed script in
    omega (
      arith,
      length-map (without_empty_last pieces) without_return,
      shorter pieces,
      length-slice_split is_line_feed script,
      count_by-le-length is_line_feed script,
    )

-- nor a line many more words
pub few_words : (line : List ℕ) → length (words line) ≤ length line + 1
unfolding words
few_words line =
    let pieces = slice_split is_blank line in
    omega (
      arith,
      length-filter (λ w. not (is_empty w)) pieces,
      count_by-le-length (λ w. not (is_empty w)) pieces,
      length-slice_split is_blank line,
      count_by-le-length is_blank line,
    )

pub ruleset going_on = (
  few_lines,
  one_passed,
  one_less,
  one_more,
  unbroken_more,
  broken_first,
  no_faults_before,
  settings_read,
  all_passed,
)
