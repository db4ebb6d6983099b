-- The first rule that a line breaks, from what was found of it. The rules are tests in their order (`first_of`), so the
-- first one that holds decides: those that look at a line alone come first (`bad_alone`), and where none of them holds
-- the line is one of the table (`IsLine`), and the last three look at those before it (`last_of`).
use Rattle.std.proofs.Common.{◌≡◌, ◌==◌, ◌&&◌, ℕ, Bool, true, false, cond, List, ◌∷◌, slice_index, Option, Some}
use Rattle.std.proofs.Common.{None, refl, sym, ap, ◌∙◌}
use Rattle.script_text.specs.declared.rule.ScriptRule.{ScriptRule}
use Rattle.script_text.specs.declared.rule.ScriptRule.TheVariants.{UnknownWord, Words, BadNumber, BadHex, OutOfRange}
use Rattle.script_text.specs.declared.rule.ScriptRule.TheVariants.{Repeated, Order, TooMany}
use Rattle.script_text.specs.declared.line.Context.{Context}
use Rattle.script_text.specs.declared.table.Form.{Form}
use Rattle.script_text.specs.declared.table.Line.{Line}
use Rattle.script_text.specs.Alone.{IsLine, broken_alone}
use Rattle.script_text.specs.Rules.{skips, miscounts, misspells, has_bad_hex, is_outside, is_single}
use Rattle.script_text.specs.Parts.{context_of}
use Rattle.script_text.specs.Rules.{is_unknown, disorders, exceeds, broken}
use Rattle.script_text.specs.Said.{settings}
use Rattle.script_text.specs.Parts.{stands}
use Rattle.script_text.specs.Table.{row, line_of}
use Rattle.script_text.specs.Text.{words}

-- a line of the table breaks one of the rules that look at those before it, or none
abbrev pub last_of : Bool → Bool → Bool → Option ScriptRule
last_of again order many = cond again (Some Repeated) (cond order (Some Order) (cond many (Some TooMany) None))

-- the first of the rules that a line breaks, from the tests of all of them
abbrev first_of : Bool → Bool → Bool → Bool → Bool → Bool → Bool → Bool → Option ScriptRule
first_of unknown counts spells hex outside again order many =
    cond unknown (Some UnknownWord)
    (cond counts (Some Words)
    (cond spells (Some BadNumber)
    (cond hex (Some BadHex)
    (cond outside (Some OutOfRange) (last_of again order many)))))

-- a line that is skipped breaks no rule
pub skipped_is_whole : (before : List (List ℕ)) (text : List ℕ) → skips (words text) ≡ true → broken before text ≡ None
unfolding broken
skipped_is_whole before text h = rw h refl

-- the first rule that a line of the table breaks, from whether it is unknown
abbrev of_line : List (List ℕ) → List (List ℕ) → Line → Bool → Option ScriptRule
of_line before ws line unknown =
    first_of unknown (miscounts (row line).form ws) (misspells (row line).form ws)
    (has_bad_hex (row line).form ws) (is_outside (settings before).buttons (row line).form ws)
    (is_single line && stands line before) (disorders line (settings before) ws) (exceeds line (settings before) ws)

broken_by : (before : List (List ℕ)) (text : List ℕ) (line : Line) → skips (words text) ≡ false
    → line_of (words text) ≡ Some line
    → broken before text ≡ of_line before (words text) line (is_unknown (context_of (settings before)).is_partitioned
    line)
unfolding broken
broken_by before text line s l = rw (s, l) refl

-- the same of a line that is known
known_by : (before : List (List ℕ)) (text : List ℕ) (line : Line) → skips (words text) ≡ false
    → line_of (words text) ≡ Some line → is_unknown (context_of (settings before)).is_partitioned line ≡ false
    → broken before text ≡ of_line before (words text) line false
known_by before text line s l k = broken_by before text line s l ∙ ap (of_line before (words text) line) k

pub unknown_word : (text w : List ℕ) (rest : List (List ℕ)) (context : Context) → words text ≡ w ∷ rest
    → (slice_index w 0 == 35) ≡ false → line_of (words text) ≡ None → (before : List (List ℕ))
    → context_of (settings before) ≡ context → broken before text ≡ Some UnknownWord
unfolding broken
unknown_word text w rest context h e l before same = rw (ap skips h ∙ e, l) refl

pub not_known : (text w : List ℕ) (rest : List (List ℕ)) (line : Line) (context : Context) → words text ≡ w ∷ rest
    → (slice_index w 0 == 35) ≡ false → line_of (words text) ≡ Some line → is_unknown context.is_partitioned line ≡ true
    → (before : List (List ℕ)) → context_of (settings before) ≡ context → broken before text ≡ Some UnknownWord
not_known text w rest line context h e l u before same =
    broken_by before text line (ap skips h ∙ e) l
    ∙ ap (of_line before (words text) line) (ap (λ (c : Context). is_unknown c.is_partitioned line) same ∙ u)

-- the rules that look at a known line alone come first
abbrev alone_of : Bool → Bool → Bool → Bool → Option ScriptRule
alone_of counts spells hex outside =
    cond counts (Some Words) (cond spells (Some BadNumber)
    (cond hex (Some BadHex) (cond outside (Some OutOfRange) None)))

come_first : (c s h o a r m : Bool) (rule : ScriptRule) → alone_of c s h o ≡ Some rule
    → first_of false c s h o a r m ≡ Some rule
come_first false false false false a r m rule e = cc
come_first c s h o a r m rule e = e

breaks_no : (c s h o : Bool) → alone_of c s h o ≡ None → (c ≡ false) × (s ≡ false) × (h ≡ false) × (o ≡ false)
breaks_no false false false false e = (refl, refl, refl, refl)
breaks_no c s h o e = cc

pub bad_alone : (text w : List ℕ) (rest : List (List ℕ)) (line : Line) (form : Form) (context : Context)
    (rule : ScriptRule) → words text ≡ w ∷ rest → (slice_index w 0 == 35) ≡ false → line_of (words text) ≡ Some line
    → is_unknown context.is_partitioned line ≡ false → form ≡ (row line).form → broken_alone context form (words
    text) ≡ Some rule
    → (before : List (List ℕ))
    → context_of (settings before) ≡ context → broken before text ≡ Some rule
bad_alone text w rest line form context rule h e l k f b before same =
    let ws = words text in
    known_by before text line (ap skips h ∙ e) l (ap (λ (c : Context). is_unknown c.is_partitioned line) same ∙ k)
    ∙ come_first _ _ _ _ _ _ _ rule (ap (λ k. broken_alone (context_of (settings before)) k ws) (sym f)
    ∙ ap (λ (c : Context). broken_alone c form ws) same ∙ b)

pub good_alone : (text w : List ℕ) (rest : List (List ℕ)) (line : Line) (form : Form) (context : Context)
    → words text ≡ w ∷ rest → (slice_index w 0 == 35) ≡ false → line_of (words text) ≡ Some line
    → is_unknown context.is_partitioned line ≡ false → form ≡ (row line).form → broken_alone context form (words
    text) ≡ None
    → IsLine context (words text) line
good_alone text w rest line form context h e l k f b =
    let ws = words text in
    let none = breaks_no (miscounts (row line).form ws) (misspells (row line).form ws) (has_bad_hex (row line).form ws)
    (is_outside context.buttons (row line).form ws) (ap (λ f. broken_alone context f ws) (sym f) ∙ b) in
    record {
      goes_on = ap skips h ∙ e;
      is = l;
      known = k;
      counted = none.0;
      spelled = none.1;
      hex = none.2;
      within = none.3;
    }

pub broken_after : (before : List (List ℕ)) (text : List ℕ) (line : Line)
    → IsLine (context_of (settings before)) (words text) line
    → broken before text
    ≡ last_of (is_single line && stands line before) (disorders line (settings before) (words text))
    (exceeds line (settings before) (words text))
broken_after before text line h =
    known_by before text line h.goes_on h.is h.known ∙ rw (h.counted, h.spelled, h.hex, h.within) refl

pub ruleset refusals = (unknown_word, not_known)
