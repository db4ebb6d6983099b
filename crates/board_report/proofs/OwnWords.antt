-- Each word is read back as its rule.
use Rattle.std.proofs.Common.{◌≡◌, ℕ, List, [], ◌∷◌, find, Option, Some, refl, sym, ap, ◌∙◌}
use Rattle.std.proofs.lemmas.Option.{same_Some}
use Rattle.std.specs.Prelude.{bytes_eq}
use Rattle.tk_base.specs.declared.access.Rule.{Rule}
use Rattle.tk_base.specs.declared.access.Rule.TheVariants.{NoRegion, NoExecute, NoWrite, NoRead, Misaligned, Illegal}
use Rattle.tk_base.specs.declared.access.Rule.TheVariants.{Breakpoint, UnknownClass}
use Rattle.tk_base.specs.declared.call.CallRule.{CallRule}
use Rattle.tk_base.specs.declared.call.CallRule.TheVariants as calls
use Rattle.board_report.specs.Words.{call_rule_text, rule_text}
use Rattle.board_report.specs.OwnWords.{RulesHaveWordsOfTheirOwn}

-- the first rule of some whose word it is
abbrev read_as : {R : Type 0} → (R → List ℕ) → List R → List ℕ → Option R
read_as text rules word = find (λ rule. bytes_eq (text rule) word) rules

abbrev call_rules : List CallRule
call_rules =
    calls.Permission ∷ calls.NoDriver ∷ calls.NoNumber ∷ calls.NoCommand ∷ calls.NoOperation ∷ calls.Outside
    ∷ calls.Range ∷ calls.NoRoom ∷ calls.Break ∷ calls.Busy ∷ calls.Empty ∷ calls.Nothing ∷ calls.Index ∷ []

abbrev access_rules : List Rule
access_rules = NoRegion ∷ NoExecute ∷ NoWrite ∷ NoRead ∷ Misaligned ∷ Illegal ∷ Breakpoint ∷ UnknownClass ∷ []

call_read : (rule : CallRule) → read_as call_rule_text call_rules (call_rule_text rule) ≡ Some rule
call_read calls.Permission = refl
call_read rule = refl

access_read : (rule : Rule) → read_as rule_text access_rules (rule_text rule) ≡ Some rule
access_read NoRegion = refl
access_read rule = refl

pub rules_have_words_of_their_own : RulesHaveWordsOfTheirOwn
rules_have_words_of_their_own = record {
  calls = λ a b same. same_Some a b (sym (call_read a) ∙ ap (read_as call_rule_text call_rules) same ∙ call_read b);
  accesses = λ a b same. same_Some a b (sym (access_read a) ∙ ap (read_as rule_text access_rules) same ∙ access_read b);
}
