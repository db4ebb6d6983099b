-- That no two rules share a word, so that a trace tells which one was broken. The words are this tool's own.
use Rattle.std.specs.Prelude.{◌≡◌, ℕ, List}
use Rattle.tk_base.specs.declared.access.Rule.{Rule}
use Rattle.tk_base.specs.declared.call.CallRule.{CallRule}
use Rattle.board_report.specs.Words.{call_rule_text, rule_text}

-- two of a kind are the same where their words are
abbrev pub AreToldApart : {A : Type 0} → (A → List ℕ) → A → A → Type 0
AreToldApart text a b = text a ≡ text b → a ≡ b

-- so are rules by which calls are refused, and rules by which accesses are denied
pub record RulesHaveWordsOfTheirOwn : Type 0 where
  pub calls : (a b : CallRule) → AreToldApart call_rule_text a b
  pub accesses : (a b : Rule) → AreToldApart rule_text a b
