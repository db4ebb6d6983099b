-- Only proofs use this: what was found of a line that is looked at alone, beside its context.
use Rattle.std.specs.Prelude.{◌≡◌, ℕ, true, false, if◌then◌else◌, List, Option, Some, None, Result, Ok, Err}
use Rattle.script_text.specs.declared.line.Context.{Context}
use Rattle.script_text.specs.declared.rule.ScriptRule.{ScriptRule}
use Rattle.script_text.specs.declared.rule.ScriptRule.TheVariants.{Words, BadNumber, BadHex, OutOfRange}
use Rattle.script_text.specs.declared.table.Form.{Form}
use Rattle.script_text.specs.declared.table.Line.{Line}
use Rattle.script_text.specs.Rules.{skips, miscounts, misspells, has_bad_hex, is_outside, is_unknown}
use Rattle.script_text.specs.Parts.{context_of}
use Rattle.script_text.specs.Rules.{broken}
use Rattle.script_text.specs.Said.{settings}
use Rattle.script_text.specs.Table.{row, line_of}
use Rattle.script_text.specs.Text.{words}

-- the first rule that words break where they are looked at alone in a context
abbrev pub broken_alone : Context → Form → List (List ℕ) → Option ScriptRule
broken_alone context form ws =
    if miscounts form ws then Some Words
    else if misspells form ws then Some BadNumber
    else if has_bad_hex form ws then Some BadHex
    else if is_outside context.buttons form ws then Some OutOfRange
    else None

-- these words are those of a line of the table, which break no rule where they are looked at alone
pub record IsLine (context : Context) (ws : List (List ℕ)) (line : Line) : Type 0 where
  pub goes_on : skips ws ≡ false
  pub is : line_of ws ≡ Some line
  pub known : is_unknown context.is_partitioned line ≡ false
  pub counted : miscounts (row line).form ws ≡ false
  pub spelled : misspells (row line).form ws ≡ false
  pub hex : has_bad_hex (row line).form ws ≡ false
  pub within : is_outside context.buttons (row line).form ws ≡ false

-- what is found of a line alone: it is skipped, it is a line of the table, or it breaks a rule
abbrev pub Says : Context → List ℕ → Result (Option Line) ScriptRule → Type 0
Says context text (Ok None) = skips (words text) ≡ true
Says context text (Ok (Some line)) = IsLine context (words text) line
Says context text (Err rule) =
    (before : List (List ℕ)) → context_of (settings before) ≡ context → broken before text ≡ Some rule
