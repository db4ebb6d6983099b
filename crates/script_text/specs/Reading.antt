-- The reading of a script: what it says, or its first bad line. It is this board's own rule.
use Rattle.std.specs.Prelude.{◌≡◌, ℕ, ◌-◌, List, [], ◌∷◌, take, filter_map, Option, option_map, Result, Ok, Err}
use Rattle.std.specs.List.{enumerate_from}
use Rattle.script_text.specs.declared.rule.ScriptError.{ScriptError}
use Rattle.script_text.specs.declared.rule.ScriptError.TheVariants.{Bad, Memory}
use Rattle.script_text.specs.declared.rule.ScriptRule.{ScriptRule}
use Rattle.script_text.specs.Settings.{ScriptSettings}
use Rattle.script_text.specs.Text.{lines}
use Rattle.script_text.specs.Rules.{broken}
use Rattle.script_text.specs.Said.{settings}

-- a line's number, from 1, and the first rule that it breaks
pub record Fault : Type 0 where
  pub line : ℕ
  pub rule : ScriptRule

-- the fault of line n, which breaks a rule with the lines before it
abbrev pub fault_of : List (List ℕ) → ℕ × List ℕ → Option Fault
fault_of all line = option_map (λ rule. record { line = line.0; rule = rule }) (broken (take (line.0 - 1) all) line.1)

-- the faults of all lines, in the lines' order
unfoldable pub faults : List (List ℕ) → List Fault
faults all = filter_map (fault_of all) (enumerate_from 1 all)

-- the settings, unless there is a fault: then the first one
abbrev pub unless_fault : List Fault → ScriptSettings → Result ScriptSettings Fault
unless_fault [] said = Ok said
unless_fault (fault ∷ more) said = Err fault

-- the reading of a script's bytes
unfoldable pub reading : List ℕ → Result ScriptSettings Fault
reading script = unless_fault (faults (lines script)) (settings (lines script))

-- what was read is the reading, unless there was no memory for it
abbrev pub Reads : Result ScriptSettings ScriptError → Result ScriptSettings Fault → Type 0
Reads (Ok said) read = read ≡ Ok said
Reads (Err (Bad line rule)) read = read ≡ Err (record { line = line; rule = rule })
Reads (Err Memory) read = Unit {0}
