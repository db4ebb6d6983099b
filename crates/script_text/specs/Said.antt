-- What lines say that have no fault. It is this board's own rule.
use Rattle.std.specs.Prelude.{ℕ, ◌-◌, Bool, true, false, List, [], map, filter, flat_map, length, drop}
use Rattle.std.specs.Prelude.{slice_index, slice_index_or, Option, Some, unwrap_or}
use Rattle.std.specs.Int.{w32, from_be_bytes}
use Rattle.std.specs.Option.{option_map_or}
use Rattle.std.specs.Result.{result_unwrap_or}
use Rattle.std.specs.Str.{bytes_eq}
use Rattle.hex.specs.Hex.{decode_of}
use Rattle.decimal_number.specs.Number.{number}
use Rattle.fault_policy.specs.declared.Policy.{Policy}
use Rattle.fault_policy.specs.declared.Policy.TheVariants as policies
use Rattle.tk_base.specs.declared.process.Verb.TheVariants as verbs
use Rattle.tk_base.specs.Verbs.{verb_of}
use Rattle.script_text.specs.declared.table.Line.{Line}
use Rattle.script_text.specs.declared.table.Line.TheVariants.{Ram, Leds, Buttons, Slice, Partition, Start, Uart}
use Rattle.script_text.specs.declared.table.Line.TheVariants.{Storage, Stop, Restart, Threshold, FilterOpen}
use Rattle.script_text.specs.declared.table.Line.TheVariants.{FilterStrict, StorageFault, Random, Input}
use Rattle.script_text.specs.declared.table.Line.TheVariants.{Press, Release, Act}
use Rattle.script_text.specs.Settings as kinds
use Rattle.script_text.specs.Settings.{ScriptSettings, ScriptEvent, EventKind}
use Rattle.script_text.specs.Table.{row, line_of}
use Rattle.script_text.specs.Text.{words, word}

-- those that begin with the name of a line of the table
unfoldable pub lines_of : Line → List (List ℕ) → List (List ℕ)
lines_of line all = filter (λ text. bytes_eq (word (words text) 0) (row line).name) all

-- the numbers that come second in these lines, in their order
abbrev pub numbers_of : Line → List (List ℕ) → List ℕ
numbers_of line all = map (λ text. number (word (words text) 1)) (lines_of line all)

-- the number that the first such line gives, or that holds where there is none
abbrev pub number_said : Line → List (List ℕ) → ℕ
number_said line all = slice_index_or (numbers_of line all) 0 (row line).default

-- the policy that a line names
abbrev pub policy_by : Line → List (List ℕ) → Policy
policy_by Restart ws = policies.Restart
policy_by Threshold ws = policies.Threshold (number (word ws 2))
policy_by line ws = policies.Stop

-- the policy that a `policy` line names
abbrev pub policy_on : List ℕ → Policy
policy_on text = option_map_or (λ line. policy_by line (words text)) (line_of (words text)) policies.Stop

-- the filter that a line names is the strict one
abbrev pub is_strict : Option Line → Bool
is_strict (Some FilterStrict) = true
is_strict line = false

-- the bytes that hex digits write, two for each
unfoldable pub hex_bytes : List ℕ → List ℕ
hex_bytes w = result_unwrap_or (decode_of w) []

-- the words that a `random` line gives, each by eight hex digits
abbrev pub words_on : List ℕ → List ℕ
words_on text = map (λ w. from_be_bytes w32 (hex_bytes w)) (drop 1 (words text))

-- what comes by a line of an event: the bytes that its hex digits write, or what becomes of a button, or of a
-- process: the line of an act has a verb
abbrev pub kind_by : Line → List (List ℕ) → EventKind
kind_by Press ws = kinds.Press (number (word ws 3))
kind_by Release ws = kinds.Release (number (word ws 3))
kind_by Act ws = kinds.Act (unwrap_or (verb_of (word ws 3)) verbs.List) (word ws 4)
kind_by line ws = kinds.Input (hex_bytes (word ws 3))

-- the event of a line, at its time
abbrev pub event_by : Line → List (List ℕ) → ScriptEvent
event_by line ws = record { time = number (word ws 1); kind = kind_by line ws }

-- the event of an `at` line
abbrev pub event_on : List ℕ → ScriptEvent
event_on text = option_map_or (λ line. event_by line (words text)) (line_of (words text)) (event_by Input [])

-- the settings of all lines
abbrev pub settings : List (List ℕ) → ScriptSettings
settings all = record {
  ram = number_said Ram all;
  leds = number_said Leds all;
  buttons = number_said Buttons all;
  slice = number_said Slice all;
  partition = number_said Partition all;
  start = number_said Start all;
  uart = number_said Uart all;
  storage = number_said Storage all;
  policy = slice_index_or (map policy_on (lines_of Stop all)) 0 policies.Stop;
  strict = slice_index_or (map (λ text. is_strict (line_of (words text))) (lines_of FilterOpen all)) 0 false;
  faults = numbers_of StorageFault all;
  words = flat_map words_on (lines_of Random all);
  events = map event_on (lines_of Input all);
}

-- the last of some numbers, or 0
abbrev pub last : List ℕ → ℕ
last xs = slice_index xs (length xs - 1)
