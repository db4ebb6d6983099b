-- The rules that a line may break. They are this board's own.
use Rattle.std.specs.Prelude.{ℕ, ◌+◌, ◌/◌, ◌%◌, ◌==◌, Bool, true, false, not, ◌&&◌, ◌||◌, nat_le, nat_lt, if◌then◌else◌}
use Rattle.std.specs.Prelude.{List, [], ◌∷◌, map, length, drop, find, position, slice_index, codes, Option, is_some}
use Rattle.std.specs.Prelude.{is_none}
use Rattle.std.specs.Option.{option_map_or}
use Rattle.std.specs.Str.{bytes_eq}
use Rattle.tk_base.specs.declared.limits.TheConstants.{EVENT_LIMIT, FAULT_LIMIT, INPUT_LIMIT, WORD_LIMIT}
use Rattle.hex.specs.Hex.{is_hex_digit}
use Rattle.script_text.specs.declared.rule.ScriptRule.{ScriptRule}
use Rattle.script_text.specs.declared.rule.ScriptRule.TheVariants.{UnknownWord, Words, BadNumber, BadHex, OutOfRange}
use Rattle.script_text.specs.declared.rule.ScriptRule.TheVariants.{Repeated, Order, TooMany}
use Rattle.script_text.specs.declared.table.Form.{Form}
use Rattle.script_text.specs.declared.table.Line.{Line}
use Rattle.script_text.specs.declared.table.Line.TheVariants.{Buttons, StorageFault, Random, Input, Press, Release, Act}
use Rattle.decimal_number.specs.Number.{is_number, number}
use Rattle.script_text.specs.Settings.{ScriptSettings, is_name}
use Rattle.script_text.specs.Table.{row, in_range, line_of}
use Rattle.script_text.specs.Text.{words, word}
use Rattle.script_text.specs.Said.{settings, lines_of, last}

-- a line is skipped where it has no words, or its first word begins with `#`
abbrev pub skips : List (List ℕ) → Bool
skips [] = true
skips (w ∷ more) = slice_index w 0 == 35

-- a word has as many digits as are asked for, or an even number where none is asked
abbrev pub has_digits : Option ℕ → List ℕ → Bool
has_digits digits w = option_map_or (λ n. length w == n) digits (length w % 2 == 0)

-- a word is hex: no byte of it is anything but a hex digit, of either case
abbrev pub is_hex : Option ℕ → List ℕ → Bool
is_hex digits w = is_none (position (λ byte. not (is_hex_digit byte)) w) && has_digits digits w

-- the number of words is wrong
abbrev pub miscounts : Form → List (List ℕ) → Bool
miscounts form ws = not (if form.more then nat_le form.words (length ws) else length ws == form.words)

-- a number, or that of a button, is not written as one
abbrev pub misspells : Form → List (List ℕ) → Bool
misspells form ws =
    option_map_or (λ n. not (is_number (word ws n.place))) form.number false
    || option_map_or (λ place. not (is_number (word ws place))) form.button false

-- a word that has to be hex is not
abbrev pub has_bad_hex : Form → List (List ℕ) → Bool
has_bad_hex form ws =
    option_map_or (λ h. is_some (find (λ w. not (is_hex h.digits w)) (drop h.place ws))) form.hex false

-- a line is not known: one of buttons or of an operator, where there are time partitions
abbrev pub is_unknown : Bool → Line → Bool
is_unknown is_partitioned Buttons = is_partitioned
is_unknown is_partitioned Press = is_partitioned
is_unknown is_partitioned Release = is_partitioned
is_unknown is_partitioned Act = is_partitioned
is_unknown is_partitioned line = false

-- a name is none, a number is outside its range, or it is that of no button, of which there are so many
abbrev pub is_outside : ℕ → Form → List (List ℕ) → Bool
is_outside buttons form ws =
    option_map_or (λ place. not (is_name (word ws place))) form.name false
    || (option_map_or (λ n. not (in_range n.range (number (word ws n.place)))) form.number false
    || option_map_or (λ place. nat_le buttons (number (word ws place))) form.button false)

-- a line of what comes at a time
abbrev pub is_event : Line → Bool
is_event line = bytes_eq (row line).name (codes "at")

-- a line may not repeat
abbrev pub is_single : Line → Bool
is_single StorageFault = false
is_single Random = false
is_single line = not (is_event line)

-- where lines said this: times do not fall, the numbers of faults rise, and no other line stands after an event
abbrev pub disorders : Line → ScriptSettings → List (List ℕ) → Bool
disorders StorageFault said ws = nat_lt 0 (length said.events) || nat_le (number (word ws 1)) (last said.faults)
disorders line said ws =
    if is_event line then nat_lt (number (word ws 1)) (last (map (λ e. e.time) said.events))
    else nat_lt 0 (length said.events)

-- so many faults, words, events and bytes in each event there may be
abbrev pub exceeds : Line → ScriptSettings → List (List ℕ) → Bool
exceeds StorageFault said ws = nat_le FAULT_LIMIT (length said.faults)
exceeds Random said ws = nat_lt WORD_LIMIT (length said.words + length (drop 1 ws))
exceeds Input said ws = nat_le EVENT_LIMIT (length said.events) || nat_lt INPUT_LIMIT (length (word ws 3) / 2)
exceeds line said ws = is_event line && nat_le EVENT_LIMIT (length said.events)

-- a line of the table breaks a rule with its words, where these lines stand before it
abbrev pub breaks_rule : ScriptRule → List (List ℕ) → List (List ℕ) → Line → Bool
breaks_rule UnknownWord before ws line = is_unknown (nat_lt 0 (settings before).partition) line
breaks_rule Words before ws line = miscounts (row line).form ws
breaks_rule BadNumber before ws line = misspells (row line).form ws
breaks_rule BadHex before ws line = has_bad_hex (row line).form ws
breaks_rule OutOfRange before ws line = is_outside (settings before).buttons (row line).form ws
breaks_rule Repeated before ws line = is_single line && nat_lt 0 (length (lines_of line before))
breaks_rule Order before ws line = disorders line (settings before) ws
breaks_rule TooMany before ws line = exceeds line (settings before) ws

-- a line breaks a rule, where these lines stand before it
abbrev pub breaks : ScriptRule → List (List ℕ) → List (List ℕ) → Bool
breaks UnknownWord before ws = option_map_or (breaks_rule UnknownWord before ws) (line_of ws) true
breaks rule before ws = option_map_or (breaks_rule rule before ws) (line_of ws) false

-- the rules in the order in which they count
abbrev pub in_order : List ScriptRule
in_order = UnknownWord ∷ Words ∷ BadNumber ∷ BadHex ∷ OutOfRange ∷ Repeated ∷ Order ∷ TooMany ∷ []

-- the first rule that a line breaks
unfoldable pub broken : List (List ℕ) → List ℕ → Option ScriptRule
broken before line = find (λ rule. not (skips (words line)) && breaks rule before (words line)) in_order

-- the rules as the tool names them
abbrev pub name_of_rule : ScriptRule → List ℕ
name_of_rule UnknownWord = codes "unknown-word"
name_of_rule Words = codes "words"
name_of_rule BadNumber = codes "bad-number"
name_of_rule BadHex = codes "bad-hex"
name_of_rule OutOfRange = codes "out-of-range"
name_of_rule Repeated = codes "repeated"
name_of_rule Order = codes "order"
name_of_rule TooMany = codes "too-many"
