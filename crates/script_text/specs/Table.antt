-- The table of lines: the words of each, which numbers may stand in it, and the number that holds where no line gives
-- it. Places count from 0. It is this board's own.
use Rattle.std.specs.Prelude.{ℕ, ◌%◌, ◌==◌, Bool, true, false, ◌&&◌, ◌||◌, nat_le, List, [], ◌∷◌, length, find, codes}
use Rattle.std.specs.Prelude.{Option, Some, None, is_some}
use Rattle.std.specs.Option.{option_map_or}
use Rattle.std.specs.Str.{bytes_eq}
use Rattle.tk_base.specs.declared.limits.TheConstants.{BUTTON_LIMIT, BYTE_TICKS_LIMIT, LED_LIMIT, RAM_LEAST}
use Rattle.tk_base.specs.declared.limits.TheConstants.{RAM_LIMIT, RAM_UNIT, SLICE_LIMIT, STORAGE_LIMIT, WINDOW_LIMIT}
use Rattle.tk_base.specs.Verbs.{verb_of}
use Rattle.script_text.specs.declared.table.Form.{Form}
use Rattle.script_text.specs.declared.table.Line.{Line}
use Rattle.script_text.specs.declared.table.Line.TheVariants.{Ram, Leds, Buttons, Slice, Partition, Start, Uart}
use Rattle.script_text.specs.declared.table.Line.TheVariants.{Storage, Stop, Restart, Threshold, FilterOpen}
use Rattle.script_text.specs.declared.table.Line.TheVariants.{FilterStrict, StorageFault, Random, Input}
use Rattle.script_text.specs.declared.table.Line.TheVariants.{Press, Release, Act}
use Rattle.script_text.specs.declared.table.NumberAt.{NumberAt}
use Rattle.script_text.specs.declared.table.Range.{Range}
use Rattle.script_text.specs.Text.{word}

-- the lines of the table, in its order
abbrev pub line_table : List Line
line_table =
    Ram ∷ Leds ∷ Buttons ∷ Slice ∷ Partition ∷ Start ∷ Uart ∷ Storage ∷ Stop ∷ Restart ∷ Threshold
    ∷ FilterOpen ∷ FilterStrict ∷ StorageFault ∷ Random ∷ Input ∷ Press ∷ Release ∷ Act ∷ []

-- the word that tells a line from others of its name, and its place
pub record Key : Type 0 where
  pub place : ℕ
  pub word : List ℕ

-- what the table says of a line: its name, the word that tells it from others of that name, the place of a verb, its
-- form, its default
pub record Row : Type 0 where
  pub name : List ℕ
  pub key : Option Key
  pub verb : Option ℕ
  pub form : Form
  pub default : ℕ

-- numbers from one to another, both among them
abbrev pub from_to : ℕ → ℕ → Range
from_to least most = record { least = least; most = most; multiple = 1 }

-- so many words, none of which has to be a number, a name or hex
abbrev pub plain_form : ℕ → Form
plain_form words = record { words = words; more = false; number = None; button = None; name = None; hex = None }

-- a line of a name, a form and a default, told from others of its name by a word in a place, if at all
abbrev pub plain_row : List ℕ → Option Key → Form → ℕ → Row
plain_row name key form default = record { name = name; key = key; verb = None; form = form; default = default }

-- a line of a name and a number
abbrev pub numbered : List ℕ → Range → ℕ → Row
numbered name range default =
    plain_row name None (record (plain_form 2) { number = Some (record { place = 1; range = range }) }) default

-- a line whose second word tells it from others of its name
abbrev pub chosen : List ℕ → List ℕ → ℕ → Option NumberAt → Row
chosen name word words number =
    plain_row name (Some (record { place = 1; word = word })) (record (plain_form words) { number = number }) 0

-- a line of what comes at a time, which is told by its third word
abbrev pub timed : List ℕ → Form → Row
timed word form =
    plain_row (codes "at") (Some (record { place = 2; word = word }))
    (record form { number = Some (record { place = 1; range = from_to 0 4294967295 }) }) 0

-- the rows of the table, with their ranges and defaults
abbrev pub row : Line → Row
row Ram = numbered (codes "ram") (record { least = RAM_LEAST; most = RAM_LIMIT; multiple = RAM_UNIT }) 65536
row Leds = numbered (codes "leds") (from_to 0 LED_LIMIT) 4
row Buttons = numbered (codes "buttons") (from_to 0 BUTTON_LIMIT) 0
row Slice = numbered (codes "slice") (from_to 1 SLICE_LIMIT) 100
row Partition = numbered (codes "partition") (from_to 1 WINDOW_LIMIT) 0
row Start = numbered (codes "start") (from_to 0 4294967295) 0
row Uart = numbered (codes "uart") (from_to 0 BYTE_TICKS_LIMIT) 1
row Storage = numbered (codes "storage") (from_to 0 STORAGE_LIMIT) 512
row Stop = chosen (codes "policy") (codes "stop") 2 None
row Restart = chosen (codes "policy") (codes "restart") 2 None
row Threshold =
    chosen (codes "policy") (codes "threshold") 3 (Some (record { place = 2; range = from_to 0 4294967295 }))
row FilterOpen = chosen (codes "filter") (codes "open") 2 None
row FilterStrict = chosen (codes "filter") (codes "strict") 2 None
row StorageFault = numbered (codes "storage-fault") (from_to 1 4294967295) 0
row Random =
    plain_row (codes "random") None
    (record (plain_form 2) { more = true; hex = Some (record { place = 1; digits = Some 8 }) }) 0
row Input = timed (codes "input") (record (plain_form 4) { hex = Some (record { place = 3; digits = None }) })
row Press = timed (codes "press") (record (plain_form 4) { button = Some 3 })
row Release = timed (codes "release") (record (plain_form 4) { button = Some 3 })
row Act = record (timed (codes "do") (record (plain_form 5) { name = Some 4 })) { verb = Some 3 }

-- a number may stand in a line
abbrev pub in_range : Range → ℕ → Bool
in_range range n = nat_le range.least n && nat_le n range.most && n % range.multiple == 0

-- the word in the place of a verb is one, or none stands there
abbrev pub has_verb : List (List ℕ) → Option ℕ → Bool
has_verb ws place = option_map_or (λ at. nat_le (length ws) at || is_some (verb_of (word ws at))) place true

-- a line's words are those of a row, as far as its verb, its name and its key go: the word of a key stands in its
-- place, or none does
abbrev pub line_fits : List (List ℕ) → Line → Bool
line_fits ws line =
    has_verb ws (row line).verb && (bytes_eq (word ws 0) (row line).name
    && option_map_or (λ key. nat_le (length ws) key.place || bytes_eq (word ws key.place) key.word) (row line).key true)

-- the line of the table that words are: the first one that fits
unfoldable pub line_of : List (List ℕ) → Option Line
line_of ws = find (line_fits ws) line_table
