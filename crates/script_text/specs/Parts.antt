-- Only proofs use this: parts of the definitions by name, for the contracts of inner functions.
use Rattle.std.specs.Prelude.{ℕ, ◌==◌, ◌||◌, ◌&&◌, nat_le, nat_lt, Bool, List, length, unwrap_or}
use Rattle.std.specs.Int.{w32, from_be_bytes}
use Rattle.std.specs.Str.{bytes_eq}
use Rattle.tk_base.specs.declared.process.Verb.{Verb}
use Rattle.tk_base.specs.declared.process.Verb.TheVariants as verbs
use Rattle.tk_base.specs.Verbs.{verb_of}
use Rattle.decimal_number.specs.Number.{number}
use Rattle.script_text.specs.declared.line.Context.{Context}
use Rattle.script_text.specs.declared.table.Key.{Key as KeyWord}
use Rattle.script_text.specs.declared.table.Line.{Line}
use Rattle.script_text.specs.Settings.{ScriptSettings}
use Rattle.script_text.specs.Table.{Key}
use Rattle.script_text.specs.Text.{words, word}
use Rattle.script_text.specs.Said.{lines_of, hex_bytes}

-- the byte that ends a line
abbrev pub is_line_feed : ℕ → Bool
is_line_feed byte = byte == 10

-- space or tab, and nothing else
abbrev pub is_blank : ℕ → Bool
is_blank byte = byte == 32 || byte == 9

-- whether there are no bytes
abbrev pub is_empty : List ℕ → Bool
is_empty bytes = length bytes == 0

-- a visible character of ASCII
abbrev pub is_visible : ℕ → Bool
is_visible byte = nat_le 0x21 byte && nat_le byte 0x7e

-- what the code has of a key
abbrev pub key_of : KeyWord → Key
key_of k = record { place = k.place; word = k.word.now }

-- the word of a key stands in its place, or none does
abbrev pub is_key : List (List ℕ) → Key → Bool
is_key ws key = nat_le (length ws) key.place || bytes_eq (word ws key.place) key.word

-- whether there is such a line
abbrev pub stands : Line → List (List ℕ) → Bool
stands line all = nat_lt 0 (length (lines_of line all))

-- the number that comes second in a line
abbrev pub number_on : List ℕ → ℕ
number_on text = number (word (words text) 1)

-- the number that eight hex digits write
abbrev pub hex_word : List ℕ → ℕ
hex_word w = from_be_bytes w32 (hex_bytes w)

-- the verb of a line of an act, which has one
abbrev pub verb_on : List (List ℕ) → Verb
verb_on ws = unwrap_or (verb_of (word ws 3)) verbs.List

-- what a line is looked at by, where lines said this: how many buttons there are, and whether there are time partitions
abbrev pub context_of : ScriptSettings → Context
context_of said = record { buttons = said.buttons; is_partitioned = nat_lt 0 said.partition }
