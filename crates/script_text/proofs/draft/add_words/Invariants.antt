use Rattle.std.proofs.Common.{◌≡◌, ◌++◌, not, map, drop, find, Some, None}
use Rattle.script_text.specs.Rules.{is_hex}
use Rattle.script_text.specs.Parts.{hex_word}
use Rattle.script_text.specs.Text.{words}
use Rattle.script_text.proofs.draft.add_words.Given as goal

abbrev pub invariant-loop-word : goal.invariant-loop-word
invariant-loop-word l = record {
  taken : l.list.items ++ map hex_word l.word-iterator ≡ l.fn.list.items ++ map hex_word (drop 1 (words l.text));
  hex : find (λ w. not (is_hex (Some 8) w)) l.word-iterator ≡ None;
}
