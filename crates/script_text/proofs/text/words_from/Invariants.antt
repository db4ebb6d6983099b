use Rattle.std.proofs.Common.{◌≡◌, drop}
use Rattle.script_text.specs.Text.{words}
use Rattle.script_text.proofs.text.words_from.Given as goal

abbrev pub invariant-loop : goal.invariant-loop
invariant-loop l = l.words ≡ drop l.counter (words l.line)
