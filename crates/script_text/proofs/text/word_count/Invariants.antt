use Rattle.std.proofs.Common.{◌≡◌, ◌+◌, length}
use Rattle.script_text.specs.Text.{words}
use Rattle.script_text.proofs.text.word_count.Given as goal

abbrev pub invariant-loop : goal.invariant-loop
invariant-loop l = l.count + length l.iterator' ≡ length (words l.line)
