use Rattle.std.proofs.Common.{◌≡◌, not, drop, find}
use Rattle.script_text.specs.Rules.{is_hex}
use Rattle.script_text.specs.Text.{words}
use Rattle.script_text.proofs.line.has_other_than_hex.Given as goal

abbrev pub invariant-loop-word : goal.invariant-loop-word
invariant-loop-word l =
    find (λ w. not (is_hex l.digits w)) l.word-iterator
    ≡ find (λ w. not (is_hex l.digits w)) (drop l.place (words l.line))
