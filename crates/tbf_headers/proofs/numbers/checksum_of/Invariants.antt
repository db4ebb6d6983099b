use Rattle.std.proofs.Common.{◌≡◌}
use Rattle.tbf_headers.specs.Numbers.{xor_of_words}
use Rattle.tbf_headers.proofs.numbers.checksum_of.Given as goal

-- the exclusive or of the words so far
abbrev pub invariant-loop-k : goal.invariant-loop-k
invariant-loop-k l = l.sum ≡ xor_of_words l.k l.header
