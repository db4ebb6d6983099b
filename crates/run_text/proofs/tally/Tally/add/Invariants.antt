use Rattle.std.proofs.Common.{◌≡◌, ◌+◌, ◌%◌, ◌^◌, take}
use Rattle.std.specs.Prelude.{sum}
use Rattle.run_text.proofs.tally.Tally.add.Given as goal

-- the count is as it was, and the bytes so far are added to the sum
abbrev pub invariant-loop-byte : goal.invariant-loop-byte
invariant-loop-byte l =
    l.self ≡ record l.initial.self { sum = (l.initial.self.sum + sum (take l.byte-index l.bytes)) % 2 ^ 32 }
