use Rattle.std.proofs.Common.{◌≤◌, length}
use Rattle.test_objects.proofs.put_words.Given as goal

abbrev pub invariant-loop-word : goal.invariant-loop-word
invariant-loop-word l = l.next ≤ length l.bytes
