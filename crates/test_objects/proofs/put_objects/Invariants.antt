use Rattle.std.proofs.Common.{◌≤◌, length}
use Rattle.test_objects.proofs.put_objects.Given as goal

abbrev pub invariant-loop-object : goal.invariant-loop-object
invariant-loop-object l = l.next ≤ length l.bytes
