use Rattle.std.proofs.Common.{◌≤◌, length}
use Rattle.test_objects.proofs.put_bytes.Given as goal

abbrev pub invariant-loop-byte : goal.invariant-loop-byte
invariant-loop-byte l = l.next ≤ length l.bytes
