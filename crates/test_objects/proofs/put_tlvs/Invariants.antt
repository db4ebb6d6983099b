use Rattle.std.proofs.Common.{◌≤◌, length}
use Rattle.test_objects.proofs.put_tlvs.Given as goal

abbrev pub invariant-loop-tlv : goal.invariant-loop-tlv
invariant-loop-tlv l = l.next ≤ length l.bytes
