use Rattle.std.proofs.Common.{◌≡◌, ◌++◌, take, drop}
use Rattle.tk_outside.proofs.mem_shelf.copy_front.Given as goal

abbrev pub invariant-loop-i : goal.invariant-loop-i
invariant-loop-i l = l.into ≡ take l.i l.bytes ++ drop l.i l.initial.into
