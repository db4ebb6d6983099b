use Rattle.alarm_capsule.proofs.First.{FindsNearest}
use Rattle.alarm_capsule.proofs.times.nearest_of.Given as goal

-- what is found of the slots so far
abbrev pub invariant-loop-slot : goal.invariant-loop-slot
invariant-loop-slot l = FindsNearest l.times l.nearest l.first l.slot
