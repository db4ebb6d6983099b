use Rattle.std.proofs.Common.{sym}
use Rattle.alarm_capsule.proofs.Nearest.{no_nearest}
use Rattle.alarm_capsule.proofs.times.AlarmTimes.new.Goals as goal

pub invariant_of-result : goal.invariant_of-result
invariant_of-result c = (sym no_nearest, tt)
