use Rattle.std.proofs.Common.{◌≡◌, ◌-◌, fold}
use Rattle.std.specs.List.{range_with_len}
use Rattle.tk_base.specs.declared.limits.TheConstants.{SLOT_COUNT}
use Rattle.driver_model.specs.Alarm.{next_left}
use Rattle.driver_model.specs.Parts.{nearer_with}
use Rattle.alarm_capsule.proofs.times.AlarmTimes.next_of_all.Given as goal

-- the slots that are left, folded in, lead to the least of all
abbrev pub invariant-loop-slot : goal.invariant-loop-slot
invariant-loop-slot l =
    fold (nearer_with l.now l.home.owns) l.least (range_with_len l.slot (SLOT_COUNT - l.slot))
    ≡ next_left l.now l.home.owns
