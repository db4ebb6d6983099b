use Rattle.std.proofs.Common.{◌≡◌, ◌-◌, find, slice_get}
use Rattle.std.specs.List.{range_with_len}
use Rattle.tk_base.specs.declared.limits.TheConstants.{SLOT_COUNT}
use Rattle.driver_model.specs.Alarm.{due_slot, has_due}
use Rattle.alarm_capsule.proofs.standard.first_expired.Given as goal

-- what is first among the slots that are left is first among all
abbrev pub invariant-loop-slot : goal.invariant-loop-slot
invariant-loop-slot l =
    find (λ slot. has_due l.now (slice_get l.home.owns slot)) (range_with_len l.slot (SLOT_COUNT - l.slot))
    ≡ due_slot l.now l.home.owns
