use Rattle.std.proofs.Common.{◌≡◌, ℕ, Bool, true, false, Some, slice_get, ap, sym, ◌∙◌}
use Rattle.tk_base.specs.declared.limits.TheConstants.{SLOT_COUNT}
use Rattle.driver_model.specs.Alarm.{has_due}
use Rattle.alarm_capsule.proofs.Slots.{found, none_left, passed}
use Rattle.alarm_capsule.proofs.standard.first_expired.Goals as goal

pub returns-in-Some-clause-slot : goal.returns-in-Some-clause-slot
returns-in-Some-clause-slot c =
    let p : ℕ → Bool = λ slot. has_due c.args.now (slice_get c.args.home.now.owns slot) in
    let is : p c.loop-slot.slot ≡ true = ap p (sym c.new.ensures) ∙ sym c.in-Some.ensures.is in
    ap Some (c.in-Some.ensures.due.is_slot ∙ c.new.ensures)
    ∙ sym (found p c.loop-slot.slot SLOT_COUNT c.loop-slot-test.true is) ∙ c.loop-slot.invariant

pub returns-clause-slot : goal.returns-clause-slot
returns-clause-slot c =
    sym (none_left (λ slot. has_due c.args.now (slice_get c.args.home.now.owns slot)) c.loop-slot.slot SLOT_COUNT
    c.loop-slot-test.false) ∙ c.loop-slot.invariant

pub loop-slot-preserved : goal.loop-slot-preserved
loop-slot-preserved c =
    let p : ℕ → Bool = λ slot. has_due c.args.now (slice_get c.args.home.now.owns slot) in
    let is : p c.loop-slot.slot ≡ false = ap p (sym c.new.ensures) ∙ sym c.in_default.ensures.is in
    passed p c.loop-slot.slot SLOT_COUNT c.loop-slot-test.true is ∙ c.loop-slot.invariant
