use Rattle.std.proofs.Common.{◌+◌, ◌-◌, ℕ, fold, Option, ap, ◌∙◌}
use Rattle.std.specs.List.{range_with_len}
use Rattle.tk_base.specs.declared.limits.TheConstants.{SLOT_COUNT}
use Rattle.driver_model.specs.Alarm.{ticks_left_in, nearer}
use Rattle.driver_model.specs.Parts.{nearer_with}
use Rattle.alarm_capsule.proofs.Slots.{all_folded, folded}
use Rattle.alarm_capsule.proofs.times.AlarmTimes.next_of_all.Goals as goal

pub loop-slot-preserved : goal.loop-slot-preserved
loop-slot-preserved c =
    let slot : ℕ = c.loop-slot.slot in
    let left = c.left_in.ensures ∙ ap (λ (n : ℕ). ticks_left_in c.args.now c.args.home.now.owns n) c.new.ensures in
    let least = c.nearer-least.ensures ∙ ap (λ (o : Option ℕ). nearer c.loop-slot.least o) left in
    ap (λ (o : Option ℕ). fold (nearer_with c.args.now c.args.home.now.owns) o
    (range_with_len (slot + 1) (SLOT_COUNT - (slot + 1)))) least
    ∙ folded (nearer_with c.args.now c.args.home.now.owns) c.loop-slot.least slot SLOT_COUNT c.loop-slot-test.true
    ∙ c.loop-slot.invariant

pub returns : goal.returns
returns c = all_folded (nearer_with c.args.now c.args.home.now.owns) c.loop-slot.least c.loop-slot.slot SLOT_COUNT
    c.loop-slot-test.false ∙ c.loop-slot.invariant
