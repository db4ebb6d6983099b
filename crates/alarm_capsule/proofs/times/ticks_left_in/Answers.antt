use Rattle.std.proofs.Common.{Some, ap, rules, sym, ◌∙◌}
use Rattle.alarm_capsule.proofs.KeptTimes.{nobody_tells}
use Rattle.alarm_capsule.proofs.Living.{becomes_due, left_of_it, present}
use Rattle.alarm_capsule.proofs.times.ticks_left_in.Goals as goal

pub returns-in_err-id-clause-is : goal.returns-in_err-id-clause-is
returns-in_err-id-clause-is c =
    c.from_residual.ensures
    ∙ sym (nobody_tells c.args.now c.args.slot _ (sym c.id.ensures ∙ c.in_err-id.was))

pub alarm_of-requires : goal.alarm_of-requires
alarm_of-requires c = present c.args.slot c.args.home.now c.in_ok-id.id (sym c.id.ensures ∙ c.in_ok-id.was)

pub returns-in_err-alarm-clause-is : goal.returns-in_err-alarm-clause-is
returns-in_err-alarm-clause-is c =
    c.from_residual-in_err-alarm.ensures
    ∙ left_of_it c.args.now c.args.slot c.args.home.now c.in_ok-id.id _ (sym c.id.ensures ∙ c.in_ok-id.was)
    (sym c.in_err-alarm.was ∙ c.alarm_of.ensures)

pub returns-clause-is : goal.returns-clause-is
returns-clause-is c =
    ap Some c.ticks_left.ensures
    ∙ left_of_it c.args.now c.args.slot c.args.home.now c.in_ok-id.id _ (sym c.id.ensures ∙ c.in_ok-id.was)
    (sym c.in_ok-alarm.was ∙ c.alarm_of.ensures)

pub returns-clause-due : goal.returns-clause-due
returns-clause-due c =
    becomes_due c.args.now c.args.slot _ c.args.home.now c.in_ok-id.id _ (sym c.id.ensures ∙ c.in_ok-id.was)
    (sym c.in_ok-alarm.was ∙ c.alarm_of.ensures) c.ticks_left.ensures (search rules) (search rules)
