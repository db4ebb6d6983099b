use Rattle.std.proofs.Common.{◌≡◌, None, subst, sym}
use Rattle.board_devices.specs.declared.answer.Answer.{Answer}
use Rattle.grant_enter.specs.Homes.{own_of}
use Rattle.driver_model.specs.Alarm.{alarm_in}
use Rattle.alarm_capsule.proofs.Firing.{fired_unarmed}
use Rattle.alarm_capsule.proofs.capsule.AlarmCapsule.answer_by.Goals as goal

pub returns-clause-disarmed : goal.returns-clause-disarmed
returns-clause-disarmed c =
    let due = c.in-Some.due in
    let home = c.fire.new.home in
    subst (λ (a : Answer). alarm_in (own_of home a.to.slot) ≡ None) (sym c.fire.ensures.answer)
    (fired_unarmed c.args.now (own_of c.args.home.now due.id.slot) (own_of home due.id.slot) due.alarm
    c.in-Some.ensures.due.alarm c.fire.ensures.own)
