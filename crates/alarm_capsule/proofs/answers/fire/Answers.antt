use Rattle.alarm_capsule.proofs.Firing.{fires}
use Rattle.alarm_capsule.proofs.answers.fire.Goals as goal

pub returns-clause-own : goal.returns-clause-own
returns-clause-own c =
    fires _ _ _ _ _ _ c.args.due.now.alarm c.visit.result c.visit.ensures.visits
    (λ value seen answer value' own left. left) c.alarms.ensures.driver c.expiration.ensures
    c.requires.due.there.present c.requires.due.alarm
