use Rattle.alarm_capsule.proofs.Showing.{shown}
use Rattle.alarm_capsule.proofs.commands.show.Goals as goal

pub returns-clause-shown : goal.returns-clause-shown
returns-clause-shown c =
    shown _ _ _ _ _ c.visit.result c.visit.ensures.visits (λ value seen answer value' own left. left)
    c.alarms.ensures.driver c.requires.present
