use Rattle.std.proofs.Common.{Ok, ap, sym, ◌∙◌}
use Rattle.grant_enter.specs.Homes.{own_of}
use Rattle.alarm_capsule.proofs.Living.{armed_there, peeked}
use Rattle.alarm_capsule.proofs.times.alarm_of.Goals as goal

pub returns-in-Ok-Some : goal.returns-in-Ok-Some
returns-in-Ok-Some c =
    let id = c.args.id.now in
    ap armed_there (sym (c.in-Ok-Some.is ∙ ap Ok c.in-Ok-Some.field-0-is))
    ∙ peeked c.alarms.result id.life c.args.home.now.flash (own_of c.args.home.now id.slot)
    c.peek.result c.alarms.ensures.driver c.requires.present c.peek.ensures

pub returns-in_default-2 : goal.returns-in_default-2
returns-in_default-2 c =
    let id = c.args.id.now in
    ap armed_there (sym c.in_default.is)
    ∙ peeked c.alarms.result id.life c.args.home.now.flash (own_of c.args.home.now id.slot)
    c.peek.result c.alarms.ensures.driver c.requires.present c.peek.ensures
