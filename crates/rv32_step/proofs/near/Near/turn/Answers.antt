use Rattle.rv32_step.proofs.Known.{is_turned}
use Rattle.rv32_step.proofs.near.Near.turn.Goals as goal

pub returns-in-Some-clause-turned : goal.returns-in-Some-clause-turned
returns-in-Some-clause-turned g c =
    is_turned _ _ _ _ _ _ c.start.ensures.even c.start.ensures.ends c.requires c.entry-entry.result
    c.entry-entry.ensures.tells c.entry-entry.ensures.reach c.in-Some.ensures.0 c.in-Some.ensures.1.serves
