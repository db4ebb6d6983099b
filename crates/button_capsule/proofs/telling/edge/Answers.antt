use Rattle.grant_enter.specs.Homes.{own_of}
use Rattle.button_capsule.proofs.Visiting.{tells}
use Rattle.button_capsule.proofs.telling.edge.Goals as goal

pub returns-in-Ok-true-clause-own : goal.returns-in-Ok-true-clause-own
returns-in-Ok-true-clause-own c =
    tells _ _ _ c.args.id.life _ (own_of c.args.home.now c.args.id.slot) c.args.button c.args.state c.visit-told.result
    c.visit-told.ensures.visits (λ value seen queued value' own left. left) c.button_grants.ensures.driver

pub returns-in_default-clause-own : goal.returns-in_default-clause-own
returns-in_default-clause-own c =
    tells _ _ _ c.args.id.life _ (own_of c.args.home.now c.args.id.slot) c.args.button c.args.state c.visit-told.result
    c.visit-told.ensures.visits (λ value seen queued value' own left. left) c.button_grants.ensures.driver

pub returns-in_default-2-clause-own : goal.returns-in_default-2-clause-own
returns-in_default-2-clause-own c =
    tells _ _ _ c.args.id.life _ (own_of c.args.home.now c.args.id.slot) c.args.button c.args.state c.visit-told.result
    c.visit-told.ensures.visits (λ value seen queued value' own left. left) c.button_grants.ensures.driver
