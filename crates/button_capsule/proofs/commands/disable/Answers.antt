use Rattle.std.proofs.Common.{◌≡◌, false, ap, ◌∙◌, arith}
use Rattle.syscall_abi.specs.declared.reply.Reply.TheVariants.{Success}
use Rattle.driver_model.specs.Buttons.{set_enabled}
use Rattle.driver_model.specs.Commands.{accepting}
use Rattle.grant_enter.specs.Homes.{own_of}
use Rattle.button_capsule.proofs.Visiting.{disables, in_range}
use Rattle.button_capsule.proofs.commands.disable.Goals as goal

pub returns-clause-answer : goal.returns-clause-answer
returns-clause-answer c =
    let own = own_of c.args.home.now c.args.id.slot in
    let left : own_of c.visit.new.home c.args.id.slot ≡ set_enabled c.args.button false own =
    disables _ _ _ _ c.args.button c.visit.result c.visit.ensures.visits (λ value seen answer value' own left. left)
    c.button_grants.ensures.driver c.requires.present.present in
    ap (accepting Success) left
    ∙ in_range c.args.count c.args.button own (accepting Success (set_enabled c.args.button false own))
    (omega (arith, c.if-button-count.false))
