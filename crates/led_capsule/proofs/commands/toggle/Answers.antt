use Rattle.std.proofs.Common.{Bool, not, ap, sym}
use Rattle.driver_model.specs.Commands.{Toggle}
use Rattle.led_capsule.proofs.commands.toggle.Goals as goal

pub returns-clause-obeys : goal.returns-clause-obeys
returns-clause-obeys c own = c.light.ensures.obeys own Toggle (ap (λ (on : Bool). not on) (sym c.is_on-on.ensures))
