use Rattle.std.proofs.Common.{length, refl}
use Rattle.driver_model.specs.Commands.{On, Off}
use Rattle.led_capsule.proofs.Rows.{obeyed, toggles, turns_off, turns_on}
use Rattle.led_capsule.proofs.commands.obey.Goals as goal

pub returns-in-1-clause-obeys : goal.returns-in-1-clause-obeys
returns-in-1-clause-obeys c own =
    obeyed c.args.leds.now c.light.new.leds c.light.result _ _
    (turns_on (length c.args.leds.now) c.args.number c.args.a2 own c.in-1.is) (c.light.ensures.obeys own On refl)

pub returns-in-2-clause-obeys : goal.returns-in-2-clause-obeys
returns-in-2-clause-obeys c own =
    obeyed c.args.leds.now c.light-in-2.new.leds c.light-in-2.result _ _
    (turns_off (length c.args.leds.now) c.args.number c.args.a2 own c.in-2.is) (c.light-in-2.ensures.obeys own Off refl)

pub returns-in-3-clause-obeys : goal.returns-in-3-clause-obeys
returns-in-3-clause-obeys c own =
    obeyed c.args.leds.now c.toggle.new.leds c.toggle.result _ _
    (toggles (length c.args.leds.now) c.args.number c.args.a2 own c.in-3.is) (c.toggle.ensures.obeys own)
