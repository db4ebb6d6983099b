use Rattle.std.proofs.Common.{◌^◌, Bool, cond, ap, ◌∙◌, arith}
use Rattle.led_capsule.proofs.Numbers.{bits_all, bits_more}
use Rattle.led_capsule.proofs.number.bits.Goals as goal

pub loop-led-preserved : goal.loop-led-preserved
loop-led-preserved c =
    bits_more c.args.leds.now c.loop-led.led c.loop-led.bits c.bit-bits.result
    (omega (arith, c.loop-led-test.true, c.len-led-end.ensures.number)) c.loop-led.invariant.0
    (c.bit-bits.ensures ∙ ap (λ (on : Bool). cond on (2 ^ c.loop-led.led) 0) c.is_on.ensures)

pub returns : goal.returns
returns c = bits_all c.args.leds.now c.loop-led.led c.loop-led.bits
    (omega (arith, c.loop-led-test.false, c.len-led-end.ensures.number)) c.loop-led.invariant.0
