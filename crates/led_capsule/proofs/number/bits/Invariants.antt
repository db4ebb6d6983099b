use Rattle.std.proofs.Common.{◌≡◌, ◌<◌, ◌^◌, take}
use Rattle.tk_base.specs.Bits.{bits_of}
use Rattle.led_capsule.proofs.number.bits.Given as goal

-- the bits of the LEDs so far
abbrev pub invariant-loop-led : goal.invariant-loop-led
invariant-loop-led l = (l.bits ≡ bits_of (take l.led l.leds)) × (l.bits < 2 ^ l.led)
