use Rattle.tk_outside.specs.Writes.{WroteAll}
use Rattle.board_report.specs.Parts.{led_texts}
use Rattle.board_report.proofs.report.write_led_states.Given as goal

-- the states so far were written
abbrev pub invariant-loop-led : goal.invariant-loop-led
invariant-loop-led g l = WroteAll g.K.Sink.tells l.initial.out l.out (led_texts l.leds l.led)
