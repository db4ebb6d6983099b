use Rattle.std.proofs.Common.{◌+◌, ◌-◌, map}
use Rattle.std.specs.List.{range_with_len}
use Rattle.board_report.specs.Report.{led_text}
use Rattle.board_report.specs.Parts.{led_texts}
use Rattle.board_report.proofs.Parts.{part_between, leds_around, leds_more}
use Rattle.board_report.proofs.report.write_led_states.Goals as goal

pub returns-in_err-put_all : goal.returns-in_err-put_all
returns-in_err-put_all g c =
    let law = c.writes_compose.ensures in
    let e = c.in_err-put_all.ensures in
    law.writes_part _ c.from_residual.ensures.0 (part_between law (map (led_text c.args.leds)
    (range_with_len (c.loop-led.led + 1) (c.args.count - (c.loop-led.led + 1))))
    (led_texts c.args.leds c.args.count) (leds_around c.args.leds c.loop-led.led c.args.count c.loop-led-test.true)
    c.loop-led.invariant (rw c.led_glyph.ensures at e))

pub loop-led-preserved : goal.loop-led-preserved
loop-led-preserved g c =
    let law = c.writes_compose.ensures in
    let e = c.in_ok-put_all.ensures in
    rw (leds_more c.args.leds c.loop-led.led) (law.all_then_all c.loop-led.invariant (rw c.led_glyph.ensures at e))
