use Rattle.board_report.specs.Report.{leds_text}
use Rattle.board_report.specs.Parts.{led_list}
use Rattle.board_report.proofs.report.write_leds.Goals as goal

pub returns-in_err-put_all : goal.returns-in_err-put_all
unfolding leds_text led_list
returns-in_err-put_all g c =
    let law = c.writes_compose.ensures in
    law.writes_part _ c.from_residual.ensures.0 (law.part_of_more _ c.in_err-put_all.ensures)

pub returns-in_err-write_led_list : goal.returns-in_err-write_led_list
unfolding leds_text led_list
returns-in_err-write_led_list g c =
    let law = c.writes_compose.ensures in
    law.writes_part _ c.from_residual-in_err-write_led_list.ensures.0
    (law.all_then_part c.in_ok-put_all.ensures (law.part_of_more _ c.in_err-write_led_list.ensures))

pub returns : goal.returns
unfolding leds_text led_list
returns g c =
    let law = c.writes_compose.ensures in
    let list = law.all_then_writes _ _ _ c.in_ok-write_led_list.ensures c.put_all-2.ensures in
    law.all_then_writes _ _ _ c.in_ok-put_all.ensures list
