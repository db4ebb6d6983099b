use Rattle.board_report.specs.Report.{report_text}
use Rattle.board_report.proofs.report.write_report.Goals as goal

pub returns-in_err-write_slots : goal.returns-in_err-write_slots
unfolding report_text
returns-in_err-write_slots g c =
    let law = c.writes_compose.ensures in
    let e = c.in_err-write_slots.ensures in
    law.writes_part _ c.from_residual.ensures.0 (law.part_of_more _ (rw c.deref.ensures.0 at e))

pub returns-in_err-write_all_unplaced : goal.returns-in_err-write_all_unplaced
unfolding report_text
returns-in_err-write_all_unplaced g c =
    let law = c.writes_compose.ensures in
    let slots = c.in_ok-write_slots.ensures in
    let e = c.in_err-write_all_unplaced.ensures in
    law.writes_part _ c.from_residual-in_err-write_all_unplaced.ensures.0 (law.all_then_part
    (rw c.deref.ensures.0 at slots) (law.part_of_more _ (rw c.deref-2.ensures.0 at e)))

pub returns-in_err-write_leds : goal.returns-in_err-write_leds
unfolding report_text
returns-in_err-write_leds g c =
    let law = c.writes_compose.ensures in
    let slots = c.in_ok-write_slots.ensures in
    let apps = c.in_ok-write_all_unplaced.ensures in
    let e = c.in_err-write_leds.ensures in
    law.writes_part _ c.from_residual-in_err-write_leds.ensures.0 (law.all_then_part
    (rw c.deref.ensures.0 at slots) (law.all_then_part (rw c.deref-2.ensures.0 at apps) (law.part_of_more _ e)))

pub returns : goal.returns
unfolding report_text
returns g c =
    let law = c.writes_compose.ensures in
    let slots = c.in_ok-write_slots.ensures in
    let apps = c.in_ok-write_all_unplaced.ensures in
    let leds = c.in_ok-write_leds.ensures in
    law.all_then_writes _ _ _ (rw c.deref.ensures.0 at slots) (law.all_then_writes _ _ _
    (rw c.deref-2.ensures.0 at apps) (law.all_then_writes _ _ _ leds c.write_end.ensures))
