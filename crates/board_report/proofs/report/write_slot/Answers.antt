use Rattle.board_report.specs.Report.{slot_text}
use Rattle.board_report.proofs.report.write_slot.Goals as goal

pub returns-in_err-write_head : goal.returns-in_err-write_head
unfolding slot_text
returns-in_err-write_head g c =
    let law = c.writes_compose.ensures in
    let e = c.in_err-write_head.ensures in
    law.writes_part _ c.from_residual.ensures.0 (law.part_of_more _ e)

pub returns-in_err-write_state : goal.returns-in_err-write_state
unfolding slot_text
returns-in_err-write_state g c =
    let law = c.writes_compose.ensures in
    let head = c.in_ok-write_head.ensures in
    let e = c.in_err-write_state.ensures in
    law.writes_part _ c.from_residual-in_err-write_state.ensures.0 (law.all_then_part head (law.part_of_more _ e))

pub returns-in_err-write_turns : goal.returns-in_err-write_turns
unfolding slot_text
returns-in_err-write_turns g c =
    let law = c.writes_compose.ensures in
    let head = c.in_ok-write_head.ensures in
    let state = c.in_ok-write_state.ensures in
    let e = c.in_err-write_turns.ensures in
    law.writes_part _ c.from_residual-in_err-write_turns.ensures.0 (law.all_then_part head
    (law.all_then_part state (law.part_of_more _ e)))

pub returns : goal.returns
unfolding slot_text
returns g c =
    let law = c.writes_compose.ensures in
    let head = c.in_ok-write_head.ensures in
    let state = c.in_ok-write_state.ensures in
    let turns = c.in_ok-write_turns.ensures in
    law.all_then_writes _ _ _ head (law.all_then_writes _ _ _ state
    (law.all_then_writes _ _ _ turns c.write_dropped.ensures))
