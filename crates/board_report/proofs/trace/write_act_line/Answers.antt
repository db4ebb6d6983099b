use Rattle.board_report.specs.Parts.{act_line}
use Rattle.board_report.proofs.trace.write_act_line.Goals as goal

pub returns-in_err-write_head : goal.returns-in_err-write_head
unfolding act_line
returns-in_err-write_head g c =
    let law = c.writes_compose.ensures in
    law.writes_part _ c.from_residual.ensures.0 (law.part_of_more _ c.in_err-write_head.ensures)

pub returns : goal.returns
unfolding act_line
returns g c =
    let law = c.writes_compose.ensures in
    law.all_then_writes _ _ _ c.in_ok-write_head.ensures c.write_verb.ensures
