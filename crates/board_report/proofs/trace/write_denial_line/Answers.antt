use Rattle.board_report.specs.Parts.{denial_line}
use Rattle.board_report.proofs.trace.write_denial_line.Goals as goal

pub returns-in_err-write_head : goal.returns-in_err-write_head
unfolding denial_line
returns-in_err-write_head g c =
    let law = c.writes_compose.ensures in
    law.writes_part _ c.from_residual.ensures.0 (law.part_of_more _ c.in_err-write_head.ensures)

pub returns-in_err-write_denial : goal.returns-in_err-write_denial
unfolding denial_line
returns-in_err-write_denial g c =
    let law = c.writes_compose.ensures in
    law.writes_part _ c.from_residual-in_err-write_denial.ensures.0
    (law.all_then_part c.in_ok-write_head.ensures (law.part_of_more _ c.in_err-write_denial.ensures))

pub returns : goal.returns
unfolding denial_line
returns g c =
    let law = c.writes_compose.ensures in
    let told = law.all_then_writes _ _ _ c.in_ok-write_denial.ensures c.put_all.ensures in
    law.all_then_writes _ _ _ c.in_ok-write_head.ensures told
