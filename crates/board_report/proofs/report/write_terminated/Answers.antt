use Rattle.board_report.proofs.report.write_terminated.Goals as goal

pub returns-in_err-put_all : goal.returns-in_err-put_all
returns-in_err-put_all g c =
    let law = c.writes_compose.ensures in
    law.writes_part _ c.from_residual.ensures.0 (law.part_of_more _ c.in_err-put_all.ensures)

pub returns : goal.returns
returns g c =
    let law = c.writes_compose.ensures in
    law.all_then_writes _ _ _ c.in_ok-put_all.ensures (rw c.from.ensures at c.put_number.ensures)
