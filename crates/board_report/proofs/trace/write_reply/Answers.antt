use Rattle.board_report.proofs.trace.write_reply.Goals as goal

pub returns-in_err-put_all-in-Some : goal.returns-in_err-put_all-in-Some
returns-in_err-put_all-in-Some g c =
    let law = c.writes_compose.ensures in
    rw c.in-Some.is (law.writes_part _ c.from_residual.ensures.0 (law.part_of_more _ c.in_err-put_all-in-Some.ensures))

pub returns-in_ok-put_all-in-Some : goal.returns-in_ok-put_all-in-Some
returns-in_ok-put_all-in-Some g c =
    let law = c.writes_compose.ensures in
    rw c.in-Some.is (law.all_then_writes _ _ _ c.in_ok-put_all-in-Some.ensures c.write_registers.ensures)
