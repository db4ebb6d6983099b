use Rattle.board_views.specs.StopLines.{line_of_stop}
use Rattle.board_views.proofs.stop.write_told.Goals as goal

pub returns-in_err-put_all : goal.returns-in_err-put_all
unfolding line_of_stop
returns-in_err-put_all g c =
    let law = c.writes_compose.ensures in
    law.writes_part _ c.from_residual.ensures.0 (law.part_of_more _ c.in_err-put_all.ensures)

pub returns : goal.returns
unfolding line_of_stop
returns g c = c.writes_compose.ensures.all_then_writes _ _ _ c.in_ok-put_all.ensures c.write_line.ensures
