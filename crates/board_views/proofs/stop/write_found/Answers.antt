use Rattle.board_views.specs.StopLines.{found_text}
use Rattle.board_views.proofs.stop.write_found.Goals as goal

pub returns-in_err-put_all : goal.returns-in_err-put_all
unfolding found_text
returns-in_err-put_all g c =
    let law = c.writes_compose.ensures in
    rw c.in-Some.is (law.writes_part _ c.from_residual.ensures.0 (law.part_of_more _ c.in_err-put_all.ensures))

pub returns-in_err-put_number : goal.returns-in_err-put_number
unfolding found_text
returns-in_err-put_number g c =
    let law = c.writes_compose.ensures in
    rw c.in-Some.is (law.writes_part _ c.from_residual-in_err-put_number.ensures.0
    (law.all_then_part c.in_ok-put_all.ensures (law.part_of_more _ c.in_err-put_number.ensures)))

pub returns-in_err-put_all-2 : goal.returns-in_err-put_all-2
unfolding found_text
returns-in_err-put_all-2 g c =
    let law = c.writes_compose.ensures in
    rw c.in-Some.is (law.writes_part _ c.from_residual-in_err-put_all-2.ensures.0
    (law.all_then_part c.in_ok-put_all.ensures (law.all_then_part c.in_ok-put_number.ensures
    (law.part_of_more _ c.in_err-put_all-2.ensures))))

pub returns : goal.returns
unfolding found_text
returns g c =
    let law = c.writes_compose.ensures in
    rw c.in-Some.is (law.all_then_writes _ _ _ c.in_ok-put_all.ensures (law.all_then_writes _ _ _
    c.in_ok-put_number.ensures (law.all_then_writes _ _ _ c.in_ok-put_all-2.ensures c.write_stop.ensures)))
