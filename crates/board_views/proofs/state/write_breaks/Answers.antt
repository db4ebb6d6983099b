use Rattle.board_views.specs.States.{breaks_text}
use Rattle.board_views.proofs.state.write_breaks.Goals as goal

pub returns-in_err-write_slot_line-2 : goal.returns-in_err-write_slot_line-2
unfolding breaks_text
returns-in_err-write_slot_line-2 g c =
    let law = c.writes_compose.ensures in
    rw (← c.layout.view_is) (law.writes_part _ c.from_residual-in_err-write_slot_line-2.ensures.0
    (law.all_then_part c.in_ok-write_slot_line.ensures (law.part_of_more _ c.in_err-write_slot_line-2.ensures)))
