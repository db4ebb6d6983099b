use Rattle.board_report.specs.Words.{newline}
use Rattle.board_views.specs.Places.{place_text}
use Rattle.board_views.proofs.place.write_place.Goals as goal

pub returns-in_err-write_head : goal.returns-in_err-write_head
unfolding place_text
returns-in_err-write_head g c =
    let law = c.writes_compose.ensures in
    law.writes_part _ c.from_residual.ensures.0 (law.part_of_more _ c.in_err-write_head.ensures)

pub returns-in_err-put_all : goal.returns-in_err-put_all
unfolding place_text
returns-in_err-put_all g c =
    let law = c.writes_compose.ensures in
    law.writes_part _ c.from_residual-in_err-put_all.ensures.0 (law.all_then_part c.in_ok-write_head.ensures
    (law.part_of_more _ (rw c.place_word.ensures at c.in_err-put_all.ensures)))

pub returns-in_err-write_word : goal.returns-in_err-write_word
unfolding place_text
returns-in_err-write_word g c =
    let law = c.writes_compose.ensures in
    law.writes_part _ c.from_residual-in_err-write_word.ensures.0
    (law.all_then_part c.in_ok-write_head.ensures
    (law.all_then_part (rw c.place_word.ensures at c.in_ok-put_all.ensures)
    (law.part_of_more _ (rw c.pc.ensures at c.in_err-write_word.ensures))))

pub returns-in_err-write_registers : goal.returns-in_err-write_registers
unfolding place_text
returns-in_err-write_registers g c =
    let law = c.writes_compose.ensures in
    law.writes_part _ c.from_residual-in_err-write_registers.ensures.0
    (law.all_then_part c.in_ok-write_head.ensures
    (law.all_then_part (rw c.place_word.ensures at c.in_ok-put_all.ensures)
    (law.all_then_part (rw c.pc.ensures at c.in_ok-write_word.ensures)
    (law.part_of_more newline c.in_err-write_registers.ensures))))

pub returns : goal.returns
unfolding place_text
returns g c =
    let law = c.writes_compose.ensures in
    law.all_then_writes _ _ _ c.in_ok-write_head.ensures
    (law.all_then_writes _ _ _ (rw c.place_word.ensures at c.in_ok-put_all.ensures)
    (law.all_then_writes _ _ _ (rw c.pc.ensures at c.in_ok-write_word.ensures)
    (law.all_then_writes _ _ _ c.in_ok-write_registers.ensures c.put_all-2.ensures)))
