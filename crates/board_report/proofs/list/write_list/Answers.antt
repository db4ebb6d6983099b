use Rattle.board_report.specs.FlashList.{list_text}
use Rattle.board_report.specs.Parts.{count_text}
use Rattle.board_report.proofs.list.write_list.Goals as goal

pub returns-in_err-write_objects : goal.returns-in_err-write_objects
unfolding list_text count_text
returns-in_err-write_objects g c =
    let law = c.writes_compose.ensures in
    let e = c.in_err-write_objects.ensures in
    law.writes_part _ c.from_residual.ensures.0 (law.part_of_more _ (rw c.requires.found at e))

pub returns : goal.returns
unfolding list_text count_text
returns g c =
    let law = c.writes_compose.ensures in
    let lines = c.in_ok-write_objects.ensures in
    law.all_then_writes _ _ _ (rw c.requires.found at lines) (rw c.requires.found at c.write_count.ensures)
