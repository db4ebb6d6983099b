use Rattle.std.proofs.Common.{◌+◌, drop}
use Rattle.board_report.specs.FlashList.{object_text}
use Rattle.board_report.specs.Parts.{object_texts}
use Rattle.board_report.proofs.Parts.{part_between, texts_around}
use Rattle.board_report.proofs.list.write_objects.Goals as goal

pub returns-in_err-write_object : goal.returns-in_err-write_object
returns-in_err-write_object g c =
    let law = c.writes_compose.ensures in
    let flash = c.args.flash.now in
    let found = c.args.found.now in
    let i = c.loop-object.object-index in
    let parts = texts_around (object_text flash) found i _ c.loop-object-test.true in
    law.writes_part _ c.from_residual.ensures.0 (part_between law (object_texts flash (drop
    (i + 1) found)) (object_texts flash found) parts c.loop-object.invariant c.in_err-write_object.ensures)
