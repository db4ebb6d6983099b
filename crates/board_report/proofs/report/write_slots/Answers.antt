use Rattle.std.proofs.Common.{◌+◌, drop}
use Rattle.board_report.specs.Report.{slot_texts}
use Rattle.board_report.proofs.Parts.{part_between, slots_around, slots_more}
use Rattle.board_report.proofs.report.write_slots.Goals as goal

pub returns-in_err-write_slot : goal.returns-in_err-write_slot
returns-in_err-write_slot g c =
    let law = c.writes_compose.ensures in
    let e = c.in_err-write_slot.ensures in
    law.writes_part _ c.from_residual.ensures.0 (part_between law (slot_texts (c.loop-slot.slot + 1)
    (drop (c.loop-slot.slot + 1) c.args.lines.now)) (slot_texts 0 c.args.lines.now)
    (slots_around c.loop-slot.slot c.args.lines.now c.index-lines-slot.result c.loop-slot-test.true
    c.index-lines-slot.is) c.loop-slot.invariant e)

pub loop-slot-preserved : goal.loop-slot-preserved
loop-slot-preserved g c =
    let law = c.writes_compose.ensures in
    let e = c.in_ok-write_slot.ensures in
    rw (slots_more c.loop-slot.slot c.args.lines.now c.index-lines-slot.result c.loop-slot-test.true
    c.index-lines-slot.is) (law.all_then_all c.loop-slot.invariant e)
