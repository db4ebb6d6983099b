use Rattle.std.proofs.Common.{◌+◌, ◌-◌}
use Rattle.std.specs.List.{flat_map, range_with_len}
use Rattle.board_report.proofs.Parts.{part_between}
use Rattle.board_views.specs.States.{slot_state, slots_state}
use Rattle.board_views.proofs.Texts.{range_around, range_more}
use Rattle.board_views.proofs.state.write_slots.Goals as goal

pub returns-in_err-write_slot_state : goal.returns-in_err-write_slot_state
returns-in_err-write_slot_state g c =
    let law = c.writes_compose.ensures in
    let i = c.loop-n.n in
    law.writes_part _ c.from_residual.ensures.0
    (part_between law (flat_map (slot_state c.args.board.now) (range_with_len (i + 1) (16 - (i + 1))))
    (slots_state c.args.board.now) (range_around (slot_state c.args.board.now) i 16 c.loop-n-test.true)
    c.loop-n.invariant (rw c.new.ensures at c.in_err-write_slot_state.ensures))

pub loop-n-preserved : goal.loop-n-preserved
loop-n-preserved g c =
    let law = c.writes_compose.ensures in
    rw (range_more (slot_state c.args.board.now) c.loop-n.n)
    (law.all_then_all c.loop-n.invariant (rw c.new.ensures at c.in_ok-write_slot_state.ensures))
