use Rattle.std.proofs.Common.{ap, arith, length, map, sym, ◌∙◌, ◌≡◌}
use Rattle.turn_scheduler.specs.Parts.{place_is_ready}
use Rattle.kernel_model.specs.Run.{ready_slots}
use Rattle.kernel_model.specs.Turn.{may_turn}
use Rattle.kernel_model.specs.World.{World, only_in}
use Rattle.board_core.proofs.Boards.{turns_long}
use Rattle.board_core.proofs.Tables.{all_flags, flag_more, length-may_go}
use Rattle.board_core.proofs.board.Board.add_ready.Goals as goal

pub loop-slot-preserved : goal.loop-slot-preserved
loop-slot-preserved c =
    let w = c.args.self.now in
    let long : length (ready_slots w) ≡ length c.self.inside.state.processes.items =
    length-may_go (only_in w) (map may_turn w.records)
    ∙ ap (λ (w : World). length (map may_turn w.records)) (sym c.self.view_is)
    ∙ turns_long c.self.invariant in
    flag_more (ready_slots w) c.loop-slot.slot c.slot_is_ready.result c.loop-slot.ready.items c.push.new.self.items
    (omega (arith, long, c.len-slot-end.ensures, c.loop-slot-test.true))
    (c.slot_is_ready.ensures ∙ ap (place_is_ready (ready_slots w)) c.new.ensures)
    c.loop-slot.invariant c.push.ensures.items

pub returns : goal.returns
returns c =
    let w = c.args.self.now in
    let long : length (ready_slots w) ≡ length c.self.inside.state.processes.items =
    length-may_go (only_in w) (map may_turn w.records)
    ∙ ap (λ (w : World). length (map may_turn w.records)) (sym c.self.view_is)
    ∙ turns_long c.self.invariant in
    all_flags (ready_slots w) c.loop-slot.slot c.loop-slot.ready.items
    (omega (arith, long, c.len-slot-end.ensures, c.loop-slot-test.false)) c.loop-slot.invariant
